use Rattle.std.proofs.Common.{◌≡◌, ◌%◌, ◌-◌, ◌*◌, ◌/◌, get_or, take, sym, ap, ◌∙◌, arith}
use Rattle.std.proofs.lemmas.List.{length-take-le, get_or-take}
use Rattle.packing.specs.Packing.{digits, written_at}
use Rattle.packing.proofs.Steps.{word-put, part-put}
use Rattle.packing.proofs.Written.{written_at-none}
use Rattle.packing.proofs.put_words.Goals as goal

pub loop-i-preserved : goal.loop-i-preserved
loop-i-preserved c =
    let ws = c.args.words.now in
    let i = c.loop-i.i in
    let l = length-take-le (c.args.len / 8) ws (omega arith) in
    let w : get_or (take (c.args.len / 8) ws) i 0 ≡ get_or ws i 0 = get_or-take (c.args.len / 8) ws i 0 (omega arith) in
    let e : c.put.new.out ≡ written_at (8 * i) (digits 256 8 (get_or ws i 0)) c.loop-i.out = c.put.ensures.bytes ∙ ap (λ v. written_at (8 * i) (digits 256 8 v) c.loop-i.out) w in
    rw e (word-put ws i c.args.len c.loop-i.out _ (omega arith) (omega arith) (omega arith) (omega (arith, c.type_inv.words i)) c.loop-i.invariant)

pub returns-then-len-ne0 : goal.returns-then-len-ne0
returns-then-len-ne0 c =
    let n = c.args.len in
    let l = length-take-le (n / 8) c.args.words.now (omega arith) in
    let i : c.loop-i.i ≡ n / 8 = omega arith in
    let r : n % 8 ≡ n - 8 * (n / 8) = omega arith in
    c.put-then-len-ne0.ensures.bytes
    ∙ ap (λ m. written_at (8 * (n / 8)) (digits 256 m (get_or c.args.words.now (n / 8) 0)) c.loop-i.out) r
    ∙ part-put c.args.words.now (n / 8) n c.loop-i.out _ (omega arith) (omega arith) (rw i at c.loop-i.invariant)

pub returns-else-len-ne0 : goal.returns-else-len-ne0
returns-else-len-ne0 c =
    let l = length-take-le (c.args.len / 8) c.args.words.now (omega arith) in
    let z : c.args.len - 8 * c.loop-i.i ≡ 0 = omega arith in
    sym (written_at-none (8 * c.loop-i.i) c.loop-i.out) ∙ (rw z at c.loop-i.invariant)
