use Rattle.std.proofs.Common.{arith, subst, ◌≡◌, ◌+◌, ◌-◌, ◌++◌, ◌≤◌, length, take, drop, sym, ap, ◌∙◌}
use native.Mathlib.Nat.{add-sub_cancel_left}
use Rattle.packing.specs.Packing.{digits, joined, written_at}
use Rattle.packing.proofs.Digits.{length_digits, joined-digits}
use Rattle.packing.proofs.Little.{take-digits}
use Rattle.packing.proofs.Written.{read-written_at}
use Rattle.packing.proofs.put.Goals as goal

pub returns-clause-bytes : goal.returns-clause-bytes
returns-clause-bytes c =
    let n = c.args.len in
    let at = c.args.at in
    let v = c.args.v in
    let out = c.args.out.now in
    let ds = digits 256 n v in
    let e : c.copy_from_slice.new.self ≡ ds = c.copy_from_slice.ensures.after ∙ ap (take n) (c.low_first.ensures ∙ grind arith) ∙ take-digits n v c.requires.few in
    let l : at + n - at ≡ length ds = add-sub_cancel_left at n ∙ sym (length_digits 256 n v) in
    λ i. take at out ++ (e i ++ drop (l i) (drop at out))

pub returns-clause-back : goal.returns-clause-back
returns-clause-back c = λ few.
    let n = c.args.len in
    let at = c.args.at in
    let v = c.args.v in
    let ds = digits 256 n v in
    let old = c.args.out.now in
    let within : at ≤ length old = omega (arith, c.requires.room) in
    let read : take n (drop at (written_at at ds old)) ≡ ds = subst (λ m. take m (drop at (written_at at ds old)) ≡ ds) (length_digits 256 n v) (read-written_at at ds old within) in
    ap (λ new. joined 256 (take n (drop at new))) (returns-clause-bytes c) ∙ ap (joined 256) read ∙ joined-digits 256 n v (omega arith) few
