use Rattle.std.proofs.Common.{◌≡◌, ◌^◌, ◌<◌, ◌++◌, length, take, drop, ap, ◌∙◌, arith}
use Rattle.std.proofs.lemmas.List.{length-take-le, length-drop}
use Rattle.packing.specs.Packing.{joined, Below}
use Rattle.packing.proofs.Below.{below-get_or, below-take, below-drop}
use Rattle.packing.proofs.Digits.{joined-lt}
use Rattle.packing.proofs.Little.{worth, zeros, from-part}
use Rattle.packing.proofs.get.Goals as goal

pub returns : goal.returns
returns c =
    let n = c.args.len in
    let at = c.args.at in
    let src = c.args.src.now in
    let bs = take n (drop at src) in
    let d = length-drop at src in
    let l : length bs ≡ n = length-take-le n (drop at src) (omega arith) in
    let e : c.copy_from_slice.new.self ≡ bs = c.copy_from_slice.ensures.after ∙ grind arith in
    let w : c.from_le_bytes.result ≡ worth (c.copy_from_slice.new.self ++ drop n (zeros 8)) = c.from_le_bytes.ensures in
    let v = w ∙ from-part n c.copy_from_slice.new.self (ap length e ∙ l) c.requires.few ∙ ap (joined 256) e in
    let below : Below 256 bs = below-take 256 n (drop at src) (below-drop 256 at src (below-get_or 256 src (λ k. omega (arith, c.type_inv.src k)))) in
    let j : joined 256 bs < 256 ^ n = rw l at (joined-lt 256 bs below) in
    record { value = v; small = rw v j }
