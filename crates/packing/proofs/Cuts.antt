-- A number above some bits, parted.
use Rattle.std.proofs.Common.{◌≡◌, ℕ, ◌+◌, ◌-◌, ◌*◌, ◌/◌, ◌%◌, ◌^◌, ◌<◌, ◌≤◌, sym, ap, ◌∙◌, arith, pow-add}
use Rattle.std.proofs.Math.Nat.{add-mod-mod, div-div-eq-div-mul}
use Rattle.std.proofs.Math.Pow.{mod-mod-pow}
use Rattle.std.proofs.lemmas.Nat.{div-mul-add}

-- what stands below bit s: bits from 64 on do not matter
pub cut-low : (acc v s : ℕ) → s ≤ 64 → (acc + v % 2 ^ 64) % 2 ^ 64 % 2 ^ s ≡ (acc + v) % 2 ^ s
cut-low acc v s wide =
    let t : 64 ≡ (64 - s) + s = omega arith in
    ap (λ n. n % 2 ^ s) (add-mod-mod acc v (2 ^ 64) ∙ ap (λ n. (acc + v) % 2 ^ n) t)
    ∙ mod-mod-pow (acc + v) (64 - s) s

-- what stands from bit s on
pub cut-high : (acc v fill s : ℕ) → acc < 2 ^ fill → fill < s → v / 2 / 2 ^ (s - fill - 1) ≡ (acc + v * 2 ^ fill) / 2 ^ s
cut-high acc v fill s small above =
    let one : 1 + (s - fill - 1) ≡ s - fill = omega arith in
    let all : fill + (s - fill) ≡ s = omega arith in
    let turn : v * 2 ^ fill + acc ≡ acc + v * 2 ^ fill = omega arith in
    div-div-eq-div-mul v 2 (2 ^ (s - fill - 1))
    ∙ ap (λ n. v / n) (sym (pow-add 2 1 (s - fill - 1)) ∙ ap (λ n. 2 ^ n) one)
    ∙ ap (λ n. n / 2 ^ (s - fill)) (sym (div-mul-add v (2 ^ fill) acc small) ∙ ap (λ n. n / 2 ^ fill) turn)
    ∙ div-div-eq-div-mul (acc + v * 2 ^ fill) (2 ^ fill) (2 ^ (s - fill))
    ∙ ap (λ n. (acc + v * 2 ^ fill) / n) (sym (pow-add 2 fill (s - fill)) ∙ ap (λ n. 2 ^ n) all)
