-- Bytes read as a number, lowest first.
use Rattle.std.proofs.Common.{◌≡◌, ℕ, zero, suc, ◌+◌, ◌-◌, ◌*◌, ◌<◌, ◌≤◌, List, [], ◌∷◌, ◌++◌, length, get_or, take, drop, refl, ap, ◌∙◌, le_of_eq, zero-mul, arith, length-append, length-drop}
use Rattle.std.proofs.lemmas.List.{take_all, take_at, drop_more}
use Rattle.packing.specs.Packing.{joined, digits}
use Rattle.packing.proofs.Digits.{length_digits, joined-++, digits-++}

next : (s : List ℕ) (a n : ℕ) → a < length s → joined 256 (take (suc n) (drop a s)) ≡ joined 256 (take n (drop (a + 1) s)) * 256 + get_or s a 0
next s a n h = rw (drop_more s a 0 h)

-- eight bytes' worths
abbrev pub worth : List ℕ → ℕ
worth s =
    get_or s 0 0 + get_or s 1 0 * 256 + get_or s 2 0 * 65536 + get_or s 3 0 * 16777216 + get_or s 4 0 * 4294967296 + get_or s 5 0 * 1099511627776 + get_or s 6 0 * 281474976710656 + get_or s 7 0 * 72057594037927936

from-8 : (s : List ℕ) → length s ≡ 8 → worth s ≡ joined 256 s
from-8 s h =
    let t = ap (joined 256) (take_all 8 s (le_of_eq h)) in
    let e0 = next s 0 7 (omega arith) in
    let e1 = next s 1 6 (omega arith) in
    let e2 = next s 2 5 (omega arith) in
    let e3 = next s 3 4 (omega arith) in
    let e4 = next s 4 3 (omega arith) in
    let e5 = next s 5 2 (omega arith) in
    let e6 = next s 6 1 (omega arith) in
    let e7 = next s 7 0 (omega arith) in
    omega arith

abbrev pub zeros : ℕ → List ℕ
zeros zero = []
zeros (suc m) = 0 ∷ zeros m

joined-zeros : (n m : ℕ) → joined 256 (drop n (zeros m)) ≡ 0
joined-zeros zero zero = refl
joined-zeros zero (suc m) = let e = joined-zeros zero m in omega arith
joined-zeros (suc n) zero = refl
joined-zeros (suc n) (suc m) = joined-zeros n m

-- at most 8 bytes before zeros
pub from-part : (n : ℕ) (s : List ℕ) → length s ≡ n → n ≤ 8 → worth (s ++ drop n (zeros 8)) ≡ joined 256 s
from-part n s l h =
    let z = drop n (zeros 8) in
    let d : length z ≡ 8 - n = length-drop n (zeros 8) in
    from-8 (s ++ z) (length-append s z ∙ omega (arith, d)) ∙ joined-++ 256 s z ∙ (rw (joined-zeros n 8, zero-mul) (omega arith))

-- the low bytes of a word
pub take-digits : (n v : ℕ) → n ≤ 8 → take n (digits 256 8 v) ≡ digits 256 n v
take-digits n v h =
    let s : 8 ≡ n + (8 - n) = omega arith in
    ap (λ m. take n (digits 256 m v)) s ∙ ap (take n) (digits-++ 256 n (8 - n) v) ∙ take_at (digits 256 n v) _ n (length_digits 256 n v)
