-- The number of bits of a number, by its leading zeros.
use Rattle.std.proofs.Common.{◌≡◌, ℕ, zero, suc, ◌+◌, ◌-◌, ◌*◌, ◌/◌, ◌^◌, ◌<◌, ◌≤◌, sym, refl, subst, le_of_suc-le-suc, pow-suc, lt_of_not-le, arith, pow_mono}
use lib.Count.{count_leading_zeros, leading_length, leading_le}
use Rattle.packing.specs.Packing.{bit_length_by, bit_length}

pub bits-leading : (d n : ℕ) → bit_length_by d n ≡ d - count_leading_zeros d n
unfolding bit_length_by count_leading_zeros
bits-leading zero n = refl
bits-leading (suc d) zero = omega arith
bits-leading (suc d) (suc n) =
    let ih = bits-leading d (suc n / 2) in
    let le = leading_le d (suc n / 2) in
    omega arith

pub leading_bits : (n : ℕ) → 64 - count_leading_zeros 64 n ≡ bit_length n
leading_bits n = sym (bits-leading 64 n)

-- a length m with 2 ^ m ≤ 2 * n + 1 is no more than any j that holds n
shortest : (n m j : ℕ) → 2 ^ m ≤ 2 * n + 1 → n < 2 ^ j → m ≤ j
shortest n m j l h =
    le_of_suc-le-suc (lt_of_not-le (λ (g : suc j ≤ m).
    let p : 2 ^ suc j ≤ 2 ^ m = pow_mono g in
    let q : 2 ^ suc j ≡ 2 ^ j * 2 = pow-suc 2 j in
    omega arith))

pub length_holds : (n : ℕ) → n < 2 ^ 64 → n < 2 ^ (64 - count_leading_zeros 64 n)
length_holds n h =
    let s = leading_length 64 n h in
    let e : s.0 ≡ 64 - count_leading_zeros 64 n = let z = s.1 in omega arith in
    subst (λ (k : ℕ). n < 2 ^ k) e s.2

pub length_least : (n j : ℕ) → n < 2 ^ 64 → n < 2 ^ j → 64 - count_leading_zeros 64 n ≤ j
length_least n j h g =
    let s = leading_length 64 n h in
    let e : s.0 ≡ 64 - count_leading_zeros 64 n = let z = s.1 in omega arith in
    subst (λ (k : ℕ). k ≤ j) e (shortest n s.0 j s.3 g)

-- what a word's length is
pub bits-hold : (n : ℕ) → n < 2 ^ 64 → n < 2 ^ bit_length n
bits-hold n h = subst (λ (k : ℕ). n < 2 ^ k) (sym (bits-leading 64 n)) (length_holds n h)

pub bits-least : (n j : ℕ) → n < 2 ^ 64 → n < 2 ^ j → bit_length n ≤ j
bits-least n j h g = subst (λ (k : ℕ). k ≤ j) (sym (bits-leading 64 n)) (length_least n j h g)
