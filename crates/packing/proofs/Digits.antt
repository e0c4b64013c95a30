-- The digits of a number in a base, and the number that digits join to.
use Rattle.std.proofs.Common.{◌≡◌, ℕ, zero, suc, ◌+◌, ◌-◌, ◌*◌, ◌/◌, ◌%◌, ◌^◌, ◌<◌, ◌≤◌, List, [], ◌∷◌, ◌++◌, length, replicate, sym, refl, ap, ◌∙◌, subst, add_assoc, mod-lt, mod-eq_of_lt, zero-lt-suc, mul_assoc, add-mul, suc-add, pow-suc, div-add-mod', zero-add, mul-one, div-one, arith, pow-add}
use native.Mathlib.Nat.{div-div-eq-div-mul, mul-add-mod_self_right, mul-add-div_right, one-le-pow, pow-zero, pow-succ'}
use lib.Arith.{digits_lt, digits_div, digits_mod, mod-mul}
use Rattle.packing.specs.Packing.{joined, digits, Below}

pub length_digits : (b n x : ℕ) → length (digits b n x) ≡ n
length_digits b zero x = refl
length_digits b (suc n) x = ap suc (length_digits b n (x / b))

pub below-digits : (b n x : ℕ) → 0 < b → Below b (digits b n x)
below-digits b zero x p = tt
below-digits b (suc n) x p = (mod-lt x p, below-digits b n (x / b) p)

pub joined-lt : (b : ℕ) (xs : List ℕ) → Below b xs → joined b xs < b ^ length xs
joined-lt b [] h = rw pow-zero (zero-lt-suc 0)
joined-lt b (x ∷ xs) h = rw pow-suc (digits_lt (joined-lt b xs h.1) h.0)

pub joined-++ : (b : ℕ) (xs ys : List ℕ) → joined b (xs ++ ys) ≡ joined b ys * b ^ length xs + joined b xs
joined-++ b [] ys = rw (pow-zero, mul-one) (omega arith)
joined-++ b (x ∷ xs) ys = rw (joined-++ b xs ys, add-mul, pow-suc, mul_assoc, add_assoc)

-- ---- there and back

pub digits-joined : (b : ℕ) (xs : List ℕ) → Below b xs → digits b (length xs) (joined b xs) ≡ xs
digits-joined b [] h = refl
digits-joined b (x ∷ xs) h = rw (digits_mod (joined b xs) h.0, digits_div (joined b xs) h.0, digits-joined b xs h.1)

pub joined-digits-mod : (b n x : ℕ) → 0 < b → joined b (digits b n x) ≡ x % b ^ n
joined-digits-mod b zero x p = rw pow-zero (omega arith)
joined-digits-mod b (suc n) x p = rw (joined-digits-mod b n (x / b) p, pow-suc) (sym (mod-mul x (one-le-pow n b p) p))

pub joined-digits : (b n x : ℕ) → 0 < b → x < b ^ n → joined b (digits b n x) ≡ x
joined-digits b n x p h = joined-digits-mod b n x p ∙ mod-eq_of_lt h

-- ---- low and high digits

-- the low digits ignore what stands above them
pub digits-high : (b n q x : ℕ) → 0 < b → digits b n (q * b ^ n + x) ≡ digits b n x
digits-high b zero q x p = refl
digits-high b (suc n) q x p =
    rw (pow-suc, ← mul_assoc q (b ^ n) b, mul-add-mod_self_right (q * b ^ n) b x, mul-add-div_right p (q * b ^ n) x, digits-high b n q (x / b) p)

-- the low digits, then those above
pub digits-++ : (b m n x : ℕ) → digits b (m + n) x ≡ digits b m x ++ digits b n (x / b ^ m)
digits-++ b zero n x = rw (zero-add, pow-zero, div-one)
digits-++ b (suc m) n x = rw (suc-add, pow-succ', ← div-div-eq-div-mul x b (b ^ m), digits-++ b m n (x / b))

-- m digits are s bits; below `fill` bits of the number stands `acc`
pub digits-out : (b m n s fill hi acc : ℕ) → b ^ m ≡ 2 ^ s → s ≤ fill → 0 < b
    → digits b (m + n) (hi * 2 ^ fill + acc) ≡ digits b m (acc % 2 ^ s) ++ digits b n (hi * 2 ^ (fill - s) + acc / 2 ^ s)
digits-out b m n s fill hi acc e h p =
    let f : fill ≡ (fill - s) + s = omega arith in
    let v : hi * 2 ^ fill ≡ hi * 2 ^ (fill - s) * 2 ^ s =
    ap (λ i. hi * 2 ^ i) f ∙ ap (λ i. hi * i) (pow-add 2 (fill - s) s) ∙ sym (mul_assoc hi (2 ^ (fill - s)) (2 ^ s)) in
    let low : digits b m (acc % 2 ^ s) ≡ digits b m acc =
    rw (← e) (sym (digits-high b m (acc / b ^ m) (acc % b ^ m) p) ∙ ap (digits b m) (div-add-mod' acc (b ^ m))) in
    rw (digits-++, v, low, ← e, digits-high b m (hi * 2 ^ (fill - s)) acc p, mul-add-div_right (one-le-pow m b p) (hi * 2 ^ (fill - s)) acc)

-- ---- numbers of n bits, and words of 0

pub bits-lt : (n : ℕ) (bs : List ℕ) → length bs ≡ n → Below 2 bs → joined 2 bs < 2 ^ n
bits-lt n bs e h = subst (λ m. joined 2 bs < 2 ^ m) e (joined-lt 2 bs h)

pub no_words : (m : ℕ) → joined (2 ^ 64) (replicate m 0) ≡ 0
no_words zero = refl
no_words (suc m) = let e = no_words m in omega arith
