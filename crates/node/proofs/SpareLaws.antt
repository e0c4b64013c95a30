-- Presence words from a mask: the low bits of what was loaded, spare bits cleared.
use Rattle.std.proofs.Common.{◌≡◌, ℕ, zero, suc, ◌+◌, ◌-◌, ◌*◌, ◌/◌, ◌%◌, ◌^◌, ◌≤◌, List, [], ◌∷◌, ◌++◌, get_or, set, replicate, sym, refl, ap, ◌∙◌, lt_of_lt_of_le, mod-lt, mod-eq_of_lt, zero-lt-suc, add-mul, pow-suc, div-add-mod', arith, pow_pos, pow_mono, pow-add}
use native.Mathlib.Nat.{mod-mod, pow-zero}
use lib.ListN.{length-replicate}
use lib.Pow.{mod-mod-pow}
use Rattle.std.proofs.lemmas.Nat.{field_of, mod-mul-add}
use Rattle.std.proofs.lemmas.List.{get_or_at, set_at}
use Rattle.packing.specs.Packing.{joined, digits, Below}
use Rattle.packing.proofs.Digits.{length_digits, digits-joined, joined-digits-mod, digits-high, digits-++}
use Rattle.packing.proofs.Packed.{pow-mul}
use Rattle.column.specs.Columns.{words_for}
use Rattle.node.specs.Payloads.{ones, unmask, words_of}

-- ---- the low bits of words

-- the lowest l words hold the number's low 64 × l bits
low-words : (l X Y : ℕ) → X % 2 ^ (64 * l) ≡ Y % 2 ^ (64 * l) → digits (2 ^ 64) l X ≡ digits (2 ^ 64) l Y
low-words l X Y e = half X ∙ ap (digits (2 ^ 64) l) (λ i. (ap (λ m. X % m) (sym (pow-mul 2 64 l)) ∙ e ∙ ap (λ m. Y % m) (pow-mul 2 64 l)) i) ∙ sym (half Y)
  where
    half : (Z : ℕ) → digits (2 ^ 64) l Z ≡ digits (2 ^ 64) l (Z % (2 ^ 64) ^ l)
    half Z = ap (digits (2 ^ 64) l) (sym (div-add-mod' Z ((2 ^ 64) ^ l))) ∙ digits-high (2 ^ 64) l (Z / (2 ^ 64) ^ l) (Z % (2 ^ 64) ^ l) (omega arith)

-- bits above the r-th of word l, and no word above it
spare-cleared : (l r X : ℕ) → r ≤ 64
    → set (digits (2 ^ 64) (l + 1) X) l (get_or (digits (2 ^ 64) (l + 1) X) l 0 % 2 ^ r) ≡ digits (2 ^ 64) (l + 1) (X % 2 ^ (r + 64 * l))
spare-cleared l r X h =
    let b = 2 ^ 64 in
    let P = digits b l X in
    let z = X / b ^ l in
    let Y = X % 2 ^ (r + 64 * l) in
    let split = digits-++ b l 1 X in
    let len = length_digits b l X in
    let at : get_or (digits b (l + 1) X) l 0 ≡ z % b = ap (λ ws. get_or ws l 0) split ∙ get_or_at P (z % b) [] 0 l len in
    let cut : z % b % 2 ^ r ≡ z % 2 ^ r = ap (λ m. z % 2 ^ m % 2 ^ r) (let s : 64 ≡ (64 - r) + r = omega arith in s) ∙ mod-mod-pow z (64 - r) r in
    let low : P ≡ digits b l Y = low-words l X Y (sym (mod-mod-pow X r (64 * l))) in
    let part : Y / b ^ l ≡ z % 2 ^ r = ap (λ m. Y / m) (sym (pow-mul 2 64 l)) ∙ field_of X r (64 * l) ∙ ap (λ m. X / m % 2 ^ r) (pow-mul 2 64 l) in
    let small : z % 2 ^ r % b ≡ z % 2 ^ r = mod-eq_of_lt (lt_of_lt_of_le (mod-lt z (pow_pos r)) (pow_mono h)) in
    (λ i. set (split i) l (at i % 2 ^ r))
    ∙ set_at P (z % b) [] (z % b % 2 ^ r) l len
    ∙ (λ i. low i ++ (cut i ∷ []))
    ∙ ap (λ m. digits b l Y ++ (m ∷ [])) (sym (ap (λ m. m % b) part ∙ small))
    ∙ sym (digits-++ b l 1 Y)

-- ---- what was loaded: words whose low n bits are the presence bits

pub record Loaded (f n : ℕ) (bs ws : List ℕ) : Type 0 where
  pub number : ℕ
  pub is : ws ≡ digits (2 ^ 64) (words_for n) number
  pub low : number % 2 ^ n ≡ joined 2 (unmask f n bs)

pub part-cleared : (f n : ℕ) (bs ws : List ℕ) → Loaded f n bs ws → (n % 64 ≡ 0 → ⊥)
    → (x : ℕ) → x ≡ get_or ws (n / 64) 0 % 2 ^ (n % 64) → set ws (n / 64) x ≡ words_of n (unmask f n bs)
part-cleared f n bs ws d h x e =
    let l = n / 64 in
    let r = n % 64 in
    let X = d.number in
    let w : words_for n ≡ l + 1 = omega arith in
    let bit : r + 64 * l ≡ n = omega arith in
    ap (set ws l) e
    ∙ ap (λ xs. set xs l (get_or xs l 0 % 2 ^ r)) (d.is ∙ ap (λ m. digits (2 ^ 64) m X) w)
    ∙ spare-cleared l r X (omega arith)
    ∙ (λ i. digits (2 ^ 64) (sym w i) ((ap (λ m. X % 2 ^ m) bit ∙ d.low) i))

pub whole-loaded : (f n : ℕ) (bs ws : List ℕ) → Loaded f n bs ws → n % 64 ≡ 0 → ws ≡ words_of n (unmask f n bs)
whole-loaded f n bs ws d h =
    let l = words_for n in
    let n64 : n ≡ 64 * l = omega arith in
    let X = d.number in
    let q : X % 2 ^ (64 * l) ≡ joined 2 (unmask f n bs) = ap (λ m. X % 2 ^ m) (sym n64) ∙ d.low in
    let e : X % 2 ^ (64 * l) ≡ joined 2 (unmask f n bs) % 2 ^ (64 * l) = sym (mod-mod X (2 ^ (64 * l))) ∙ ap (λ y. y % 2 ^ (64 * l)) q in
    d.is ∙ low-words l X (joined 2 (unmask f n bs)) e

-- ---- with a mask

pub mask-loaded : (f n : ℕ) (bs ws : List ℕ) → ws ≡ digits (2 ^ 64) (words_for n) (joined 256 bs) → (f ≡ 0 → ⊥) → Loaded f n bs ws
mask-loaded zero n bs ws e h = absurd (h refl)
mask-loaded (suc f) n bs ws e h = record { number = joined 256 bs; is = e; low = sym (joined-digits-mod 2 n (joined 256 bs) (zero-lt-suc 1)) }

-- ---- without one

all_ones : (w : ℕ) → joined (2 ^ 64) (replicate w (2 ^ 64 - 1)) + 1 ≡ (2 ^ 64) ^ w
all_ones zero = sym (pow-zero (2 ^ 64))
all_ones (suc w) =
    let J = joined (2 ^ 64) (replicate w (2 ^ 64 - 1)) in
    let s : J * 2 ^ 64 + (2 ^ 64 - 1) + 1 ≡ (J + 1) * 2 ^ 64 = omega arith in
    s ∙ ap (λ m. m * 2 ^ 64) (all_ones w) ∙ sym (pow-suc (2 ^ 64) w)

ones-joined : (n : ℕ) → joined 2 (ones n) + 1 ≡ 2 ^ n
ones-joined zero = sym (pow-zero 2)
ones-joined (suc n) =
    let J = joined 2 (ones n) in
    let s : J * 2 + 1 + 1 ≡ (J + 1) * 2 = omega arith in
    s ∙ ap (λ m. m * 2) (ones-joined n) ∙ sym (pow-suc 2 n)

below-replicate : (w : ℕ) → Below (2 ^ 64) (replicate w (2 ^ 64 - 1))
below-replicate zero = tt
below-replicate (suc w) = (omega arith, below-replicate w)

-- one less than a power of 2 has all its bits set
ones_low : (x n m : ℕ) → n ≤ m → x + 1 ≡ 2 ^ m → x % 2 ^ n ≡ 2 ^ n - 1
ones_low x n m h e =
    let a = 2 ^ (m - n) in
    let b = 2 ^ n in
    let p : 2 ^ m ≡ a * b = ap (λ z. 2 ^ z) (let s : m ≡ (m - n) + n = omega arith in s) ∙ pow-add 2 (m - n) n in
    let q = pow_pos n in
    let r = pow_pos (m - n) in
    let t : a * b ≡ (a - 1) * b + 1 * b = ap (λ z. z * b) (let u : a ≡ a - 1 + 1 = omega arith in u) ∙ add-mul (a - 1) 1 b in
    let s : x ≡ (a - 1) * b + (b - 1) = omega arith in
    ap (λ z. z % b) s ∙ mod-mul-add (a - 1) b (b - 1) (omega arith)

pub ones-loaded : (f n : ℕ) (bs ws : List ℕ) → ws ≡ replicate (words_for n) (2 ^ 64 - 1) → f ≡ 0 → Loaded f n bs ws
ones-loaded (suc f) n bs ws e h = absurd (omega arith)
ones-loaded zero n bs ws e h =
    let w = words_for n in
    let R = replicate w (2 ^ 64 - 1) in
    let X = joined (2 ^ 64) R in
    let back : digits (2 ^ 64) w X ≡ R = ap (λ m. digits (2 ^ 64) m X) (sym (length-replicate w (2 ^ 64 - 1))) ∙ digits-joined (2 ^ 64) R (below-replicate w) in
    let o = ones-joined n in
    let low : X % 2 ^ n ≡ 2 ^ n - 1 = ones_low X n (64 * w) (omega arith) (all_ones w ∙ sym (pow-mul 2 64 w)) in
    record { number = X; is = e ∙ sym back; low = low ∙ omega arith }
