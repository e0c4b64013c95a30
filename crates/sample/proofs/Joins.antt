-- Digits of a number from a place on, and presence words from a row on.
use Rattle.std.proofs.Common.{◌≡◌, ℕ, zero, suc, ◌+◌, ◌-◌, ◌*◌, ◌/◌, ◌%◌, ◌^◌, ◌<◌, ◌≤◌, List, [], ◌∷◌, ◌++◌, length, get_or, take, drop, sym, ap, ◌∙◌, subst, mod-lt, mul_assoc, pow-suc, div-one, arith, lit<, length-append, pow_pos, pow-add}
use native.Mathlib.Nat.{mod-one, zero-mod, zero-div, div-div-eq-div-mul, mul-add-mod_self_right, mul-add-div_right, one-le-pow, pow-zero, pow-succ'}
use lib.Arith.{digits_div, digits_mod, mod-mul}
use Rattle.std.proofs.lemmas.Nat.{shr_below}
use Rattle.std.proofs.lemmas.List.{drop_more, drop-map, map-append, take-map}
use Rattle.packing.specs.Packing.{joined, digits, Below}
use Rattle.packing.proofs.Below.{below-drop, below-get_or}
use Rattle.packing.proofs.Digits.{joined-++, bits-lt}
use Rattle.packing.proofs.Packed.{pow-mul}
use Rattle.column.specs.Columns.{Row, bit_of, bits, presence, words_for}
use Rattle.column.proofs.RowLaws.{length-bits, below-bits}

-- ---- any base

joined-drop : (b f : ℕ) (xs : List ℕ) → Below b xs → joined b (drop f xs) ≡ joined b xs / b ^ f
joined-drop b zero xs h = sym (ap (λ z. joined b xs / z) (pow-zero b) ∙ div-one (joined b xs))
joined-drop b (suc f) [] h = sym (zero-div (b ^ suc f))
joined-drop b (suc f) (x ∷ xs) h =
    joined-drop b f xs h.1
    ∙ ap (λ z. z / b ^ f) (sym (digits_div (joined b xs) h.0))
    ∙ div-div-eq-div-mul (joined b xs * b + x) b (b ^ f)
    ∙ ap (λ z. (joined b xs * b + x) / z) (sym (pow-succ' b f))

joined-take : (b n : ℕ) (xs : List ℕ) → 0 < b → Below b xs → joined b (take n xs) ≡ joined b xs % b ^ n
joined-take b zero xs p h = sym (ap (λ z. joined b xs % z) (pow-zero b) ∙ mod-one (joined b xs))
joined-take b (suc n) [] p h = sym (zero-mod (b ^ suc n))
joined-take b (suc n) (x ∷ xs) p h =
    let X = joined b xs * b + x in
    let d : X / b ≡ joined b xs = digits_div (joined b xs) h.0 in
    let m : X % b ≡ x = digits_mod (joined b xs) h.0 in
    ap (λ z. z * b + x) (joined-take b n xs p h.1)
    ∙ (λ i. (sym d i % b ^ n) * b + sym m i)
    ∙ sym (mod-mul X (one-le-pow n b p) p)
    ∙ ap (λ z. X % z) (sym (pow-suc b n))

-- ---- presence bits

-- the bits of 64 rows
pub block-word : (rs : List Row) (f : ℕ) → joined 2 (bits (take 64 (drop f rs))) ≡ joined 2 (bits rs) / 2 ^ f % 2 ^ 64
block-word rs f =
    ap (joined 2) (sym (take-map bit_of 64 (drop f rs)) ∙ ap (take 64) (sym (drop-map bit_of f rs)))
    ∙ joined-take 2 64 (drop f (bits rs)) (lit< tt) (below-drop 2 f (bits rs) (below-bits rs))
    ∙ ap (λ z. z % 2 ^ 64) (joined-drop 2 f (bits rs) (below-bits rs))

-- 64 rows are one word
pub presence-more : (blk rest : List Row) → length blk ≡ 64 → presence (blk ++ rest) ≡ joined 2 (bits blk) ∷ presence rest
presence-more blk rest h =
    let l = length-append blk rest in
    let lb : length (bits blk) ≡ 64 = length-bits blk ∙ h in
    let n : words_for (length (blk ++ rest)) ≡ suc (words_for (length rest)) = omega arith in
    let J = joined 2 (bits rest) in
    let w = joined 2 (bits blk) in
    let s : w < 2 ^ 64 = bits-lt 64 (bits blk) lb (below-bits blk) in
    let x : joined 2 (bits (blk ++ rest)) ≡ J * 2 ^ 64 + w = ap (joined 2) (map-append bit_of blk rest) ∙ joined-++ 2 (bits blk) (bits rest) ∙ ap (λ z. J * 2 ^ z + w) lb in
    let q : (J * 2 ^ 64 + w) % 2 ^ 64 ≡ w = digits_mod J s in
    let r : (J * 2 ^ 64 + w) / 2 ^ 64 ≡ J = digits_div J s in
    ap (λ z. digits (2 ^ 64) z (joined 2 (bits (blk ++ rest)))) n
    ∙ ap (λ z. digits (2 ^ 64) (suc (words_for (length rest))) z) x
    ∙ (λ i. q i ∷ digits (2 ^ 64) (words_for (length rest)) (r i))

-- ---- 64 bits across two words

two-words : (X u w b : ℕ) → b ≤ 64 → w < 2 ^ 64 → ((X * 2 ^ 64 + u) * 2 ^ 64 + w) / 2 ^ b % 2 ^ 64 ≡ w / 2 ^ b + u * 2 ^ (64 - b) % 2 ^ 64
two-words X u w b h l =
    let c = 64 - b in
    let Y = X * 2 ^ 64 + u in
    let q = w / 2 ^ b in
    let cb : c + b ≡ 64 = omega arith in
    let bc : b + c ≡ 64 = omega arith in
    let e : 2 ^ 64 ≡ 2 ^ c * 2 ^ b = ap (λ z. 2 ^ z) (sym cb) ∙ pow-add 2 c b in
    let f : 2 ^ 64 ≡ 2 ^ b * 2 ^ c = ap (λ z. 2 ^ z) (sym bc) ∙ pow-add 2 b c in
    let small : q < 2 ^ c = shr_below w c b (subst (λ (z : ℕ). w < 2 ^ z) (sym cb) l) in
    let over : (z : ℕ) → z * 2 ^ 64 ≡ z * 2 ^ c * 2 ^ b = λ z. ap (λ t. z * t) e ∙ sym (mul_assoc z (2 ^ c) (2 ^ b)) in
    let down : (Y * 2 ^ 64 + w) / 2 ^ b ≡ Y * 2 ^ c + q = ap (λ z. (z + w) / 2 ^ b) (over Y) ∙ mul-add-div_right (pow_pos b) (Y * 2 ^ c) w in
    let low : Y % 2 ^ b ≡ u % 2 ^ b = ap (λ z. (z + u) % 2 ^ b) (over X) ∙ mul-add-mod_self_right (X * 2 ^ c) (2 ^ b) u in
    let cut : (z r : ℕ) → r < 2 ^ c → (z * 2 ^ c + r) % 2 ^ 64 ≡ (z % 2 ^ b) * 2 ^ c + r =
    λ z r s. ap (λ t. (z * 2 ^ c + r) % t) f ∙ mod-mul (z * 2 ^ c + r) (pow_pos b) (pow_pos c) ∙ (λ i. (digits_div z s i % 2 ^ b) * 2 ^ c + digits_mod z s i) in
    let none : (u * 2 ^ c) % 2 ^ 64 ≡ (u % 2 ^ b) * 2 ^ c = ap (λ z. z % 2 ^ 64) (z0 (u * 2 ^ c)) ∙ cut u 0 (pow_pos c) ∙ sym (z0 ((u % 2 ^ b) * 2 ^ c)) in
    ap (λ z. z % 2 ^ 64) down ∙ cut Y q small ∙ ap (λ z. z * 2 ^ c + q) low ∙ ap (λ z. z + q) (sym none) ∙ swap ((u * 2 ^ c) % 2 ^ 64) q
  where
    z0 : (x : ℕ) → x ≡ x + 0
    z0 x = omega arith

    swap : (x y : ℕ) → x + y ≡ y + x
    swap x y = omega arith

from-word : (ws : List ℕ) (f : ℕ) → Below (2 ^ 64) ws → joined (2 ^ 64) ws / 2 ^ f ≡ joined (2 ^ 64) (drop (f / 64) ws) / 2 ^ (f % 64)
from-word ws f h =
    let a = f / 64 in
    let b = f % 64 in
    let s : f ≡ 64 * a + b = omega arith in
    ap (λ z. joined (2 ^ 64) ws / 2 ^ z) s
    ∙ ap (λ z. joined (2 ^ 64) ws / z) (pow-add 2 (64 * a) b)
    ∙ sym (div-div-eq-div-mul (joined (2 ^ 64) ws) (2 ^ (64 * a)) (2 ^ b))
    ∙ ap (λ z. joined (2 ^ 64) ws / z / 2 ^ b) (pow-mul 2 64 a)
    ∙ ap (λ z. z / 2 ^ b) (sym (joined-drop (2 ^ 64) a ws h))

module _ (ws : List ℕ) (f : ℕ) (s : (i : ℕ) → get_or ws i 0 < 2 ^ 64) where
  below : Below (2 ^ 64) ws
  below = below-get_or (2 ^ 64) ws s

  pub word_whole : f / 64 < length ws → f % 64 ≡ 0 → get_or ws (f / 64) 0 ≡ joined (2 ^ 64) ws / 2 ^ f % 2 ^ 64
  word_whole l z =
      let w = get_or ws (f / 64) 0 in
      let J = joined (2 ^ 64) (drop (f / 64 + 1) ws) in
      let e : joined (2 ^ 64) (drop (f / 64) ws) ≡ J * 2 ^ 64 + w = ap (joined (2 ^ 64)) (drop_more ws (f / 64) 0 l) in
      sym (ap (λ x. x % 2 ^ 64) (from-word ws f below) ∙ (λ i. (e i / 2 ^ (z i)) % 2 ^ 64) ∙ ap (λ x. x % 2 ^ 64) (div-one (J * 2 ^ 64 + w)) ∙ digits_mod J (s (f / 64)))

  pub word_two : f / 64 + 1 < length ws → get_or ws (f / 64) 0 / 2 ^ (f % 64) + get_or ws (f / 64 + 1) 0 * 2 ^ (64 - f % 64) % 2 ^ 64 ≡ joined (2 ^ 64) ws / 2 ^ f % 2 ^ 64
  word_two l =
      let a = f / 64 in
      let w = get_or ws a 0 in
      let u = get_or ws (a + 1) 0 in
      let X = joined (2 ^ 64) (drop (a + 1 + 1) ws) in
      let l' : a < length ws = omega arith in
      let e : joined (2 ^ 64) (drop a ws) ≡ (X * 2 ^ 64 + u) * 2 ^ 64 + w = ap (joined (2 ^ 64)) (drop_more ws a 0 l' ∙ ap (λ z. w ∷ z) (drop_more ws (a + 1) 0 l)) in
      let b : f % 64 ≤ 64 = omega arith in
      sym (ap (λ x. x % 2 ^ 64) (from-word ws f below) ∙ ap (λ x. x / 2 ^ (f % 64) % 2 ^ 64) e ∙ two-words X u w (f % 64) b (s a))

  pub word_fits : f / 64 + 1 < length ws → get_or ws (f / 64) 0 / 2 ^ (f % 64) + get_or ws (f / 64 + 1) 0 * 2 ^ (64 - f % 64) % 2 ^ 64 < 2 ^ 64
  word_fits l = let e = word_two l in let m = mod-lt (joined (2 ^ 64) ws / 2 ^ f) (pow_pos 64) in omega (arith, e, m)
