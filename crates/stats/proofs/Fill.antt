-- Blanks filled with the value before them count the same changes.
use Rattle.std.proofs.Common.{◌≡◌, ℕ, suc, ◌+◌, ◌-◌, ◌*◌, ◌/◌, ◌%◌, ◌^◌, ◌<◌, ◌≤◌, Bool, true, false, cond, eqb, List, [], ◌∷◌, ◌++◌, length, get_or, take, drop, set, sym, refl, ap, ◌∙◌, pow-suc, arith, pow_pos, eq-eqb}
use native.Mathlib.Nat.{zero-div}
use lib.Pow.{ones_split, ones_lt}
use Rattle.std.proofs.lemmas.List.{take_more_set, drop_more, drop-set-lt, append_assoc, append-nil, take_all, drop_all}
use Rattle.std.proofs.lemmas.Nat.{shr_high}
use Rattle.stats.specs.Stats.{changes}
use Rattle.stats.specs.Blocks.{last_or, bit, kept_from, filled_from}

-- one more cell filled: y is what stands at i now
pub fill_more : (w last i : ℕ) (xs : List ℕ) (y : ℕ) (goal : List ℕ) → i < length xs → y ≡ cond (bit w i) (get_or xs i 0) last → take i xs ++ filled_from w i last (drop i xs) ≡ goal → take (i + 1) (set xs i y) ++ filled_from w (i + 1) y (drop (i + 1) (set xs i y)) ≡ goal
fill_more w last i xs y goal h e k =
    let k1 = rw (drop_more xs i 0 h) at k in
    let k2 : take i xs ++ (y ∷ filled_from w (i + 1) y (drop (i + 1) xs)) ≡ goal = rw e k1 in
    rw (take_more_set xs i y h, drop-set-lt (i + 1) xs i y (omega arith), append_assoc) k2

changes-self : (p : ℕ) (xs : List ℕ) → changes p (p ∷ xs) ≡ changes p xs
changes-self p xs = let t : eqb p p ≡ true = eq-eqb p p refl in rw t (omega arith)

changes-way : (w j p x : ℕ) (xs : List ℕ) (b : Bool) → ((q : ℕ) → changes q (filled_from w j q xs) ≡ changes q (kept_from w j xs)) → changes p (cond b x p ∷ filled_from w j (cond b x p) xs) ≡ changes p (cond b (x ∷ kept_from w j xs) (kept_from w j xs))
changes-way w j p x xs true ih = ap (λ n. cond (eqb p x) 0 1 + n) (ih x)
changes-way w j p x xs false ih = changes-self p (filled_from w j p xs) ∙ ih p

pub changes-filled : (w j p : ℕ) (xs : List ℕ) → changes p (filled_from w j p xs) ≡ changes p (kept_from w j xs)
changes-filled w j p [] = refl
changes-filled w j p (x ∷ xs) = changes-way w (j + 1) p x xs (bit w j) (λ q. changes-filled w (j + 1) q xs)

last-way : (w j p x : ℕ) (xs : List ℕ) (b : Bool) → ((q : ℕ) → last_or q (filled_from w j q xs) ≡ last_or q (kept_from w j xs)) → last_or p (cond b x p ∷ filled_from w j (cond b x p) xs) ≡ last_or p (cond b (x ∷ kept_from w j xs) (kept_from w j xs))
last-way w j p x xs true ih = ih x
last-way w j p x xs false ih = ih p

pub last-filled : (w j p : ℕ) (xs : List ℕ) → last_or p (filled_from w j p xs) ≡ last_or p (kept_from w j xs)
last-filled w j p [] = refl
last-filled w j p (x ∷ xs) = last-way w (j + 1) p x xs (bit w j) (λ q. last-filled w (j + 1) q xs)

pub kept-none : (j : ℕ) (xs : List ℕ) → kept_from 0 j xs ≡ []
kept-none j [] = refl
kept-none j (x ∷ xs) = let z : 0 / 2 ^ j ≡ 0 = zero-div (2 ^ j) in rw (z, kept-none (j + 1) xs)

odd-ones : (a : ℕ) → 0 < a → (2 ^ a - 1) % 2 ≡ 1
odd-ones a h =
    let s : a ≡ suc (a - 1) = omega arith in
    let e : 2 ^ a ≡ 2 ^ (a - 1) * 2 = ap (λ n. 2 ^ n) s ∙ pow-suc 2 (a - 1) in
    omega (arith, e, pow_pos (a - 1))

bit-ones : (a j : ℕ) → 0 < a → bit (2 ^ (a + j) - 1) j ≡ true
bit-ones a j h = eq-eqb _ 1 (rw (ones_split a j, shr_high (2 ^ a - 1) j (2 ^ j - 1) (ones_lt j)) (odd-ones a h))

pub kept-all : (j : ℕ) (xs : List ℕ) → j + length xs ≤ 64 → kept_from (2 ^ 64 - 1) j xs ≡ xs
kept-all j [] h = refl
kept-all j (x ∷ xs) h =
    let s : (64 - j) + j ≡ 64 = omega arith in
    let t : bit (2 ^ 64 - 1) j ≡ true = rw s at (bit-ones (64 - j) j (omega arith)) in
    rw (t, kept-all (j + 1) xs (omega arith))

pub fill-all : (w p last i : ℕ) (xs start : List ℕ) → length xs ≤ i → take i xs ++ filled_from w i last (drop i xs) ≡ filled_from w 0 p start → xs ≡ filled_from w 0 p start
fill-all w p last i xs start h k = sym (append-nil xs) ∙ rw (take_all i xs h, drop_all i xs h) at k
