-- Lists whose elements are all below a bound.
use Rattle.std.proofs.Common.{◌≡◌, ℕ, zero, suc, ◌%◌, ◌^◌, ◌<◌, ◌≤◌, List, [], ◌∷◌, ◌++◌, length, get_or, take, drop, refl, lt_of_lt_of_le, mod-lt, mod-eq_of_lt, pow_pos}
use Rattle.std.proofs.lemmas.List.{length-map}
use Rattle.packing.specs.Packing.{low_bits, Below}

-- as of what a slice holds
pub below-get_or : (b : ℕ) (xs : List ℕ) → ((i : ℕ) → get_or xs i 0 < b) → Below b xs
below-get_or b [] h = tt
below-get_or b (x ∷ xs) h = (h 0, below-get_or b xs (λ i. h (suc i)))

pub below-append : (b : ℕ) (xs ys : List ℕ) → Below b xs → Below b ys → Below b (xs ++ ys)
below-append b [] ys p q = q
below-append b (x ∷ xs) ys p q = (p.0, below-append b xs ys p.1 q)

pub below-take : (b n : ℕ) (xs : List ℕ) → Below b xs → Below b (take n xs)
below-take b zero xs h = tt
below-take b (suc n) [] h = tt
below-take b (suc n) (x ∷ xs) h = (h.0, below-take b n xs h.1)

pub below-drop : (b n : ℕ) (xs : List ℕ) → Below b xs → Below b (drop n xs)
below-drop b zero xs h = h
below-drop b (suc n) [] h = tt
below-drop b (suc n) (x ∷ xs) h = below-drop b n xs h.1

pub below-weaker : (b c : ℕ) (xs : List ℕ) → b ≤ c → Below b xs → Below c xs
below-weaker b c [] l h = tt
below-weaker b c (x ∷ xs) l h = (lt_of_lt_of_le h.0 l, below-weaker b c xs l h.1)

-- ---- low bits

pub length-low_bits : (k : ℕ) (xs : List ℕ) → length (low_bits k xs) ≡ length xs
length-low_bits k xs = length-map xs (λ w. w % 2 ^ k)

pub below-low_bits : (k : ℕ) (xs : List ℕ) → Below (2 ^ k) (low_bits k xs)
below-low_bits k [] = tt
below-low_bits k (x ∷ xs) = (mod-lt x (pow_pos k), below-low_bits k xs)

pub low_bits-below : (k : ℕ) (xs : List ℕ) → Below (2 ^ k) xs → low_bits k xs ≡ xs
low_bits-below k [] h = refl
low_bits-below k (x ∷ xs) h = rw (mod-eq_of_lt h.0, low_bits-below k xs h.1)
