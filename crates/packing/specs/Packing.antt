-- Cells packed at k bits fill bytes from the lowest bit, cell i from bit i × k; spare bits are 0.
-- Both directions go by one number, the sum of cell i times 2 ^ (i × k): its digits in base 256 are the bytes.
-- Numbers of 4 and 8 bytes, little-endian, are the digits of one number in the same way.
use Rattle.std.specs.Prelude.{ℕ, zero, suc, ◌+◌, ◌*◌, ◌/◌, ◌%◌, ◌^◌, ◌<◌, List, [], ◌∷◌, ◌++◌, map, length, take, drop}

-- the number whose digits in base b, lowest first, are the list
abbrev pub joined : ℕ → List ℕ → ℕ
joined b [] = 0
joined b (d ∷ ds) = joined b ds * b + d

-- the n lowest digits of x in base b, lowest first
abbrev pub digits : ℕ → ℕ → ℕ → List ℕ
digits b zero x = []
digits b (suc n) x = x % b ∷ digits b n (x / b)

-- bytes that n cells of k bits take
abbrev pub packed_len : ℕ → ℕ → ℕ
packed_len k n = (n * k + 7) / 8

-- cells at k bits
abbrev pub packed : ℕ → List ℕ → List ℕ
packed k xs = digits 256 (packed_len k (length xs)) (joined (2 ^ k) xs)

-- n cells of k bits
abbrev pub unpacked : ℕ → ℕ → List ℕ → List ℕ
unpacked k n bs = digits (2 ^ k) n (joined 256 bs)

-- the low b bits of each word
abbrev pub low_bits : ℕ → List ℕ → List ℕ
low_bits b ws = map (λ w. w % 2 ^ b) ws

-- each of the list is below b
abbrev pub Below : ℕ → List ℕ → Type 0
Below b [] = Unit {0}
Below b (x ∷ xs) = (x < b) × Below b xs

-- a lent place after a write at its front: what is written, and the rest as it was
abbrev pub written : List ℕ → List ℕ → List ℕ
written new old = new ++ drop (length new) old

-- the same where the write begins at place i
abbrev pub written_at : ℕ → List ℕ → List ℕ → List ℕ
written_at i new old = take i old ++ written new (drop i old)

-- how many bits n needs, 0 for 0; n has at most d
unfoldable pub bit_length_by : ℕ → ℕ → ℕ
bit_length_by zero n = 0
bit_length_by (suc d) zero = 0
bit_length_by (suc d) (suc n) = suc (bit_length_by d (suc n / 2))

-- how many bits a word needs, 0 for 0
abbrev pub bit_length : ℕ → ℕ
bit_length n = bit_length_by 64 n
