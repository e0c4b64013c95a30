-- Packed cells come back, whatever follows them.
use Rattle.std.proofs.Common.{◌≡◌, ℕ, zero, suc, ◌+◌, ◌-◌, ◌*◌, ◌^◌, ◌<◌, ◌≤◌, ◌⊎◌, List, ◌++◌, length, take, drop, sym, ap, ◌∙◌, inl, inr, lt_of_lt_of_le, le_of_lt, zero-lt-suc, mul_assoc, mul_comm, mul-le-mul_left, pow-suc, mul-zero, mul-one, mul-suc, arith, pow_pos, pow-add}
use native.Mathlib.Nat.{pow-zero}
use Rattle.std.proofs.lemmas.List.{length-take-le, take_all, take-append-drop, take_at, drop_at}
use Rattle.std.proofs.lemmas.Bool.{cases_lt}
use Rattle.packing.specs.Packing.{joined, digits, packed_len, packed, unpacked, Below}
use Rattle.packing.proofs.Digits.{length_digits, below-digits, joined-lt, joined-++, joined-digits, digits-joined, digits-high}

pub length-packed : (k : ℕ) (xs : List ℕ) → length (packed k xs) ≡ packed_len k (length xs)
length-packed k xs = length_digits 256 (packed_len k (length xs)) (joined (2 ^ k) xs)

pub below-packed : (k : ℕ) (xs : List ℕ) → Below 256 (packed k xs)
below-packed k xs = below-digits 256 (packed_len k (length xs)) (joined (2 ^ k) xs) (zero-lt-suc 255)

-- cells of at most 64 bits
pub packed-small : (k n : ℕ) → k ≤ 64 → packed_len k n ≤ 8 * n
packed-small k n h = let t = mul-le-mul_left n h in omega arith

pub length-unpacked : (k n : ℕ) (bs : List ℕ) → length (unpacked k n bs) ≡ n
length-unpacked k n bs = length_digits (2 ^ k) n (joined 256 bs)

pub below-unpacked : (k n : ℕ) (bs : List ℕ) → Below (2 ^ k) (unpacked k n bs)
below-unpacked k n bs = below-digits (2 ^ k) n (joined 256 bs) (pow_pos k)

-- ---- back

pub pow-mul : (b k n : ℕ) → b ^ (k * n) ≡ (b ^ k) ^ n
pow-mul b k zero = rw (mul-zero, pow-zero b, pow-zero (b ^ k))
pow-mul b k (suc n) = rw (mul-suc, pow-add, pow-mul b k n, pow-suc)

-- the bytes' numbers are a multiple of the cells' numbers: the spare bits'
abbrev spare : ℕ → ℕ → ℕ
spare k n = 2 ^ (8 * packed_len k n - k * n)

room : (k n : ℕ) → 256 ^ packed_len k n ≡ spare k n * (2 ^ k) ^ n
room k n =
    let l : k * n ≡ n * k = mul_comm k n in
    let e : 8 * packed_len k n ≡ (8 * packed_len k n - k * n) + k * n = omega arith in
    sym (pow-mul 2 8 (packed_len k n)) ∙ ap (λ m. 2 ^ m) e ∙ pow-add 2 (8 * packed_len k n - k * n) (k * n) ∙ ap (λ m. spare k n * m) (pow-mul 2 k n)

-- the cells' number stands in their bytes
joined-packed : (k : ℕ) (xs : List ℕ) → Below (2 ^ k) xs → joined 256 (packed k xs) ≡ joined (2 ^ k) xs
joined-packed k xs h =
    let n = length xs in
    let s = mul-le-mul_left ((2 ^ k) ^ n) (pow_pos (8 * packed_len k n - k * n)) in
    let m : (2 ^ k) ^ n ≤ 256 ^ packed_len k n = rw (room k n, mul_comm (spare k n) ((2 ^ k) ^ n)) (omega (arith, s, mul-one ((2 ^ k) ^ n))) in
    joined-digits 256 (packed_len k n) (joined (2 ^ k) xs) (zero-lt-suc 255) (lt_of_lt_of_le (joined-lt (2 ^ k) xs h) m)

pub unpacked-packed : (k : ℕ) (xs : List ℕ) → Below (2 ^ k) xs → unpacked k (length xs) (packed k xs) ≡ xs
unpacked-packed k xs h = ap (digits (2 ^ k) (length xs)) (joined-packed k xs h) ∙ digits-joined (2 ^ k) xs h

-- packed cells and what follows, parted
pub take-packed : (k n : ℕ) (xs rest : List ℕ) → length xs ≡ n → take (packed_len k n) (packed k xs ++ rest) ≡ packed k xs
take-packed k n xs rest e = take_at (packed k xs) rest (packed_len k n) (length-packed k xs ∙ ap (packed_len k) e)

pub drop-packed : (k n : ℕ) (xs rest : List ℕ) → length xs ≡ n → drop (packed_len k n) (packed k xs ++ rest) ≡ rest
drop-packed k n xs rest e = drop_at (packed k xs) rest (packed_len k n) (length-packed k xs ∙ ap (packed_len k) e)

-- any bytes: only those that n cells take matter
pub unpacked-take : (k n : ℕ) (bs : List ℕ) → unpacked k n (take (packed_len k n) bs) ≡ unpacked k n bs
unpacked-take k n bs = go (cases_lt (length bs) (packed_len k n))
  where
    go : (length bs < packed_len k n) ⊎ (packed_len k n ≤ length bs) → unpacked k n (take (packed_len k n) bs) ≡ unpacked k n bs
    go (inl h) = ap (unpacked k n) (take_all (packed_len k n) bs (le_of_lt h))
    go (inr h) =
        let front = take (packed_len k n) bs in
        let hi = joined 256 (drop (packed_len k n) bs) in
        let q : hi * 256 ^ length front ≡ hi * spare k n * (2 ^ k) ^ n =
        ap (λ m. hi * 256 ^ m) (length-take-le (packed_len k n) bs h) ∙ ap (λ m. hi * m) (room k n) ∙ sym (mul_assoc hi (spare k n) ((2 ^ k) ^ n)) in
        let j : joined 256 bs ≡ hi * spare k n * (2 ^ k) ^ n + joined 256 front =
        ap (joined 256) (sym (take-append-drop (packed_len k n) bs)) ∙ joined-++ 256 front (drop (packed_len k n) bs) ∙ ap (λ m. m + joined 256 front) q in
        sym (ap (digits (2 ^ k) n) j ∙ digits-high (2 ^ k) n (hi * spare k n) (joined 256 front) (pow_pos k))

-- packed cells, whatever follows them
pub unpacked-front : (k n : ℕ) (xs rest : List ℕ) → length xs ≡ n → Below (2 ^ k) xs → unpacked k n (packed k xs ++ rest) ≡ xs
unpacked-front k n xs rest e h =
    sym (unpacked-take k n (packed k xs ++ rest))
    ∙ ap (unpacked k n) (take-packed k n xs rest e)
    ∙ ap (λ m. unpacked k m (packed k xs)) (sym e)
    ∙ unpacked-packed k xs h

-- single bits packed are the bytes of their number
pub packed-bits : (n x : ℕ) → x < 2 ^ n → packed 1 (digits 2 n x) ≡ digits 256 (packed_len 1 n) x
packed-bits n x h = rw (length_digits, joined-digits 2 n x (zero-lt-suc 1) h)
