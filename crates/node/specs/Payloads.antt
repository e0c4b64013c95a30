-- What stands in payloads: masks, and cells at a kind's width.
use Rattle.std.specs.Prelude.{ℕ, zero, suc, ◌+◌, ◌-◌, ◌^◌, Bool, true, false, cond, List, [], ◌∷◌, ◌++◌, map, take, drop, None, nat_lt, slice_index}
use Rattle.packing.specs.Packing.{joined, digits, packed, unpacked, packed_len, low_bits}
use Rattle.column.specs.Kinds.{width, signed}
use Rattle.column.specs.Columns.{Row, Column, values, cells, bits, row_of, rows_of, has_blank, words_for}

-- ---- the mask: presence bits packed at one bit, only where there is a blank

abbrev pub flag_by : Bool → ℕ
flag_by true = 1
flag_by false = 0

abbrev pub flag_of : List Row → ℕ
flag_of rs = flag_by (has_blank rs)

abbrev pub mask_by : Bool → List Row → List ℕ
mask_by true rs = packed 1 (bits rs)
mask_by false rs = []

abbrev pub mask : List Row → List ℕ
mask rs = mask_by (has_blank rs) rs

-- its length, by whether there is a blank
abbrev pub mask_len : Bool → ℕ → ℕ
mask_len true n = packed_len 1 n
mask_len false n = 0

-- n presence bits again: all set without a mask
abbrev pub ones : ℕ → List ℕ
ones zero = []
ones (suc n) = 1 ∷ ones n

abbrev pub unmask : ℕ → ℕ → List ℕ → List ℕ
unmask zero n bs = ones n
unmask (suc f) n bs = unpacked 1 n bs

-- presence words of n bits, spare bits 0
abbrev pub words_of : ℕ → List ℕ → List ℕ
words_of n bs = digits (2 ^ 64) (words_for n) (joined 2 bs)

-- ---- cells at the width

-- a cell of b bits as a word: the sign goes up
abbrev pub widen_by : Bool → ℕ → ℕ → ℕ
widen_by false b w = w
widen_by true b w = cond (nat_lt w (2 ^ (b - 1))) w (w + (2 ^ 64 - 2 ^ b))

abbrev pub widen : ℕ → List ℕ → List ℕ
widen k ws = map (λ w. widen_by (signed k) (width k) w) ws

-- cells as bytes at a kind's width
abbrev pub at_width : ℕ → List ℕ → List ℕ
at_width k ws = packed (width k) (low_bits (width k) ws)

-- n cells again
abbrev pub from_width : ℕ → ℕ → List ℕ → List ℕ
from_width k n bs = widen k (unpacked (width k) n (take (packed_len (width k) n) bs))

-- ---- the payloads of the forms that need no scheme

-- plain: cells at the width, mask
abbrev pub plain_payload : Column → List ℕ
plain_payload c = at_width c.kind (cells c.rows) ++ mask c.rows

abbrev pub plain_len : ℕ → ℕ → Bool → ℕ
plain_len k n b = packed_len (width k) n + mask_len b n

abbrev pub plain_rows : ℕ → ℕ → ℕ → List ℕ → List Row
plain_rows k n f bs = rows_of (unmask f n (drop (packed_len (width k) n) bs)) (from_width k n bs)

abbrev pub first_of : List ℕ → List ℕ
first_of [] = []
first_of (v ∷ vs) = v ∷ []

-- constant: the one value at the width, mask
abbrev pub constant_payload : Column → List ℕ
constant_payload c = at_width c.kind (first_of (values c)) ++ mask c.rows

abbrev pub constant_len : ℕ → ℕ → Bool → ℕ
constant_len k n b = packed_len (width k) 1 + mask_len b n

abbrev pub constant_from : List ℕ → ℕ → List Row
constant_from [] v = []
constant_from (b ∷ bs) v = row_of b v ∷ constant_from bs v

abbrev pub constant_rows : ℕ → ℕ → ℕ → List ℕ → List Row
constant_rows k n f bs = constant_from (unmask f n (drop (packed_len (width k) 1) bs)) (slice_index (from_width k 1 bs) 0)

-- blank: no payload
abbrev pub blanks : ℕ → List Row
blanks zero = []
blanks (suc n) = None ∷ blanks n
