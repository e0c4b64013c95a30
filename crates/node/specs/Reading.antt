-- A head, its payload and what follows it, from bytes. Total: other bytes give some answer.
use Rattle.std.specs.Prelude.{◌≡◌, ℕ, zero, suc, ◌+◌, ◌≤◌, max, Bool, true, false, ◌&&◌, List, length, take, drop, Some, None, Option, nat_le, nat_lt, slice_index}
use Rattle.packing.specs.Packing.{joined}
use Rattle.column.specs.Columns.{Row, Column, Clean, rows_of, word_bits, words_for, cleaned}
use Rattle.node.specs.declared.heads.Head.{Head}
use Rattle.node.specs.declared.heads.Header.{Header}
use Rattle.node.specs.Payloads.{plain_rows, constant_rows, blanks}
use Rattle.node.specs.Nodes.{Node, leaf, Bare, head_of, payload_of, head_size, whole}

-- the number of four bytes from i
abbrev pub number4 : ℕ → List ℕ → ℕ
number4 i bs = joined 256 (take 4 (drop i bs))

abbrev pub head_read : List ℕ → Head
head_read bs = record { form = slice_index bs 0; kind = slice_index bs 1; cell_bits = slice_index bs 2; flag = slice_index bs 3; rows = number4 4 bs }

abbrev pub payload_length : List ℕ → ℕ
payload_length bs = number4 8 bs

abbrev pub whole_length : List ℕ → ℕ
whole_length bs = number4 12 bs

abbrev pub payload_read : List ℕ → List ℕ
payload_read bs = take (payload_length bs) (drop head_size bs)

abbrev pub after_payload : List ℕ → List ℕ
after_payload bs = drop (payload_length bs) (drop head_size bs)

-- the head with both lengths, where there are bytes enough for it
abbrev pub header_at : List ℕ → Header
header_at bs = record { head = head_read bs; payload = payload_length bs; whole = whole_length bs }

abbrev pub header_by : Bool → List ℕ → Option Header
header_by true bs = None
header_by false bs = Some (header_at bs)

abbrev pub header_read : List ℕ → Option Header
header_read bs = header_by (nat_lt (length bs) head_size) bs

abbrev pub header_of : Node → Header
header_of n = record { head = head_of n; payload = length (payload_of n); whole = whole n }

-- a node's own bytes
abbrev pub own_bytes : List ℕ → List ℕ
own_bytes bs = take (whole_length bs) bs

-- what follows a node; it has a head at least
abbrev pub after_node : List ℕ → List ℕ
after_node bs = drop (max head_size (whole_length bs)) bs

-- payload length and, with that many levels below, the weights of the children; where nothing stands it is 0
abbrev pub weight_read : ℕ → List ℕ → ℕ
weight_read zero bs = length (payload_read (own_bytes bs))
weight_read (suc l) bs =
    length (payload_read (own_bytes bs)) + weight_read l (after_payload (own_bytes bs)) + weight_read l (after_node (after_payload (own_bytes bs)))

-- the rows of a plain, constant or blank node
abbrev pub rows_read : ℕ → ℕ → ℕ → ℕ → List ℕ → List Row
rows_read zero k n f p = plain_rows k n f p
rows_read (suc zero) k n f p = constant_rows k n f p
rows_read (suc (suc x)) k n f p = blanks n

abbrev pub leaf_read : Head → List ℕ → Column
leaf_read h p = record { kind = h.kind; rows = rows_read h.form h.kind h.rows h.flag p }

-- ---- the rows of a leaf in lent places

-- the rows that cells and presence words hold
abbrev pub held_rows : List ℕ → List ℕ → List Row
held_rows cs ws = rows_of (word_bits (length cs) ws) cs

-- a form without a scheme, not too many rows, and places enough for them
abbrev pub leaf_fits : Head → ℕ → ℕ → Bool
leaf_fits h c w = nat_le h.form 2 && (nat_le h.rows 131072 && (nat_le h.rows c && nat_le (words_for h.rows) w))

-- the same, and a known kind
abbrev pub readable : Head → ℕ → ℕ → Bool
readable h c w = nat_le h.kind 7 && leaf_fits h c w

-- the places' fronts hold the column, and what lies beyond is as it was
pub record Filled (c : Column) (n : ℕ) (old_cells old_words new_cells new_words : List ℕ) : Type 0 where
  pub column : cleaned (record { kind = c.kind; cells = take n new_cells; words = take (words_for n) new_words }) ≡ c
  pub cells : drop n new_cells ≡ drop n old_cells
  pub words : drop (words_for n) new_words ≡ drop (words_for n) old_words

-- what stands in the places after a leaf was read, or was not
abbrev pub LeafIn : Bool → Head → List ℕ → List ℕ → List ℕ → List ℕ → List ℕ → Type 0
LeafIn true h p old_cells old_words new_cells new_words = Filled (leaf_read h p) h.rows old_cells old_words new_cells new_words
LeafIn false h p old_cells old_words new_cells new_words = (new_cells ≡ old_cells) × (new_words ≡ old_words)

-- the head and payload of a bare node of a column: where the places suffice, it is read and they hold that column
abbrev pub LeafBack : Head → List ℕ → Bool → List ℕ → List ℕ → List ℕ → List ℕ → Type 0
LeafBack h p r old_cells old_words new_cells new_words =
    (c : Column) → Clean c → Bare c (leaf h p) → length c.rows ≤ length old_cells → words_for (length c.rows) ≤ length old_words
    → (r ≡ true) × Filled c (length c.rows) old_cells old_words new_cells new_words
