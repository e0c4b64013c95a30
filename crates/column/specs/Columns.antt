-- A cleaned column: a kind, and for each row a value or a blank. Nothing stands under a blank, so two calls that differ only there
-- have the same column.
use Rattle.std.specs.Prelude.{◌≡◌, ℕ, zero, suc, ◌^◌, ◌≤◌, Bool, true, false, not, ◌||◌, List, [], ◌∷◌, map, length, Some, None, Option, ◌==◌, nat_le, nat_lt}
use Rattle.packing.specs.Packing.{joined, digits}
use Rattle.column.specs.declared.refusals.Refusal.{Refusal}
use Rattle.column.specs.declared.refusals.Refusal.TheVariants.{UnknownKind, TooManyRows, BadPresence, ValueOutside}
use Rattle.column.specs.declared.views.View.{View}
use Rattle.column.specs.Kinds.{in_kind, number_of}
pub use Rattle.column.specs.Words.{words_for}

-- a value, as a 64-bit cell, or a blank
abbrev pub Row : Type 0
Row = Option ℕ

-- the kind by its number
pub record Column : Type 0 where
  pub kind : ℕ
  pub rows : List Row

-- ---- the two lists that a row list is stored as

abbrev pub cell_of : Row → ℕ
cell_of None = 0
cell_of (Some w) = w

abbrev pub bit_of : Row → ℕ
bit_of None = 0
bit_of (Some w) = 1

abbrev pub cells : List Row → List ℕ
cells rs = map cell_of rs

abbrev pub bits : List Row → List ℕ
bits rs = map bit_of rs

abbrev pub row_of : ℕ → ℕ → Row
row_of zero w = None
row_of (suc b) w = Some w

-- rows from presence bits and cells; as many as there are bits
abbrev pub rows_of : List ℕ → List ℕ → List Row
rows_of [] ws = []
rows_of (b ∷ bs) [] = row_of b 0 ∷ rows_of bs []
rows_of (b ∷ bs) (w ∷ ws) = row_of b w ∷ rows_of bs ws

-- the values, in row order
abbrev pub values_of : List Row → List ℕ
values_of [] = []
values_of (None ∷ rs) = values_of rs
values_of (Some w ∷ rs) = w ∷ values_of rs

abbrev pub values : Column → List ℕ
values c = values_of c.rows

-- rows from presence bits and the values alone
abbrev pub filled : List ℕ → List ℕ → List Row
filled [] vs = []
filled (zero ∷ bs) vs = None ∷ filled bs vs
filled (suc b ∷ bs) [] = Some 0 ∷ filled bs []
filled (suc b ∷ bs) (v ∷ vs) = Some v ∷ filled bs vs

abbrev pub has_blank : List Row → Bool
has_blank [] = false
has_blank (None ∷ rs) = true
has_blank (Some w ∷ rs) = has_blank rs

-- ---- what a caller hands in: kind number, cells, presence words; and when it is turned away

pub record Offer : Type 0 where
  pub kind : ℕ
  pub cells : List ℕ
  pub words : List ℕ

-- presence words as bits, one a row
abbrev pub word_bits : ℕ → List ℕ → List ℕ
word_bits n ws = digits 2 n (joined (2 ^ 64) ws)

abbrev pub offered : Offer → List Row
offered o = rows_of (word_bits (length o.cells) o.words) o.cells

abbrev pub cleaned : Offer → Column
cleaned o = record { kind = o.kind; rows = offered o }

-- the row i if its value is outside the kind, else what the later rows say
abbrev pub stray_by : Bool → ℕ → Option ℕ → Option ℕ
stray_by true i later = later
stray_by false i later = Some i

-- the first row from i on with a value outside the kind
abbrev pub stray_from : ℕ → ℕ → List Row → Option ℕ
stray_from k i [] = None
stray_from k i (None ∷ rs) = stray_from k (suc i) rs
stray_from k i (Some w ∷ rs) = stray_by (in_kind k w) i (stray_from k (suc i) rs)

abbrev pub refuse_stray : Option ℕ → Option Refusal
refuse_stray None = None
refuse_stray (Some r) = Some (ValueOutside r)

-- not a word for each 64 rows, or a bit set past the last row
abbrev pub words_wrong : ℕ → List ℕ → Bool
words_wrong n ws = not (length ws == words_for n) || not (nat_lt (joined (2 ^ 64) ws) (2 ^ n))

-- a refusal if the test is true, else what the later tests say
abbrev pub or_else : Bool → Refusal → Option Refusal → Option Refusal
or_else true r later = Some r
or_else false r later = later

-- by kind, row count, presence words and rows, in this order
abbrev pub refused_by : ℕ → ℕ → List ℕ → List Row → Option Refusal
refused_by k n ws rs =
    or_else (nat_lt 7 k) UnknownKind (or_else (nat_lt 131072 n) TooManyRows (or_else (words_wrong n ws) BadPresence (refuse_stray (stray_from k 0 rs))))

abbrev pub offer_refused : Offer → Option Refusal
offer_refused o = refused_by o.kind (length o.cells) o.words (offered o)

-- presence words of rows, spare bits 0
abbrev pub presence : List Row → List ℕ
presence rs = digits (2 ^ 64) (words_for (length rs)) (joined 2 (bits rs))

-- a column as it is handed in: its cells, 0 under blanks, and its presence words
abbrev pub offer_of : Column → Offer
offer_of c = record { kind = c.kind; cells = cells c.rows; words = presence c.rows }

-- a column that no refusal would turn away
abbrev pub Clean : Column → Type 0
Clean c = (nat_le c.kind 7 ≡ true) × (nat_le (length c.rows) 131072 ≡ true) × (stray_from c.kind 0 c.rows ≡ None)

-- ---- slices that hold a column

abbrev pub offer_seen : View → Offer
offer_seen v = record { kind = number_of v.kind; cells = v.cells.now; words = v.words.now }

-- the column that a view shows, whatever cells stand under its blanks
abbrev pub seen : View → Column
seen v = cleaned (offer_seen v)

-- a view with a word for each 64 rows, and no more rows than a column may have
pub record Sound (v : View) : Type 0 where
  pub few : length v.cells.now ≤ 131072
  pub words : length v.words.now ≡ words_for (length v.cells.now)

-- a view of a cleaned column: cell 0 under each blank, no spare bit set, and nothing that a refusal would turn away
pub record CleanView (v : View) : Type 0 where
  pub stored : offer_seen v ≡ offer_of (seen v)
  pub clean : Clean (seen v)
