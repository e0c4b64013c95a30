-- What a view shows, and what does not matter to it.
use Rattle.std.specs.Prelude.{◌≡◌, ℕ, Bool, true, false, List, length, Some, None, Option, Ok, Err, Result, slice_index}
use Rattle.packing.specs.Packing.{digits}
use Rattle.column.specs.declared.refusals.Refusal.{Refusal}
use Rattle.column.specs.declared.views.View.{View}
use Rattle.column.specs.Columns.{Row, Offer, rows_of, word_bits, cleaned, offer_refused, offer_seen, seen, Sound, Clean}

-- whether a row is a value
abbrev pub is_value : Row → Bool
is_value None = false
is_value (Some w) = true

-- up to 64 rows: bit i of the presence word w is row i's
abbrev pub block_rows : ℕ → List ℕ → List Row
block_rows w xs = rows_of (digits 2 (length xs) w) xs

-- a view that shows what was handed in, which no refusal turns away
pub record Shown (o : Offer) (v : View) : Type 0 where
  pub unrefused : offer_refused o ≡ None
  pub same : offer_seen v ≡ o
  pub sound : Sound v
  pub clean : Clean (seen v)

-- a view where no refusal turns the offer away, else the first refusal that does
abbrev pub Inspected : Offer → Result View Refusal → Type 0
Inspected o (Ok v) = Shown o v
Inspected o (Err e) = offer_refused o ≡ Some e

-- granted, unless something turns the call away
abbrev pub unless : Option Refusal → Result Unit Refusal
unless None = Ok tt
unless (Some e) = Err e

-- ---- what stands under blanks

-- the same but for cells under blanks
pub record Alike (a b : Offer) : Type 0 where
  pub kind : a.kind ≡ b.kind
  pub words : a.words ≡ b.words
  pub rows : length a.cells ≡ length b.cells
  pub values : (i : ℕ) → slice_index (word_bits (length a.cells) a.words) i ≡ 1 → slice_index a.cells i ≡ slice_index b.cells i

-- cells under blanks change neither the column nor the refusal
abbrev pub Hidden : Offer → Type 0
Hidden a = (b : Offer) → Alike a b → (cleaned a ≡ cleaned b) × (offer_refused a ≡ offer_refused b)

-- other cells with the same kind and presence words
abbrev pub with_cells : Offer → List ℕ → Offer
with_cells o cs = record { kind = o.kind; cells = cs; words = o.words }

-- other cells that, with the view's presence words, are the same column, refused just as the view's are
pub record Again (v : View) (cs : List ℕ) : Type 0 where
  pub column : cleaned (with_cells (offer_seen v) cs) ≡ seen v
  pub refused : offer_refused (with_cells (offer_seen v) cs) ≡ offer_refused (offer_seen v)
