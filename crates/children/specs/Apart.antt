-- A column taken apart by a scheme: parts but for what the payload holds.
use Rattle.std.specs.Prelude.{◌≡◌, ℕ, ◌+◌, ◌*◌, List, [], ◌∷◌, length, Ok, Err, Result}
use Rattle.column.specs.Columns.{Column, Clean, cleaned, seen, words_for}
use Rattle.children.specs.declared.Apart.{Apart}
use Rattle.children.specs.declared.Children.{Children}
use Rattle.children.specs.declared.Children.TheVariants.{None, One, Two}
use Rattle.scheme.specs.declared.scheme.ChildShape.{ChildShape}
use Rattle.scheme.specs.declared.scheme.RowRefused.{RowRefused}
use Rattle.scheme.specs.Meaning.{Parts}
use Rattle.scheme.specs.Memory.{stored_child, child_seen}

-- words of the places that the children of n rows are left in
abbrev pub places_for : ℕ → ℕ
places_for n = 2 * (n + words_for n)

-- the column of a child in lent places
abbrev pub child_column : ChildShape → List ℕ → List ℕ → Column
child_column s cs ws = cleaned (child_seen s cs ws).1

-- the places hold it as a cleaned column is stored
pub record ChildStored (s : ChildShape) (cs ws : List ℕ) : Type 0 where
  pub clean : Clean (child_column s cs ws)
  pub stored : child_seen s cs ws ≡ stored_child (child_column s cs ws)

pub record Pieces : Type 0 where
  pub payload : ℕ
  pub cell_bits : ℕ
  pub flag : ℕ
  pub children : List Column

abbrev pub pieces : Parts → Pieces
pieces p = record { payload = length p.payload; cell_bits = p.cell_bits; flag = p.flag; children = p.children }

abbrev pub apart_of : Result Parts ℕ → Result Pieces ℕ
apart_of (Ok p) = Ok (pieces p)
apart_of (Err r) = Err r

abbrev pub children_seen : Children → List Column
children_seen None = []
children_seen (One a) = seen a.view ∷ []
children_seen (Two a b) = seen a.view ∷ (seen b.view ∷ [])

abbrev pub pieces_seen : Apart → Pieces
pieces_seen a = record { payload = a.payload; cell_bits = a.cell_bits; flag = a.flag; children = children_seen a.children }

abbrev pub apart_seen : Result Apart RowRefused → Result Pieces ℕ
apart_seen (Ok a) = Ok (pieces_seen a)
apart_seen (Err e) = Err e.row
