-- A column taken apart by a scheme and joined again.
use Rattle.std.specs.Prelude.{◌≡◌, ℕ, List, [], ◌∷◌, take, Some, None, Ok, Err, Option, Result}
use Rattle.column.specs.Columns.{Column, Offer}
use Rattle.scheme.specs.declared.scheme.ChildShape.{ChildShape}
use Rattle.scheme.specs.declared.scheme.RowRefused.{RowRefused}
use Rattle.scheme.specs.Memory.{child_seen}
use Rattle.scheme.specs.Meaning.{Parts}

-- the rows of a child, none where there is no such child
abbrev pub child_rows : Option ChildShape → ℕ
child_rows None = 0
child_rows (Some s) = s.rows

-- a child at the front of lent places, nothing where there is no such child
abbrev pub child_offer : Option ChildShape → List ℕ → List ℕ → Offer
child_offer None cs ws = record { kind = 0; cells = []; words = [] }
child_offer (Some s) cs ws = (child_seen s cs ws).1

-- the parts of a scheme with n children
abbrev pub gathered : ℕ → List ℕ → ℕ → ℕ → Column → Column → Parts
gathered n payload bits flag c0 c1 = record { payload = payload; cell_bits = bits; flag = flag; children = take n (c0 ∷ (c1 ∷ [])) }

-- by the parts: the column is held in the end; or the answer is their refusal, and what was held stays
abbrev pub Returned : Result Parts ℕ → Column → Result (Unit {0}) RowRefused → Column → Column → Type 0
Returned (Ok p) c r before after = (r ≡ Ok tt) × (after ≡ c)
Returned (Err e) c r before after = (r ≡ Err (record { row = e })) × (after ≡ before)
