-- Children of a scheme: their kinds and rows.
use Rattle.std.specs.Prelude.{ℕ, zero, suc, ◌^◌, Bool, true, false, List, [], ◌∷◌, map, Some, nat_lt}
use Rattle.column.specs.Columns.{Row, Column}

-- the narrowest of u8, u16, u32 that holds n, by number
abbrev pub narrow_by : Bool → Bool → ℕ
narrow_by true b = 0
narrow_by false true = 1
narrow_by false false = 2

abbrev pub narrow : ℕ → ℕ
narrow n = narrow_by (nat_lt n (2 ^ 8)) (nat_lt n (2 ^ 16))

-- rows without a blank
abbrev pub some_row : ℕ → Row
some_row v = Some v

abbrev pub some_rows : List ℕ → List Row
some_rows vs = map some_row vs

-- the rows of child i
abbrev pub child_rows : List Column → ℕ → List Row
child_rows [] i = []
child_rows (c ∷ cs) zero = c.rows
child_rows (c ∷ cs) (suc i) = child_rows cs i
