-- What reading a line answers.
use Rattle.std.specs.Prelude.{◌≡◌, ℕ, ◌<◌, ◌≤◌, true, List, is_some, Some, None, Ok, Err, Result}
use Rattle.column.specs.Columns.{Column, Clean, cleaned, offer_of}
use Rattle.lines.specs.declared.columns.LineColumn.{LineColumn}
use Rattle.lines.specs.declared.columns.LineError.{LineError}
use Rattle.lines.specs.declared.columns.LineError.TheVariants.{Unreadable, TooManyRows, NoMemory}
use Rattle.lines.specs.Lines.{fields_of, rows_in, kind_in, line_read}
use Rattle.lines.specs.Held.{held}

-- the text is the line of the column that is held
pub record Given (t : List ℕ) (l : LineColumn) : Type 0 where
  pub few : rows_in t ≤ 131072
  pub column : line_read t ≡ Some (cleaned (held l))
  -- it stands as it is handed in: cell 0 under each blank, no spare bit
  pub stored : held l ≡ offer_of (cleaned (held l))
  -- nothing that a refusal would turn away
  pub clean : Clean (cleaned (held l))

-- a column is given for each line of one with at most 131,072 rows, unless there is no memory for its rows
abbrev pub Reads : List ℕ → Result LineColumn LineError → Type 0
Reads t (Ok l) = Given t l
Reads t (Err Unreadable) = (rows_in t ≤ 131072) × (line_read t ≡ None)
Reads t (Err TooManyRows) = 131072 < rows_in t
Reads t (Err NoMemory) = (0 < rows_in t) × (rows_in t ≤ 131072) × (is_some (kind_in (fields_of t)) ≡ true)

-- a column's own line gives that column again, unless there is no memory
abbrev pub Back : Column → Result LineColumn LineError → Type 0
Back c (Ok l) = held l ≡ offer_of c
Back c (Err Unreadable) = ⊥
Back c (Err TooManyRows) = ⊥
Back c (Err NoMemory) = Unit {0}
