-- Rows in memory: cells, 0 under blanks, and presence words.
use Rattle.std.specs.Prelude.{◌≡◌, ◌+◌, ◌*◌, ◌/◌, ◌%◌, ◌^◌, ◌<◌, List, length, vec_items, vec_len}
use Rattle.packing.specs.Packing.{joined, Below}
use Rattle.column.specs.Kinds.{number_of}
use Rattle.column.specs.Columns as columns
use Rattle.column.specs.Columns.{Row, Offer, bits}
use Rattle.lines.specs.declared.columns.LineColumn.{LineColumn}
use Rattle.lines.specs.declared.rows.Rows.{Rows}

-- what a column of a line hands in
abbrev pub held : LineColumn → Offer
held l = record { kind = number_of l.kind; cells = vec_items l.cells; words = vec_items l.words }

-- the rows so far: their cells, a word for each 64 of them, and in one more word the bits of the others
pub record Gathers (rs : List Row) (b : Rows) : Type 0 where
  pub cells : vec_items b.cells ≡ columns.cells rs
  pub count : vec_len b.words ≡ length rs / 64
  pub below : Below (2 ^ 64) (vec_items b.words)
  pub small : b.word < 2 ^ (length rs % 64)
  pub sum : b.word * (2 ^ 64) ^ (length rs / 64) + joined (2 ^ 64) (vec_items b.words) ≡ joined 2 (bits rs)
