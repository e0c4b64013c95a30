-- What is printed of a line, and what it does to the binder.
use Rattle.std.specs.Prelude.{◌≡◌, ℕ, List, [], ◌∷◌, ◌++◌, length, cond, codes, decimal, Some, None, Ok, Err, Option, nat_le}
use Rattle.std.specs.Bool.{then_some}
use Rattle.column.specs.Columns.{Column, cleaned, offer_of}
use Rattle.sample.specs.Draws.{mill}
use Rattle.levels.specs.Levels.{Bound}
use Rattle.levels.specs.Plans.{working_memory}
use Rattle.banks.specs.Banks.{house}
use Rattle.calls.specs.Openings.{Setting}
use Rattle.calls.specs.Calls.{State, taken, bind_next}
use Rattle.compressor.specs.Compressed.{setting}
use Rattle.lines.specs.declared.columns.LineColumn.{LineColumn}
use Rattle.lines.specs.Held.{held}
use Rattle.lines.specs.Lines.{line_read}
use Rattle.tree.specs.Trees.{preorder}
use Rattle.listing.specs.Rows.{newline, rows_text}

abbrev pub four_levels : Setting
four_levels = setting house mill 4

-- words of working memory that are lent
abbrev pub memory : ℕ
memory = working_memory 4 64

-- of at most 64 rows
abbrev pub few : Option Column → Option Column
few None = None
few (Some c) = then_some (nat_le (length c.rows) 64) c

-- the column of line n that is to be bound, if there is one: no line past 16 has one
abbrev pub line_column : ℕ → List ℕ → Option Column
line_column n t = cond (nat_le n 16) (few (line_read t)) None

-- that column, as it was read
abbrev pub column_seen : Option LineColumn → Option Column
column_seen None = None
column_seen (Some l) = Some (cleaned (held l))

-- it stands as it is handed in
abbrev pub Stored : Option LineColumn → Type 0
Stored None = Unit {0}
Stored (Some l) = held l ≡ offer_of (cleaned (held l))

-- how it is bound
abbrev pub taken_column : State → Option Column → Option Bound
taken_column s None = None
taken_column s (Some c) = Some (taken four_levels s (offer_of c) memory)

abbrev pub taken_line : State → ℕ → List ℕ → Option Bound
taken_line s n t = taken_column s (line_column n t)

abbrev pub unread : ℕ → List ℕ
unread n = codes "unread," ++ (decimal n ++ (newline ∷ []))

abbrev pub printed_by : State → ℕ → Option Bound → List ℕ
printed_by s n None = unread n
printed_by s n (Some (Err e)) = unread n
printed_by s n (Some (Ok node)) = rows_text s.count (preorder 0 0 node)

abbrev pub next_by : State → Option Bound → State
next_by s None = s
next_by s (Some b) = bind_next s b

-- line n, whatever it is
abbrev pub printed : State → ℕ → List ℕ → List ℕ
printed s n t = printed_by s n (taken_line s n t)

abbrev pub next : State → ℕ → List ℕ → State
next s n t = next_by s (taken_line s n t)
