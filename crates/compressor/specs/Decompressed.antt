-- What reading a node back gives.
use Rattle.std.specs.Prelude.{◌≡◌, ℕ, List, ◌++◌, length, Ok, Option}
use Rattle.column.specs.Columns.{Column, Clean}
use Rattle.node.specs.Nodes.{Node, flat}
use Rattle.sample.specs.Draws.{Source}
use Rattle.scheme.specs.Meaning.{Meaning}
use Rattle.levels.specs.Levels.{bound}
use Rattle.reading.specs.declared.restored.Restored.{Restored}
use Rattle.reading.specs.Reads.{Gives, Space}

-- from bytes that begin with the node that these levels made of a column, over any source of draws, that column is given
abbrev pub Decompressed : List Meaning → ℕ → List ℕ → List ℕ → Option Restored → List ℕ → List ℕ → List ℕ → List ℕ → Type 0
Decompressed ms l bytes mem r old_cells old_words new_cells new_words =
    (d : Source) (c : Column) (n : Node) (rest : List ℕ) → Clean c → bound ms d l c ≡ Ok n → bytes ≡ flat n ++ rest
    → Space l (length c.rows) mem old_cells old_words → Gives c r old_cells old_words new_cells new_words
