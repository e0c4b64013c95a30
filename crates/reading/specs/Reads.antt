-- What reading gives, on any bytes and on those of a column.
use Rattle.std.specs.Prelude.{◌≡◌, ℕ, ◌≤◌, List, ◌++◌, length, Some, None, Option}
use Rattle.packing.specs.Packing.{written}
use Rattle.column.specs.Kinds.{number_of}
use Rattle.column.specs.Columns.{Row, Column, Clean, cells as cells_of, presence, words_for}
use Rattle.node.specs.Nodes.{Node, flat, Fit}
use Rattle.scheme.specs.Meaning.{Meaning}
use Rattle.levels.specs.NodesOf.{NodeOf}
use Rattle.levels.specs.Openings.{Opened}
use Rattle.levels.specs.Plans.{room}
use Rattle.reading.specs.declared.restored.Restored.{Restored}

-- the rows stand at the fronts of the places, with 0 under blanks and spare bits 0; what lies beyond is as it was
pub record Placed (rs : List Row) (old_cells old_words new_cells new_words : List ℕ) : Type 0 where
  pub cells : new_cells ≡ written (cells_of rs) old_cells
  pub words : new_words ≡ written (presence rs) old_words

-- some n rows, which the places have room for
pub record RowsIn (n : ℕ) (old_cells old_words new_cells new_words : List ℕ) : Type 0 where
  pub rows : List Row
  pub count : length rows ≡ n
  pub cells_fit : n ≤ length old_cells
  pub words_fit : words_for n ≤ length old_words
  pub placed : Placed rows old_cells old_words new_cells new_words

-- on any bytes: what stands in the places after a node was read, or was not
abbrev pub ReadIn : Option Restored → List ℕ → List ℕ → List ℕ → List ℕ → Type 0
ReadIn (Some r) old_cells old_words new_cells new_words = RowsIn r.rows old_cells old_words new_cells new_words
ReadIn None old_cells old_words new_cells new_words = (new_cells ≡ old_cells) × (new_words ≡ old_words)

-- the column was read, and its rows stand in the places
pub record Given (c : Column) (r : Restored) (old_cells old_words new_cells new_words : List ℕ) : Type 0 where
  pub kind : number_of r.kind ≡ c.kind
  pub count : r.rows ≡ length c.rows
  pub placed : Placed c.rows old_cells old_words new_cells new_words

abbrev pub Gives : Column → Option Restored → List ℕ → List ℕ → List ℕ → List ℕ → Type 0
Gives c (Some r) old_cells old_words new_cells new_words = Given c r old_cells old_words new_cells new_words
Gives c None old_cells old_words new_cells new_words = ⊥

-- the bytes begin with a node that holds the column
pub record Begins (ms : List Meaning) (l : ℕ) (c : Column) (bytes : List ℕ) : Type 0 where
  pub node : Node
  pub rest : List ℕ
  pub of : NodeOf ms l c node
  pub fit : Fit node
  pub is : bytes ≡ flat node ++ rest

-- memory and places suffice for n rows and l levels
pub record Space (l n : ℕ) (m cs ws : List ℕ) : Type 0 where
  pub mem : room l n ≤ length m
  pub cells : n ≤ length cs
  pub words : words_for n ≤ length ws

-- by a bank that may be opened, a clean column is read from the bytes that begin with a node of it
abbrev pub ReadBack : List Meaning → ℕ → List ℕ → List ℕ → Option Restored → List ℕ → List ℕ → List ℕ → List ℕ → Type 0
ReadBack ms l bytes mem r old_cells old_words new_cells new_words =
    Opened ms → (c : Column) → Clean c → Begins ms l c bytes → Space l (length c.rows) mem old_cells old_words
    → Gives c r old_cells old_words new_cells new_words
