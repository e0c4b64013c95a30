-- Nodes that hold a column, whatever was chosen: built of the parts that the bank's schemes give.
use Rattle.std.specs.Prelude.{◌≡◌, ℕ, zero, suc, ◌<◌, true, ◌⊎◌, List, [], ◌∷◌, length, Ok}
use Rattle.column.specs.Columns.{Column}
use Rattle.node.specs.Nodes.{Node, head_of, payload_of, children_of, Bare}
use Rattle.scheme.specs.Meaning.{Meaning, Parts}
use Rattle.scheme.specs.Banks.{at}
use Rattle.levels.specs.Levels.{scheme_head}

abbrev pub Each : (Column → Node → Type 0) → List Column → List Node → Type 0
Each P [] [] = Unit {0}
Each P [] (n ∷ ns) = ⊥
Each P (c ∷ cs) [] = ⊥
Each P (c ∷ cs) (n ∷ ns) = P c n × Each P cs ns

-- a scheme that takes the kind, by its number in the bank
pub record Able (ms : List Meaning) (k i : ℕ) : Type 0 where
  pub within : i < length ms
  pub takes : (at ms i).takes k ≡ true

-- the node of the scheme of number i: its parts of the column, over nodes that hold its children
pub record SchemeOf (ms : List Meaning) (below : Column → Node → Type 0) (i : ℕ) (c : Column) (n : Node) : Type 0 where
  pub able : Able ms c.kind i
  pub parts : Parts
  pub split : (at ms i).parts c ≡ Ok parts
  pub head : head_of n ≡ scheme_head (at ms i) c parts
  pub payload : payload_of n ≡ parts.payload
  pub children : Each below parts.children (children_of n)

-- n holds c, with at most that many levels of schemes
abbrev pub NodeOf : List Meaning → ℕ → Column → Node → Type 0
NodeOf ms zero c n = Bare c n
NodeOf ms (suc l) c n = Bare c n ⊎ ((i : ℕ) × SchemeOf ms (NodeOf ms l) i c n)
