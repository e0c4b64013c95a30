-- What every node is that the levels make.
use Rattle.std.specs.Prelude.{◌≡◌, ℕ, suc, ◌+◌, ◌*◌, ◌≤◌, Bool, List, Ok}
use Rattle.packing.specs.Packing.{Below}
use Rattle.column.specs.Columns.{Column, Clean}
use Rattle.node.specs.Nodes.{Node, weight, head_size, whole, flat, height, plain_node, Fit}
use Rattle.sample.specs.Draws.{Source}
use Rattle.scheme.specs.Meaning.{Meaning, History}
use Rattle.scheme.specs.Banks.{AllKeep, at}
use Rattle.levels.specs.Levels.{scheme_bound, levels}
use Rattle.levels.specs.NodesOf.{Able, SchemeOf, NodeOf}
use Rattle.levels.specs.Plans.{node_count, places}

-- bytes of one node without its children: a head, and 9 bytes a row and 16 of payload
abbrev pub own_most : ℕ
own_most = head_size + (9 * 131072 + 16)

-- a node of the levels
pub record Holding (ms : List Meaning) (l : ℕ) (c : Column) (n : Node) : Type 0 where
  -- it holds the column
  pub of : NodeOf ms l c n
  -- its fields fit their bytes
  pub fit : Fit n
  pub bytes : Below 256 (flat n)
  pub light : weight n ≤ weight (plain_node c)
  pub few : node_count n ≤ places l
  pub short : whole n ≤ places l * own_most
  pub low : height n ≤ l

-- the node of the scheme of number i, over l levels; it may be heavier than plain
pub record SchemeHolding (ms : List Meaning) (l i : ℕ) (c : Column) (n : Node) : Type 0 where
  pub of : SchemeOf ms (NodeOf ms l) i c n
  pub fit : Fit n
  pub bytes : Below 256 (flat n)
  pub few : node_count n ≤ 2 * places l + 1
  pub short : whole n ≤ (2 * places l + 1) * own_most
  pub low : height n ≤ suc l

-- for every bank that keeps its meaning, every source and up to 8 levels, at any history, in a sample or not
abbrev pub LevelsHold : Type 0
LevelsHold =
    (ms : List Meaning) → AllKeep ms → (d : Source) (l : ℕ) → l ≤ 8 → (c : Column) → Clean c → (h : History) (f : Bool) (n : Node)
    → levels ms d l c h f ≡ Ok n → Holding ms l c n

abbrev pub SchemesHold : Type 0
SchemesHold =
    (ms : List Meaning) → AllKeep ms → (d : Source) (l : ℕ) → l ≤ 8 → (c : Column) → Clean c → (i : ℕ) → Able ms c.kind i
    → (h : History) (f : Bool) (n : Node) → scheme_bound (levels ms d l) (at ms i) c h f ≡ Ok n → SchemeHolding ms l i c n
