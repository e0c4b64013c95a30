-- A node that a plan names, and what was written of it.
use Rattle.std.specs.Prelude.{◌≡◌, ℕ, suc, ◌+◌, ◌≤◌, List, [], ◌∷◌, ◌++◌, length, take}
use Rattle.std.specs.List.{AllByRecursion}
use Rattle.packing.specs.Packing.{written}
use Rattle.column.specs.Columns.{Column}
use Rattle.node.specs.Nodes.{Node, whole, flat, flats, Fit}
use Rattle.scheme.specs.Meaning.{Meaning, NoLonger}
use Rattle.levels.specs.NodesOf.{Each, SchemeOf, NodeOf}
use Rattle.levels.specs.Plans.{node_count, forms, room}
use Rattle.emit.specs.declared.nodes.Written.{Written}

-- ---- one node: m words of memory and z bytes are lent

pub record Planned (ms : List Meaning) (c : Column) (plan : List ℕ) (m z : ℕ) (n : Node) : Type 0 where
  -- it holds the column, over so many levels
  pub levels : ℕ
  pub of : NodeOf ms levels c n
  pub fit : Fit n
  -- the plan begins with its forms
  pub named : take (node_count n) plan ≡ forms n
  pub words : room levels (length c.rows) ≤ m
  pub bytes : whole n ≤ z

pub record Emitted (n : Node) (r : Written) (old new : List ℕ) : Type 0 where
  pub whole : r.whole ≡ whole n
  pub nodes : r.nodes ≡ node_count n
  pub bytes : new ≡ written (flat n) old

-- the same of the node of the scheme of number i, over the levels of its children
pub record PlannedBy (ms : List Meaning) (i : ℕ) (c : Column) (plan : List ℕ) (m z : ℕ) (n : Node) : Type 0 where
  pub levels : ℕ
  pub of : SchemeOf ms (NodeOf ms levels) i c n
  pub fit : Fit n
  pub named : take (node_count n) plan ≡ forms n
  pub words : room (suc levels) (length c.rows) ≤ m
  pub bytes : whole n ≤ z

-- ---- the children of a node, one after the other

abbrev pub counts : List Node → ℕ
counts [] = 0
counts (n ∷ ns) = node_count n + counts ns

abbrev pub all_forms : List Node → List ℕ
all_forms [] = []
all_forms (n ∷ ns) = forms n ++ all_forms ns

pub record AllPlanned (ms : List Meaning) (cs : List Column) (plan : List ℕ) (m z : ℕ) (ns : List Node) : Type 0 where
  pub levels : ℕ
  pub of : Each (NodeOf ms levels) cs ns
  pub fit : AllByRecursion Fit ns
  pub named : take (counts ns) plan ≡ all_forms ns
  -- no child has more rows than this
  pub rows : ℕ
  pub short : NoLonger rows cs
  pub words : room levels rows ≤ m
  pub bytes : length (flats ns) ≤ z

pub record AllEmitted (ns : List Node) (r : Written) (old new : List ℕ) : Type 0 where
  pub whole : r.whole ≡ length (flats ns)
  pub nodes : r.nodes ≡ counts ns
  pub bytes : new ≡ written (flats ns) old
