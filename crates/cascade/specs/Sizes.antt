-- What the first pass answers, and what it leaves in the plan.
use Rattle.std.specs.Prelude.{◌≡◌, ℕ, Bool, true, false, List, take, Ok, Err, Result, nat_lt}
use Rattle.column.specs.declared.refusals.Refusal.{Refusal}
use Rattle.node.specs.Nodes.{Node, head_of, weight, whole}
use Rattle.levels.specs.Levels.{Bound}
use Rattle.levels.specs.Plans.{node_count, forms}
use Rattle.cascade.specs.declared.size.Size.{Size}
use Rattle.cascade.specs.declared.leaf.Leaf.{Leaf}

abbrev pub size_of : Node → Size
size_of n = record { weight = weight n; whole = whole n; nodes = node_count n }

abbrev pub sized : Bound → Result Size Refusal
sized (Ok n) = Ok (size_of n)
sized (Err e) = Err e

-- the forms of the node stand at the front of the plan; of a refusal nothing is said
abbrev pub Planned : Bound → List ℕ → Type 0
Planned (Ok n) plan = take (node_count n) plan ≡ forms n
Planned (Err e) plan = Unit {0}

-- ---- nodes without children

abbrev pub leaf_of : Node → Leaf
leaf_of n = record { form = (head_of n).form; size = size_of n }

abbrev pub lighter_leaf_by : Bool → Leaf → Leaf → Leaf
lighter_leaf_by true a b = a
lighter_leaf_by false a b = b

-- the first if it is lighter than the second
abbrev pub lighter_leaf : Leaf → Leaf → Leaf
lighter_leaf a b = lighter_leaf_by (nat_lt a.size.weight b.size.weight) a b
