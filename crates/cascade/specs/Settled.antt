-- Columns for which no scheme competes.
use Rattle.std.specs.Prelude.{ℕ, Bool, true, false, List, [], ◌∷◌, Some, None, Option}
use Rattle.column.specs.Columns.{Row, Column, values}
use Rattle.node.specs.Nodes.{Node, plain_node, constant_node, blank_node}
use Rattle.levels.specs.Levels.{lighter, taken_constant}

abbrev pub settled_constant : Bool → Column → Option Node
settled_constant true c = Some (lighter (constant_node c) (plain_node c))
settled_constant false c = None

abbrev pub settled_by : Bool → Column → List Row → List ℕ → Option Node
settled_by f c [] vs = Some (plain_node c)
settled_by f c (r ∷ rs) [] = Some (blank_node c)
settled_by f c (r ∷ rs) (v ∷ vs) = settled_constant (taken_constant f c) c

-- the node that a level makes where none competes, in a sample or not
abbrev pub settled : Bool → Column → Option Node
settled f c = settled_by f c c.rows (values c)
