use Rattle.std.proofs.Common.{◌+◌, ◌*◌}
use Rattle.reading.proofs.nodes.+nodes.Given as goal

-- levels, and at each the node, its scheme and its children
abbrev pub decreases-read_node : goal.decreases-read_node
decreases-read_node g l = 3 * l.levels

abbrev pub decreases-read_scheme : goal.decreases-read_scheme
decreases-read_scheme g l = 3 * l.levels + 2

abbrev pub decreases-read_children : goal.decreases-read_children
decreases-read_children g l = 3 * l.levels + 1
