use Rattle.std.proofs.Common.{◌+◌, ◌*◌}
use Rattle.tree.proofs.+walk_walk_children.Given as goal

-- two for each level that is left, one more before it is split between the children
abbrev pub decreases-walk : goal.decreases-walk
decreases-walk l = 2 * l.levels

abbrev pub decreases-walk_children : goal.decreases-walk_children
decreases-walk_children l = 2 * l.levels + 1
