use Rattle.std.proofs.Common.{◌+◌, ◌*◌, length}
use Rattle.node.proofs.weights.+weigh_weigh_children.Given as goal

-- what is left of the whole length, one more before it is split between the children
abbrev pub decreases-weigh : goal.decreases-weigh
decreases-weigh l = 2 * length l.bytes.now

abbrev pub decreases-weigh_children : goal.decreases-weigh_children
decreases-weigh_children l = 2 * length l.bytes.now + 1
