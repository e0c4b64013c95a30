use Rattle.std.proofs.Common.{◌+◌, ◌*◌, length}
use Rattle.emit.proofs.nodes.+emit.Given as goal

-- what is left of the plan, and which of the three is called
abbrev pub decreases-emit : goal.decreases-emit
decreases-emit g l = 3 * length l.plan.now + 1

abbrev pub decreases-emit_scheme : goal.decreases-emit_scheme
decreases-emit_scheme g l = 3 * length l.plan.now

abbrev pub decreases-emit_children : goal.decreases-emit_children
decreases-emit_children g l = 3 * length l.plan.now + 2
