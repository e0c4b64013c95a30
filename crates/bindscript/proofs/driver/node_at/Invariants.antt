use Rattle.std.proofs.Common.{◌≡◌, ◌-◌}
use Rattle.calls.specs.Calls.{node_at}
use Rattle.bindscript.proofs.driver.node_at.Given as goal

-- as many nodes are passed over as were counted
abbrev pub invariant-loop : goal.invariant-loop
invariant-loop l = node_at (l.number - l.counter) l.rest ≡ node_at l.number l.bytes
