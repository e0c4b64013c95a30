use Rattle.std.proofs.Common.{◌≡◌, take}
use Rattle.stats.specs.Blocks.{state_after}
use Rattle.stats.proofs.runs.LoopState.inner_loop_nonnull.Given as goal

abbrev pub invariant-loop-v : goal.invariant-loop-v
invariant-loop-v l = l.self ≡ state_after l.initial.self (take l.v-index l.values)
