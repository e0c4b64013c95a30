use Rattle.std.proofs.Common.{length}
use Rattle.runs.proofs.SpreadLaws.{Wrote}
use Rattle.runs.proofs.spread.write_runs.Given as goal

abbrev pub invariant-loop-first : goal.invariant-loop-first
invariant-loop-first l = Wrote l.firsts l.ends l.out (length l.initial.out) (length l.yielded) l.before l.count
