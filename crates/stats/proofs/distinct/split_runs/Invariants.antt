use Rattle.stats.proofs.Inplace.{Inside}
use Rattle.stats.proofs.distinct.split_runs.Given as goal

abbrev pub invariant-loop-i : goal.invariant-loop-i
invariant-loop-i l = Inside l.initial.values l.values l.counts l.i l.j l.cur l.len
