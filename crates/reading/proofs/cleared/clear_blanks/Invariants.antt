use Rattle.reading.proofs.ClearLaws.{Done, cleared}
use Rattle.reading.proofs.cleared.clear_blanks.Given as goal

abbrev pub invariant-loop-i : goal.invariant-loop-i
invariant-loop-i l = Done (cleared l.initial.cells l.words) l.initial.cells l.cells l.i
