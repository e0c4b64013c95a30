use Rattle.lines.proofs.Turns.{Turn}
use Rattle.lines.proofs.reads.read_line.Given as goal

abbrev pub invariant-loop-field : goal.invariant-loop-field
invariant-loop-field l = Turn (goal.iterator-loop-field).next_gives l.kind l.text l.field-iterator l.rows
