-- The worked lines, by computation.
use Rattle.std.proofs.Common.{refl}
use Rattle.lines.specs.Worked.{Worked}

pub worked : Worked
worked = record { read = refl; unread = refl }
