use Rattle.std.proofs.Common.{refl}
use Rattle.worked.proofs.edges.draws_stand.Goals as goal

pub returns : goal.returns
returns c =
    record {
      counts = refl;
      own = refl;
      drawn = refl;
      own_later = refl;
      longer = refl;
      shorter = refl;
      middle = refl;
      even = refl;
      mill_first = refl;
      mill_second = refl;
      seed = refl;
      by_centre = refl;
      by_mill = refl;
      own_rows = refl;
      again = refl;
    }
