use Rattle.std.proofs.Common.{refl}
use Rattle.worked.proofs.called.openings_stand.Goals as goal

pub returns : goal.returns
returns c =
    record {
      none = refl;
      eight = refl;
      nine = refl;
      least = refl;
      greatest = refl;
      past_greatest = refl;
      twice = refl;
      no_level = refl;
      eight_levels = refl;
      nine_levels = refl;
    }
