use Rattle.std.proofs.Common.{refl}
use Rattle.worked.proofs.printed.outside_is_refused.Goals as goal

pub returns : goal.returns
returns c =
    record {
      value = refl;
      said = refl;
      hidden = refl;
      blank = refl;
    }
