use Rattle.std.proofs.Common.{refl}
use Rattle.worked.proofs.called.fetches_stand.Goals as goal

pub returns : goal.returns
returns c =
    record {
      enough = refl;
      few_cells = refl;
      few_presence = refl;
      few_words = refl;
      places_first = refl;
      filled = refl;
    }
