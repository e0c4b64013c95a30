use Rattle.std.proofs.Common.{refl}
use lib.Ieee.{div, of_int, round, of_bits, of_fields, odd, lt}
use lib.Count.{count_trailing_zeros}
use Rattle.std.specs.Float.{float_is_finite, float_with_sign}
use Rattle.packing.specs.Packing.{bit_length_by}
use Rattle.scheme.specs.Scores.{valid}
use Rattle.levels.specs.Choice.{asked, decided}
use Rattle.levels.specs.Levels.{scheme_bound, choice, levels}
use Rattle.worked.proofs.choosing.always_use_ends.Goals as goal

pub returns : goal.returns
unfolding div of_int round of_bits of_fields odd lt count_trailing_zeros float_is_finite float_with_sign bit_length_by valid asked decided scheme_bound choice levels
returns c =
    record {
      over_earlier = refl;
      over_later = refl;
      over_called = refl;
      first_of_two = refl;
      at_once_of_two = refl;
      called_over = refl;
      called_over_later = refl;
      called_of_two = refl;
      refused = refl;
      unrefused = refl;
      unrefused_at_once = refl;
      refused_later = refl;
    }
