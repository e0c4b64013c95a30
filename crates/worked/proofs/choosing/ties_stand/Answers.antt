use Rattle.std.proofs.Common.{refl}
use lib.Ieee.{div, of_int, round, of_bits, of_fields, odd, lt}
use lib.Count.{count_trailing_zeros}
use Rattle.std.specs.Float.{float_is_finite, float_with_sign}
use Rattle.packing.specs.Packing.{bit_length_by}
use Rattle.scheme.specs.Scores.{valid}
use Rattle.levels.specs.Choice.{asked, decided}
use Rattle.levels.specs.Levels.{scheme_bound, choice, levels}
use Rattle.worked.proofs.choosing.ties_stand.Goals as goal

pub returns : goal.returns
unfolding div of_int round of_bits of_fields odd lt count_trailing_zeros float_is_finite float_with_sign bit_length_by valid asked decided scheme_bound choice levels
returns c =
    record {
      greater_first = refl;
      greater_last = refl;
      at_once_first = refl;
      at_once_turned = refl;
      called_first = refl;
      called_turned = refl;
      sampled_first = refl;
      sampled_last = refl;
      sampled_less = refl;
      sampled_more = refl;
      three = refl;
      eight = refl;
      eight_turned = refl;
      called_behind = refl;
      sampled_behind = refl;
      called_ahead = refl;
    }
