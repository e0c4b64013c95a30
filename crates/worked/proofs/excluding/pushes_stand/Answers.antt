use Rattle.std.proofs.Common.{refl}
use lib.Ieee.{div, of_int, round, of_bits, of_fields, odd, lt}
use lib.Count.{count_trailing_zeros}
use Rattle.std.specs.Float.{float_is_finite, float_with_sign}
use Rattle.packing.specs.Packing.{bit_length_by}
use Rattle.scheme.specs.Scores.{valid}
use Rattle.levels.specs.Choice.{asked, decided}
use Rattle.levels.specs.Levels.{scheme_bound, choice, levels}
use Rattle.worked.proofs.excluding.pushes_stand.Goals as goal

pub returns : goal.returns
unfolding div of_int round of_bits of_fields odd lt count_trailing_zeros float_is_finite float_with_sign bit_length_by valid asked decided scheme_bound choice levels
returns c =
    record {
      free = refl;
      here = refl;
      other_child = refl;
      other_scheme = refl;
      every_child = refl;
      some_children = refl;
      other_children = refl;
      second_rule = refl;
      far = refl;
      far_below = refl;
      far_other = refl;
    }
