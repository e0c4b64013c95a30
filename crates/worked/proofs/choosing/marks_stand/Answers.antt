use Rattle.std.proofs.Common.{refl}
use lib.Ieee.{div, of_int, round, of_bits, of_fields, odd, lt, eq}
use lib.Count.{count_trailing_zeros}
use Rattle.std.specs.Float.{float_is_finite, float_with_sign}
use Rattle.packing.specs.Packing.{bit_length_by}
use Rattle.scheme.specs.Scores.{valid}
use Rattle.levels.specs.Choice.{asked, decided}
use Rattle.levels.specs.Levels.{scheme_bound, choice, levels}
use Rattle.worked.proofs.choosing.marks_stand.Goals as goal

pub returns : goal.returns
unfolding div of_int round of_bits of_fields odd lt eq count_trailing_zeros float_is_finite float_with_sign bit_length_by valid asked decided scheme_bound choice levels
returns c =
    record {
      below = refl;
      equal = refl;
      above = refl;
      mark = refl;
      later_mark = refl;
      sampled_mark = refl;
      other_mark = refl;
      best_mark = refl;
      no_mark = refl;
      unasked_mark = refl;
    }
