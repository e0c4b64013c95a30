use Rattle.std.proofs.Common.{refl}
use lib.Ieee.{div, of_int, round, of_bits, of_fields, odd, lt}
use lib.Count.{count_trailing_zeros}
use Rattle.std.specs.Float.{float_is_finite, float_with_sign}
use Rattle.packing.specs.Packing.{bit_length_by}
use Rattle.scheme.specs.Scores.{valid}
use Rattle.levels.specs.Choice.{asked, decided}
use Rattle.levels.specs.Levels.{scheme_bound, choice, levels}
use Rattle.worked.proofs.choosing.counting_stands.Goals as goal

pub returns : goal.returns
unfolding div of_int round of_bits of_fields odd lt count_trailing_zeros float_is_finite float_with_sign bit_length_by valid asked decided scheme_bound choice levels
returns c =
    record {
      skip = record { alone = refl; beside = refl };
      no_number = record { alone = refl; beside = refl };
      infinite = record { alone = refl; beside = refl };
      minus_infinite = record { alone = refl; beside = refl };
      minus = record { alone = refl; beside = refl };
      one = record { alone = refl; beside = refl };
      zero = record { alone = refl; beside = refl };
      least_subnormal = record { alone = refl; beside = refl };
      greatest_subnormal = record { alone = refl; beside = refl };
      over_nothing = record { alone = refl; beside = refl };
      past_one = record { alone = refl };
      greatest = record { alone = refl };
      zero_bytes = refl;
      zero_stands = refl;
      zero_beside = refl;
    }
