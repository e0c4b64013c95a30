use Rattle.std.proofs.Common.{refl}
use lib.Ieee.{div, of_int, round, of_bits, of_fields, odd, lt}
use lib.Count.{count_trailing_zeros}
use Rattle.std.specs.Float.{float_is_finite, float_with_sign}
use Rattle.packing.specs.Packing.{bit_length_by}
use Rattle.scheme.specs.Scores.{valid}
use Rattle.levels.specs.Choice.{asked, decided}
use Rattle.levels.specs.Levels.{scheme_bound, choice, levels}
use Rattle.worked.specs.Starred.{Plainly, Answered, Tried}
use Rattle.worked.proofs.starred.starred_cases_stand.Goals as goal

plainly : Plainly
unfolding levels
plainly =
    record {
      no_row = refl;
      no_row_whole = refl;
      blank = refl;
      blank_whole = refl;
      seven = refl;
      seven_weight = refl;
      sevens = refl;
      sevens_whole = refl;
      masked = refl;
      masked_weight = refl;
    }

answered : Answered
unfolding div of_int round of_bits of_fields odd count_trailing_zeros bit_length_by
answered =
    record {
      dict = refl;
      dict_ratio = refl;
      dict_skips = refl;
      count = refl;
      sizes = refl;
      first = refl;
      last = refl;
    }

tried : Tried
unfolding div of_int round of_bits of_fields odd lt count_trailing_zeros float_is_finite float_with_sign bit_length_by valid asked decided scheme_bound choice levels
tried =
    record {
      plain = refl;
      frame = refl;
      housed = refl;
      refused = refl;
      said = refl;
    }

pub returns : goal.returns
returns c = record { plainly = plainly; answered = answered; tried = tried }
