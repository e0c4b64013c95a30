-- The seven calls, each by computation.
use Rattle.std.proofs.Common.{◌++◌, List, [], ◌∷◌, replicate, Ok, Err, refl, arith}
use lib.Ieee.{div, of_int, round, of_bits, of_fields, odd, lt, eq}
use lib.Count.{count_trailing_zeros}
use Rattle.std.specs.Float.{float_is_finite, float_with_sign}
use Rattle.packing.specs.Packing.{bit_length_by}
use Rattle.column.specs.declared.kinds.Kind.TheVariants.{U8, U16}
use Rattle.column.specs.declared.refusals.Refusal.TheVariants.{ValueOutside}
use Rattle.column.specs.Columns.{Column, cleaned}
use Rattle.scheme.specs.Scores.{valid}
use Rattle.levels.specs.Choice.{asked, decided}
use Rattle.levels.specs.Levels.{scheme_bound, choice, levels}
use Rattle.levels.specs.Plans.{places}
use Rattle.calls.specs.Openings.{Granted}
use Rattle.calls.specs.Calls.{State, opened, Bind, Held}
use Rattle.calls.specs.Runs.{bound}
use Rattle.calls.proofs.HeldLaws.{none-held}
use Rattle.calls.proofs.RunLaws.{held-last}
use Rattle.calls.proofs.GoingLaws.{held-fetch}
use Rattle.instances.specs.Witness.{four_levels, seven_blank, outside, twelve, seven_bytes, both, small_before, small_after, large_before, large_after, Witness}
use Rattle.instances.proofs.SettingLaws.{all-used}

granted : Granted four_levels
granted = (all-used 4 (omega arith)).house_mill

one : State
one = record { count = 1; used = 18; bytes = seven_bytes ++ replicate 78 0 }

first : Bind four_levels (opened 96) seven_blank 2680 (Ok 0) one
unfolding one float_is_finite float_with_sign div of_int round of_bits of_fields odd lt eq count_trailing_zeros bit_length_by valid asked decided scheme_bound choice levels places
first = record { answer = refl; next = refl }

turned : Bind four_levels one outside 2680 (Err (ValueOutside 0)) one
turned = record { answer = refl; next = refl }

second : Bind four_levels one twelve 3280 (Ok 1) both
unfolding one float_is_finite float_with_sign div of_int round of_bits of_fields odd lt eq count_trailing_zeros bit_length_by valid asked decided scheme_bound choice levels places
second = record { answer = refl; next = refl }

columns : List Column
columns = cleaned seven_blank ∷ (cleaned twelve ∷ [])

held : Held four_levels both columns
unfolding columns
held =
    (held-last four_levels granted 96 (opened 96) [] (none-held four_levels 96) (bound seven_blank 2680 (Ok 0) ∷ (bound twelve 3280 (Ok 1) ∷ [])) both
    (one, (first, (both, (second, refl))))).held

pub witness : Witness
unfolding columns
witness = (
  one,
  (
    first,
    (
      one,
      (
        turned,
        (
          both,
          (
            second,
            (
              both,
              (
                (
                  held-fetch four_levels granted both columns held 0 (cleaned seven_blank) refl (omega arith) 2680 small_before (Ok (record { kind = U8; rows = 2 })) small_after
                      ((refl, refl), refl) (record { rows = (cleaned seven_blank).rows; count = refl; cells_fit = omega arith; words_fit = omega arith; filled = refl }),
                  refl,
                ),
                (
                  both,
                  (
                    (
                      held-fetch four_levels granted both columns held 1 (cleaned twelve) refl (omega arith) 3280 large_before (Ok (record { kind = U16; rows = 12 })) large_after
                          ((refl, refl), refl) (record { rows = (cleaned twelve).rows; count = refl; cells_fit = omega arith; words_fit = omega arith; filled = refl }),
                      refl,
                    ),
                    (both, ((record { answer = refl }, refl), (both, ((record { answer = refl }, refl), refl)))),
                  ),
                ),
              ),
            ),
          ),
        ),
      ),
    ),
  ),
)
