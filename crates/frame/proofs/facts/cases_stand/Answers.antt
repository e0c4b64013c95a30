use Rattle.std.proofs.Common.{refl}
use lib.Ieee.{div, of_int, round, of_bits, of_fields, odd, lt}
use lib.Count.{count_trailing_zeros}
use Rattle.packing.specs.Packing.{bit_length_by}
use Rattle.frame.proofs.facts.cases_stand.Goals as goal

pub returns : goal.returns
unfolding div of_int round of_bits of_fields odd count_trailing_zeros bit_length_by lt
returns c = record {
  ends_bits = refl;
  ends_skip = refl;
  one_bits = refl;
  one_skip = refl;
  blank_bits = refl;
  blank_skip = refl;
  empty_bits = refl;
  narrow_verdict = refl;
  wide_verdict = refl;
  pairs_bits = refl;
  pairs_ratio = refl;
  pairs_parts = refl;
  at_mark = refl;
  over_mark = refl;
  around_parts = refl;
}
