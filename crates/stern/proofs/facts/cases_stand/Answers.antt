use Rattle.std.proofs.Common.{refl}
use lib.Ieee.{div, of_int, round, of_bits, of_fields, odd}
use lib.Count.{count_trailing_zeros}
use Rattle.stern.proofs.facts.cases_stand.Goals as goal

pub returns : goal.returns
unfolding div of_int round of_bits of_fields odd count_trailing_zeros
returns c = record { second = refl; first = refl; below = refl; above = refl; unseen = refl; thousand = refl }
