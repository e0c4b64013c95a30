use Rattle.std.proofs.Common.{ap, ◌∙◌}
use Rattle.packing.specs.Packing.{bit_length}
use Rattle.frame.proofs.reference.bits_needed.Goals as goal

pub returns : goal.returns
returns c = record { value = c.bit_length.ensures.value ∙ ap bit_length c.max_minus_min_in.ensures; few = c.bit_length.ensures.least 64 c.max_minus_min_in.type_inv }
