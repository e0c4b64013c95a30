use Rattle.instances.proofs.WitnessLaws.{witness}
use Rattle.instances.proofs.a_run_of_seven_calls.Goals as goal

pub returns : goal.returns
returns c = witness
