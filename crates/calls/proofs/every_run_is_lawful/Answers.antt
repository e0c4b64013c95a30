use Rattle.calls.proofs.RunLaws.{main-law}
use Rattle.calls.proofs.every_run_is_lawful.Goals as goal

pub returns : goal.returns
returns c = main-law
