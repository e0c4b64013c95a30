use Rattle.calls.proofs.GoingLaws.{runs-go-on}
use Rattle.calls.proofs.every_run_goes_on.Goals as goal

pub returns : goal.returns
returns c = runs-go-on
