use Rattle.std.proofs.Common.{◌∙◌}
use Rattle.stern.proofs.Thirteens.{in-view}
use Rattle.stern.proofs.first_thirteen.Goals as goal

pub returns-in_err-row : goal.returns-in_err-row
returns-in_err-row c = c.from_residual.ensures ∙ c.in_err-row.ensures.place ∙ in-view c.args.array.view c.args.array.clean

pub returns : goal.returns
returns c = c.in_ok-row.ensures.place ∙ in-view c.args.array.view c.args.array.clean
