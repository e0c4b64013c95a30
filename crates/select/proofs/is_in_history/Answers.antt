use Rattle.std.proofs.Common.{◌==◌, ◌∙◌, rules, tests}
use Rattle.std.proofs.lemmas.Iterator.{YieldsList-from_slice}
use Rattle.std.proofs.lemmas.Iterator.Search.{any_from_yields_List}
use Rattle.bank.proofs.Places.{of_elements}
use Rattle.select.proofs.Excluding.{own-entries}
use Rattle.select.proofs.is_in_history.Goals as goal

pub returns : goal.returns
returns c =
    any_from_yields_List (λ e. e.0 == c.args.id) _ _ c.any.result c.any.ensures.ran (YieldsList-from_slice c.args.history.now (cc)) (λ x b q s. search (rules, tests))
    ∙ of_elements (own-entries c.args.id) c.args.history.now
