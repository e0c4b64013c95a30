use Rattle.std.proofs.Common.{◌∙◌, rules, tests}
use Rattle.std.proofs.lemmas.Iterator.{YieldsList-from_slice}
use Rattle.std.proofs.lemmas.Iterator.Search.{any_from_yields_List}
use Rattle.scheme.specs.Rules.{names, pull_seen}
use Rattle.bank.proofs.Places.{of_elements}
use Rattle.select.proofs.Excluding.{pulling-entries}
use Rattle.select.proofs.is_pulled.Goals as goal

pub returns : goal.returns
returns c =
    let rs = pull_seen c.args.rules.now in
    any_from_yields_List (λ e. names rs e.0 e.1) _ _ c.any.result c.any.ensures.ran (YieldsList-from_slice c.args.history.now (cc)) (λ x b q s. search (rules, tests))
    ∙ of_elements (pulling-entries rs) c.args.history.now
