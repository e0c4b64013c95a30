use Rattle.std.proofs.Common.{◌&&◌, ◌==◌, ◌∙◌, rules, tests}
use Rattle.std.proofs.lemmas.Iterator.{YieldsList-from_slice}
use Rattle.std.proofs.lemmas.Iterator.Search.{any_from_yields_List}
use Rattle.scheme.specs.Rules.{contains}
use Rattle.bank.proofs.Places.{of_elements}
use Rattle.select.proofs.Excluding.{naming}
use Rattle.select.proofs.is_named.Goals as goal

pub returns : goal.returns
returns g c =
    let r = g.E.Exclusion.rule in
    any_from_yields_List (λ x. (r x).scheme == c.args.id && contains (r x).children c.args.child) _ _ c.any.result c.any.ensures.ran (YieldsList-from_slice c.args.rules.now (cc)) (λ x b q s. search (rules, tests))
    ∙ of_elements (naming r c.args.id c.args.child) c.args.rules.now
