use Rattle.std.proofs.Common.{◌∙◌, rules, tests}
use Rattle.std.proofs.lemmas.Iterator.{YieldsList-from_slice}
use Rattle.std.proofs.lemmas.Iterator.Search.{any_from_yields_List}
use Rattle.scheme.specs.Exclusion.{push_of}
use Rattle.scheme.specs.Rules.{names}
use Rattle.bank.proofs.Places.{of_elements}
use Rattle.select.proofs.Excluding.{pushing-entries}
use Rattle.select.proofs.is_pushed.Goals as goal

pub returns : goal.returns
returns g c =
    let ms = g.B.Bank.meanings c.args.bank.now.schemes.now in
    any_from_yields_List (λ e. names (push_of e.0 ms) c.args.id e.1) _ _ c.any.result c.any.ensures.ran (YieldsList-from_slice c.args.history.now (cc)) (λ x b q s. search (rules, tests))
    ∙ of_elements (pushing-entries ms c.args.id) c.args.history.now
