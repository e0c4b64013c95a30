use Rattle.std.proofs.Common.{◌-◌, ◌≡◌, ◌==◌, ◌∙◌, length, refl, arith, rules, tests}
use Rattle.std.proofs.lemmas.Iterator.{YieldsList-from_range}
use Rattle.std.proofs.lemmas.Iterator.Search.{any_from_yields_List}
use Rattle.scheme.specs.Banks.{at, nothing}
use Rattle.bank.proofs.Places.{of_places}
use Rattle.opening.proofs.Ids.{having}
use Rattle.opening.proofs.is_later.Goals as goal

pub returns : goal.returns
returns g c =
    let ms = g.B.Bank.meanings c.args.bank.now.schemes.now in
    let few = c.args.bank.now.few in
    let from = c.args.from in
    let n : c.count.result - from ≡ length ms - from = omega (arith, few, c.count.ensures) in
    let road = YieldsList-from_range from _ (length ms - from) refl n in
    any_from_yields_List (λ i. (at ms i).id == c.args.id) _ _ c.any.result c.any.ensures.ran road (λ x b q s. search (rules, tests))
    ∙ of_places (having c.args.id) ms nothing from (length ms - from) refl
