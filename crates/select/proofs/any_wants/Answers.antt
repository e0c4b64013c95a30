use Rattle.std.proofs.Common.{◌-◌, ◌≡◌, ◌&&◌, ◌∙◌, length, arith, refl, rules, tests}
use Rattle.std.proofs.lemmas.Iterator.{YieldsList-from_range}
use Rattle.std.proofs.lemmas.Iterator.Search.{any_from_yields_List}
use Rattle.column.specs.Kinds.{number_of}
use Rattle.scheme.specs.Banks.{at, nothing}
use Rattle.scheme.specs.Exclusion.{competes}
use Rattle.bank.proofs.Places.{of_places}
use Rattle.select.proofs.Eligibles.{wanting}
use Rattle.select.proofs.any_wants.Goals as goal

pub returns : goal.returns
returns g c =
    let ms = g.B.Bank.meanings c.args.bank.now.schemes.now in
    let k = number_of c.args.kind in
    let h = c.args.history.now in
    let few = c.args.bank.now.few in
    let n : c.count.result - 0 ≡ length ms = omega (arith, few, c.count.ensures) in
    let road = YieldsList-from_range 0 _ (length ms) refl n in
    any_from_yields_List (λ i. competes ms k h (at ms i) && (at ms i).wants) _ _ c.any.result c.any.ensures.ran road (λ x b q s. search (rules, tests))
    ∙ of_places (wanting ms k h) ms nothing 0 (length ms) (omega arith)
