use Rattle.std.proofs.Common.{◌-◌, ◌≡◌, ◌∙◌, length, refl, arith, rules, tests}
use Rattle.std.proofs.lemmas.Iterator.{YieldsList-from_range}
use Rattle.std.proofs.lemmas.Iterator.Search.{all_from_yields_List}
use Rattle.opening.proofs.Ids.{fits_at, ids-numbers}
use Rattle.opening.proofs.ids_fit.Goals as goal

pub returns : goal.returns
returns g c =
    let ms = g.B.Bank.meanings c.args.bank.now.schemes.now in
    let few = c.args.bank.now.few in
    let n : c.count.result - 0 ≡ length ms = omega (arith, few, c.count.ensures) in
    let road = YieldsList-from_range 0 _ (length ms) refl n in
    all_from_yields_List (fits_at ms) _ _ c.all.result c.all.ensures.ran road (λ x b q s. search (rules, tests))
    ∙ ids-numbers ms (g.met.B.Bank.all c.args.bank.now.schemes.now) 0 (length ms) (omega arith)
