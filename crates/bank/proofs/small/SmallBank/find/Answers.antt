use Rattle.std.proofs.Common.{◌==◌, refl, arith, rules, tests}
use Rattle.std.proofs.lemmas.Iterator.{YieldsList-from_range}
use Rattle.std.proofs.lemmas.Iterator.Search.{find_from_yields_List}
use Rattle.scheme.specs.Banks.{at}
use Rattle.bank.proofs.Finding.{found}
use Rattle.bank.proofs.small.SmallBank.find.Goals as goal

pub returns-clause-is : goal.returns-clause-is
returns-clause-is g c =
    let ms = g.B.Bank.meanings c.args.self.now.schemes.now in
    let few = c.args.self.now.few in
    found ms c.args.id _ _ c.find.result
    (find_from_yields_List (λ i. (at ms i).id == c.args.id) _ _ c.find.result c.find.ensures.ran (YieldsList-from_range _ _ _ refl refl) (λ x b q k. search (rules, tests)))
    (omega arith) (omega (arith, few, c.count.ensures))
