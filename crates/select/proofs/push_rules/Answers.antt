use Rattle.std.proofs.Common.{rules}
use Rattle.scheme.specs.Rules.{push_seen}
use Rattle.select.proofs.Excluding.{pushes-by}
use Rattle.select.proofs.push_rules.Goals as goal

pub returns : goal.returns
returns g c = pushes-by (g.B.Bank.meanings c.args.bank.now.schemes.now) c.args.id c.find.result (push_seen c.map_or.result.now) c.find.ensures.is (search rules)
