use Rattle.sample.proofs.StrataLaws.{strata_cover}
use Rattle.sample.proofs.strata.stratum.Goals as goal

pub returns-then-i-longer-clause-cover : goal.returns-then-i-longer-clause-cover
returns-then-i-longer-clause-cover c = strata_cover c.args.rows c.args.count c.args.i c.requires.within

pub returns-else-i-longer-clause-cover : goal.returns-else-i-longer-clause-cover
returns-else-i-longer-clause-cover c = strata_cover c.args.rows c.args.count c.args.i c.requires.within
