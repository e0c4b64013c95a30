use Rattle.stats.proofs.Asked.{count_of}
use Rattle.stats.proofs.integer.IntegerStats.distinct_count.Goals as goal

pub returns-clause-stands : goal.returns-clause-stands
returns-clause-stands c = λ t h. count_of c.in_ok-self.field-0 _ c.args.self.now.value_count t c.in_ok-self.was h
