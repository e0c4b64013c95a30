use Rattle.column.specs.Columns.{offer_seen, seen}
use Rattle.stats.proofs.Standing.{right_of}
use Rattle.stats.proofs.Hiding.{hidden-of}
use Rattle.stats.proofs.integer.IntegerStats.generate_opts.Goals as goal

pub returns-clause-right : goal.returns-clause-right
returns-clause-right c = right_of c.args.opts.count_distinct_values (seen c.args.view) _ c.typed_int_stats.ensures.stands

pub returns-clause-hidden : goal.returns-clause-hidden
returns-clause-hidden c = hidden-of c.args.opts.count_distinct_values (offer_seen c.args.view) _ c.typed_int_stats.ensures.stands
