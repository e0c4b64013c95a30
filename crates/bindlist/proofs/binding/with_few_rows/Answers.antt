use Rattle.bindlist.proofs.Reading.{long, short}
use Rattle.bindlist.proofs.binding.with_few_rows.Goals as goal

pub returns-then-len-gt-MAX_ROWS-clause-column : goal.returns-then-len-gt-MAX_ROWS-clause-column
returns-then-len-gt-MAX_ROWS-clause-column c = long c.args.column c.len.result c.len.ensures c.if-len-gt-MAX_ROWS.true

pub returns-clause-column : goal.returns-clause-column
returns-clause-column c = short c.args.column c.len.result c.len.ensures c.if-len-gt-MAX_ROWS.false
