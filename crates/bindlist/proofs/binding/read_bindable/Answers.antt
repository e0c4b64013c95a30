use Rattle.bindlist.proofs.Reading.{line-many}
use Rattle.bindlist.proofs.binding.read_bindable.Goals as goal

pub returns-in-Err-TooManyRows-clause-column : goal.returns-in-Err-TooManyRows-clause-column
returns-in-Err-TooManyRows-clause-column c =
    line-many c.args.n c.args.text.now c.if-n-gt-MAX_LINES.false
    c.in-Err-TooManyRows.field-0 c.in-Err-TooManyRows.field-0-is c.in-Err-TooManyRows.ensures.reads
