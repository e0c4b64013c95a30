use Rattle.std.proofs.lemmas.Result.{IfOk-weaker}
use Rattle.column.specs.Columns.{cleaned}
use Rattle.lines.specs.Held.{held}
use Rattle.lines.specs.Answers.{Given}
use Rattle.colstats.proofs.Shown.{printed-is}
use Rattle.colstats.proofs.texts.answer.Goals as goal

pub returns-in-Ok : goal.returns-in-Ok
returns-in-Ok c =
    let given : Given c.args.text.now c.in-Ok.column = c.in-Ok.ensures.reads in
    IfOk-weaker c.row_text.result _ _ (λ s e. printed-is c.args.n c.args.text.now (cleaned (held c.in-Ok.column)) _ given.few given.column e) c.row_text.ensures
