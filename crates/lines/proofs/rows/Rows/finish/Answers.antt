use Rattle.std.proofs.Common.{vec_items, ap, ◌∙◌}
use Rattle.column.specs.Kinds.{number_of}
use Rattle.lines.proofs.Gathering.{finish-even, finish-odd}
use Rattle.lines.proofs.rows.Rows.finish.Goals as goal
use Rattle.lines.proofs.rows.Rows.finish.Goals.{then-len-gt0+in_ok-push, else-len-gt0}

pub returns : goal.returns
returns c =
    record {
      column = λ rs g.
          elim c.if-len-gt0.branch [
            | then-len-gt0+in_ok-push w ↦
                finish-odd (number_of c.args.kind) rs c.args.self c.len.result _ g c.len.ensures w.if-len-gt0.true
                (ap vec_items w.words-is ∙ w.in_ok-push.ensures.items)
            | else-len-gt0 w ↦
                finish-even (number_of c.args.kind) rs c.args.self c.len.result _ g c.len.ensures w.if-len-gt0.false (ap vec_items w.words-is)
          ];
      refused = tt;
    }
