use Rattle.std.proofs.Common.{rules, sym, ap, ◌∙◌, arith}
use Rattle.std.proofs.lemmas.Bool.{eqb-false}
use borrow.Author.Tests.{tests}
use Rattle.lines.specs.Lines.{number_after, word_sized}
use Rattle.lines.proofs.Digits.{digits-some, digits-fold}
use Rattle.lines.proofs.fields.read_digits.Goals as goal

pub returns : goal.returns
returns c =
    let (xs, o, f, a, y, k, e) = c.try_fold.ensures.ran in
    digits-fold _ _ (λ n x v f h k. search (rules, tests)) xs c.iter.result y.0 c.try_fold.new.self o (tt, 0) (f, a) c.try_fold.result (omega arith) y.1 y.2 k e
    ∙ ap word_sized (ap (number_after 0) c.iter.ensures.rest ∙ sym (digits-some c.args.text.now (omega (arith, eqb-false _ 0 (sym c.if-is_empty.ensures)))))
