use Rattle.std.proofs.Common.{Ok, Err, is_some, rules, ap, ◌∙◌, arith}
use Rattle.std.proofs.lemmas.Iterator.Consumers.{YieldsList-at}
use Rattle.std.proofs.lemmas.Iterator.Splits.{YieldsList-from_slice_split}
use Rattle.std.proofs.lemmas.Result.{err_from_is_err_and}
use borrow.Author.Tests.{tests}
use Rattle.lines.specs.declared.columns.LineError.TheVariants.{Unreadable, TooManyRows}
use Rattle.lines.specs.Lines.{fields_of}
use Rattle.lines.proofs.Texts.{rows-counted}
use Rattle.lines.proofs.Turns.{kind-first, rows-after, turn-first, turn-more, turn-stop, turn-some, turn-rows, turn-given}
use Rattle.lines.proofs.Lined.{no-kind, back_from}
use Rattle.lines.proofs.reads.read_line.Goals as goal

pub returns-then-count_commas-gt-MAX_ROWS-clause-reads : goal.returns-then-count_commas-gt-MAX_ROWS-clause-reads
returns-then-count_commas-gt-MAX_ROWS-clause-reads c = omega (arith, rows-counted c.args.text.now)

pub returns-then-count_commas-gt-MAX_ROWS-clause-back : goal.returns-then-count_commas-gt-MAX_ROWS-clause-back
returns-then-count_commas-gt-MAX_ROWS-clause-back c =
    back_from c.args.text.now (Err TooManyRows) (returns-then-count_commas-gt-MAX_ROWS-clause-reads c)

pub returns-in_default-clause-reads : goal.returns-in_default-clause-reads
returns-in_default-clause-reads c = (
  omega (arith, rows-counted c.args.text.now),
  no-kind c.args.text.now
      (kind-first _ _ c.next.new.self (fields_of c.args.text.now)
      (YieldsList-from_slice_split _ _ c.args.text.now c.split-fields.ensures.rest c.split-fields.ensures.done c.split-fields.ensures.closure (λ x r q k. search (rules, tests)))
      c.next.result c.and_then.result c.next.ensures.steps c.and_then.ensures ∙ c.in_default.is),
)

pub returns-in_default-clause-back : goal.returns-in_default-clause-back
returns-in_default-clause-back c = back_from c.args.text.now (Err Unreadable) (returns-in_default-clause-reads c)

pub loop-field-init : goal.loop-field-init
loop-field-init c =
    let all =
    YieldsList-from_slice_split _ _ c.args.text.now c.split-fields.ensures.rest c.split-fields.ensures.done c.split-fields.ensures.closure (λ x r q k. search (rules, tests)) in
    turn-first _ c.in-Some.kind c.args.text.now
    (kind-first _ _ c.next.new.self (fields_of c.args.text.now) all c.next.result c.and_then.result c.next.ensures.steps c.and_then.ensures ∙ c.in-Some.is)
    c.into_iter-field-iterator.result c.new-rows.result
    (YieldsList-at c.into_iter-field-iterator.ensures.into_iter_gives
    (rows-after _ _ c.next.new.self (fields_of c.args.text.now) all c.next.result c.in-Some.kind c.next.ensures.steps c.in-Some.ensures))
    c.new-rows.ensures

pub returns-in_err-read_field-clause-reads : goal.returns-in_err-read_field-clause-reads
returns-in_err-read_field-clause-reads c =
    let p = err_from_is_err_and c.from_residual.result c.from_residual.ensures.1 in
    let h =
    turn-stop _ c.in-Some.kind c.args.text.now c.loop-field.field-iterator c.next-in-loop-field.new.self c.loop-field.rows c.in-Some-field.field
    c.loop-field.invariant c.in-Some-field.ensures.steps c.in_err-read_field.field-0.0 c.in_err-read_field.ensures in
    rw (p.1, p.2, h.0) (omega (arith, rows-counted c.args.text.now), h.1)

pub returns-in_err-read_field-clause-back : goal.returns-in_err-read_field-clause-back
returns-in_err-read_field-clause-back c = back_from c.args.text.now c.from_residual.result (returns-in_err-read_field-clause-reads c)

pub loop-field-preserved : goal.loop-field-preserved
loop-field-preserved c =
    turn-more _ c.in-Some.kind c.args.text.now c.loop-field.field-iterator c.next-in-loop-field.new.self c.loop-field.rows c.in-Some-field.field
    c.loop-field.invariant c.in-Some-field.ensures.steps c.in_ok-read_field.field-0 c.push.new.self c.in_ok-read_field.ensures c.in_ok-push.ensures

pub returns-in_err-push-clause-reads : goal.returns-in_err-push-clause-reads
returns-in_err-push-clause-reads c =
    let p = err_from_is_err_and c.from_residual-in_err-push.result c.from_residual-in_err-push.ensures.1 in
    let some =
    turn-some _ c.in-Some.kind c.args.text.now c.loop-field.field-iterator c.next-in-loop-field.new.self c.loop-field.rows c.in-Some-field.field
    c.loop-field.invariant c.in-Some-field.ensures.steps in
    rw (p.1, p.2) (some, omega (arith, rows-counted c.args.text.now), ap is_some c.loop-field.invariant.named)

pub finish-requires-clause-few : goal.finish-requires-clause-few
finish-requires-clause-few c =
    let rows =
    turn-rows _ c.in-Some.kind c.args.text.now c.loop-field.field-iterator c.next-in-loop-field.new.self c.loop-field.rows c.loop-field.invariant c.in-None.ensures.steps in
    omega (arith, rows-counted c.args.text.now, rows)

pub returns-in_err-finish-clause-reads : goal.returns-in_err-finish-clause-reads
returns-in_err-finish-clause-reads c =
    let p = err_from_is_err_and c.from_residual-in_err-finish.result c.from_residual-in_err-finish.ensures.1 in
    let rows =
    turn-rows _ c.in-Some.kind c.args.text.now c.loop-field.field-iterator c.next-in-loop-field.new.self c.loop-field.rows c.loop-field.invariant c.in-None.ensures.steps in
    rw (p.1, p.2) (omega (arith, rows, c.in_err-finish.ensures.refused), omega (arith, rows-counted c.args.text.now), ap is_some c.loop-field.invariant.named)

pub returns-clause-reads : goal.returns-clause-reads
returns-clause-reads c =
    turn-given _ c.in-Some.kind c.args.text.now c.loop-field.field-iterator c.next-in-loop-field.new.self c.loop-field.rows c.loop-field.invariant c.in-None.ensures.steps
    (omega (arith, rows-counted c.args.text.now)) c.in_ok-finish.field-0 c.in_ok-finish.ensures.column

pub returns-clause-back : goal.returns-clause-back
returns-clause-back c = back_from c.args.text.now (Ok c.in_ok-finish.field-0) (returns-clause-reads c)
