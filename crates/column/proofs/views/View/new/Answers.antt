use Rattle.std.proofs.Common.{◌≡◌, ◌^◌, ◌<◌, length, None, sym, refl, ◌∙◌, rules}
use Rattle.std.proofs.ByRecursion.{All-from_get_or}
use Rattle.column.specs.Kinds.{number_of}
use Rattle.column.specs.Columns.{Offer, offered, stray_from, word_bits}
use Rattle.column.proofs.WordLaws.{Words}
use Rattle.column.proofs.KindLaws.{wide-kind}
use Rattle.column.proofs.StrayLaws.{stray-wide}
use Rattle.column.proofs.HiddenLaws.{hidden}
use Rattle.column.proofs.InspectLaws.{shown}
use Rattle.column.proofs.views.View.new.Goals as goal

pub returns-in-None-clause-inspected : goal.returns-in-None-clause-inspected
returns-in-None-clause-inspected c =
    let o : Offer = record { kind = c.args.kind; cells = c.args.cells.now; words = c.args.words.now } in
    shown o c.in_ok-kind.kind (sym c.try_from.ensures ∙ c.in_ok-kind.was) (sym c.check_shape.ensures ∙ c.in_ok-check_shape.was) (sym c.in-None.ensures) _ refl

pub returns-then-width-eq64-clause-inspected : goal.returns-then-width-eq64-clause-inspected
returns-then-width-eq64-clause-inspected c =
    let o : Offer = record { kind = c.args.kind; cells = c.args.cells.now; words = c.args.words.now } in
    let words : Words o.cells = All-from_get_or (λ w. w < 2 ^ 64) o.cells 0 (λ i h. search rules) in
    let k = c.in_ok-kind.kind in
    let none : stray_from (number_of k) 0 (offered o) ≡ None = stray-wide (number_of k) 0 (word_bits (length o.cells) o.words) o.cells (wide-kind k (sym c.width.ensures ∙ c.if-width-eq64.true)) words in
    shown o k (sym c.try_from.ensures ∙ c.in_ok-kind.was) (sym c.check_shape.ensures ∙ c.in_ok-check_shape.was) none _ refl

pub returns-then-width-eq64-clause-hidden : goal.returns-then-width-eq64-clause-hidden
returns-then-width-eq64-clause-hidden c = hidden (record { kind = c.args.kind; cells = c.args.cells.now; words = c.args.words.now })

pub returns-in_err-kind-clause-hidden : goal.returns-in_err-kind-clause-hidden
returns-in_err-kind-clause-hidden c = hidden (record { kind = c.args.kind; cells = c.args.cells.now; words = c.args.words.now })

pub returns-in_err-check_shape-clause-hidden : goal.returns-in_err-check_shape-clause-hidden
returns-in_err-check_shape-clause-hidden c = hidden (record { kind = c.args.kind; cells = c.args.cells.now; words = c.args.words.now })

pub returns-in-Some-clause-hidden : goal.returns-in-Some-clause-hidden
returns-in-Some-clause-hidden c = hidden (record { kind = c.args.kind; cells = c.args.cells.now; words = c.args.words.now })

pub returns-in-None-clause-hidden : goal.returns-in-None-clause-hidden
returns-in-None-clause-hidden c = hidden (record { kind = c.args.kind; cells = c.args.cells.now; words = c.args.words.now })
