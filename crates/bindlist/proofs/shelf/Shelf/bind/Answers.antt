use Rattle.std.proofs.Common.{drop, ◌∙◌, ap₂}
use Rattle.std.proofs.lemmas.Result.{IfOk-weaker}
use Rattle.lines.specs.Held.{held}
use Rattle.bindlist.specs.Shelves.{state}
use Rattle.bindlist.proofs.Placing.{refused-text, bound-text, kept}
use Rattle.bindlist.proofs.shelf.Shelf.bind.Goals as goal

pub returns-in_default-clause-text : goal.returns-in_default-clause-text
returns-in_default-clause-text c =
    let shelf = c.args.self.now in
    IfOk-weaker c.unread.result _ _
    (λ o e.
    e ∙ refused-text _ shelf.opened _ (c.as_mut_slice-mem.ensures.len ∙ shelf.room)
    (state shelf) _ (λ i. record { count = shelf.binder.count; used = shelf.binder.used; bytes = c.as_mut_slice-bytes.ensures.value i })
    (held c.args.column) _ (λ i. record { kind = c.from-kind.ensures i; cells = c.deref.ensures.value i; words = c.deref-2.ensures.value i })
    c.args.n c.in_default.field-0 _ c.in_default.ensures.step)
    c.unread.ensures

pub returns-clause-text : goal.returns-clause-text
returns-clause-text c =
    let shelf = c.args.self.now in
    bound-text _ shelf.opened _ (c.as_mut_slice-mem.ensures.len ∙ shelf.room)
    (state shelf) _ (λ i. record { count = shelf.binder.count; used = shelf.binder.used; bytes = c.as_mut_slice-bytes.ensures.value i })
    (held c.args.column) _ (λ i. record { kind = c.from-kind.ensures i; cells = c.deref.ensures.value i; words = c.deref-2.ensures.value i })
    c.args.n c.in-Ok.number _ c.in-Ok.ensures.step
    c.from.result.now (c.from.ensures ∙ ap₂ drop c.used-start.ensures (c.deref-3.ensures.value ∙ kept c.bind-bound.new.bytes shelf.bytes.items shelf.bytes.len (c.bind-bound.auto.bytes ∙ c.as_mut_slice-bytes.ensures.len)))
    _ c.in_ok-text.ensures.tree
