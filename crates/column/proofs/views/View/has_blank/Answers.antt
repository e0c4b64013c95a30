use Rattle.std.proofs.Common.{◌≡◌, ◌⊎◌, length, ◌∙◌, inl, inr, arith, rules}
use Rattle.std.specs.Iterator.Adapters.{zip_first, zip_second}
use Rattle.std.specs.Slice.Iter.{iter_rest, chunks_rest}
use Rattle.column.proofs.NextLaws.{next-by, next-worded, over}
use Rattle.column.proofs.BlankLaws.{blanks-more, blanks-stop, blanks-end}
use Rattle.column.proofs.views.View.has_blank.Goals as goal

pub returns-then-has_blank : goal.returns-then-has_blank
returns-then-has_blank c =
    let steps = c.in-Some.ensures.steps in
    let next = next-by c.loop-cells.invariant.2 steps.0.1.0 steps.0.1.1 steps.1 (search rules) in
    blanks-stop next c.loop-cells.invariant.4 c.if-has_blank.ensures

pub loop-cells-preserved : goal.loop-cells-preserved
loop-cells-preserved c =
    let steps = c.in-Some.ensures.steps in
    let sized = c.loop-cells.invariant.2 in
    let next = next-by c.loop-cells.invariant.2 steps.0.1.0 steps.0.1.1 steps.1 (search rules) in
    ((omega (arith, steps.0.0, sized), tt), tt, steps.0.0 ∙ sized, next-worded next c.loop-cells.invariant.3, blanks-more next c.loop-cells.invariant.4 c.if-has_blank.ensures)

pub returns : goal.returns
returns c =
    let left = c.loop-cells.cells-iterator in
    let none : (length (chunks_rest (zip_first left)) ≡ 0) ⊎ (length (iter_rest (zip_second left)) ≡ 0) = elim c.in-None.ensures.steps [ inl a ↦ inl a.1.1.0 | inr b ↦ inr b.1.0 ] in
    blanks-end _ _ _ (over _ _ c.loop-cells.invariant.3 none) c.loop-cells.invariant.4
