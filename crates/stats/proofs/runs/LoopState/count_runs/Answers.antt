use Rattle.std.proofs.Common.{◌≡◌, ◌⊎◌, length, ap, ◌∙◌, inl, inr, arith, rules}
use Rattle.std.specs.Iterator.Adapters.{zip_first, zip_second}
use Rattle.std.specs.Slice.Iter.{iter_rest, chunks_rest}
use Rattle.column.proofs.NextLaws.{next-by}
use Rattle.stats.specs.declared.runs.LoopState.{LoopState}
use Rattle.stats.proofs.Bounds.{same-state}
use Rattle.stats.proofs.Blocking.{counted-more, counted-all}
use Rattle.stats.proofs.runs.LoopState.count_runs.Goals as goal

pub loop-cells-preserved : goal.loop-cells-preserved
loop-cells-preserved c =
    let steps = c.in-Some.ensures.steps in
    let sized = c.loop-cells.invariant.2 in
    let next = next-by sized steps.0.1.0 steps.0.1.1 steps.1 (search rules) in
    ((omega (arith, steps.0.0, sized), tt), tt, steps.0.0 ∙ sized, counted-more c.loop-cells.invariant.3 next _ _ (ap (λ (s : LoopState). s.runs) c.inner_loop.ensures) (ap (λ (s : LoopState). s.prev) c.inner_loop.ensures))

pub returns : goal.returns
returns c =
    let left = c.loop-cells.cells-iterator in
    let over : (length (chunks_rest (zip_first left)) ≡ 0) ⊎ (length (iter_rest (zip_second left)) ≡ 0) = elim c.in-None.ensures.steps [ inl a ↦ inl a.1.1.0 | inr b ↦ inr b.1.0 ] in
    let all = counted-all c.loop-cells.invariant.3 over in
    same-state _ _ _ _ all.1 all.0
