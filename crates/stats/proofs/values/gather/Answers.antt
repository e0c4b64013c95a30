use Rattle.std.proofs.Common.{◌≡◌, ◌⊎◌, length, ◌∙◌, inl, inr, arith, rules}
use Rattle.std.specs.Iterator.Adapters.{zip_first, zip_second}
use Rattle.std.specs.Slice.Iter.{iter_rest, chunks_rest}
use Rattle.column.proofs.NextLaws.{next-by}
use Rattle.stats.proofs.Gathering.{got-more, got-all}
use Rattle.stats.proofs.values.gather.Goals as goal

pub loop-cells-preserved : goal.loop-cells-preserved
loop-cells-preserved c =
    let steps = c.in-Some.ensures.steps in
    let sized = c.loop-cells.invariant.2 in
    let next = next-by sized steps.0.1.0 steps.0.1.1 steps.1 (search rules) in
    let got = c.gather_block-at.ensures in
    ((omega (arith, steps.0.0, sized), tt), tt, steps.0.0 ∙ sized, got-more c.loop-cells.invariant.3 next _ _ got.front got.fits got.beyond)

pub returns-clause-front : goal.returns-clause-front
returns-clause-front c =
    let left = c.loop-cells.cells-iterator in
    let over : (length (chunks_rest (zip_first left)) ≡ 0) ⊎ (length (iter_rest (zip_second left)) ≡ 0) = elim c.in-None.ensures.steps [ inl a ↦ inl a.1.1.0 | inr b ↦ inr b.1.0 ] in
    got-all c.loop-cells.invariant.3 over
