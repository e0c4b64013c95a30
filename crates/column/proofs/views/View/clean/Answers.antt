use Rattle.std.proofs.Common.{◌≡◌, ◌*◌, ◌⊎◌, length, refl, inl, inr, arith, rules}
use Rattle.std.specs.Iterator.Adapters.{enumerate_source, zip_first, zip_second}
use Rattle.std.specs.Slice.Iter.{iter_rest, chunks_rest}
use Rattle.packing.specs.Packing.{written}
use Rattle.column.specs.Columns.{seen, cells}
use Rattle.column.proofs.NextLaws.{next-by, over}
use Rattle.column.proofs.CleanLaws.{cleans-more, cleans-end}
use Rattle.column.proofs.HiddenLaws.{again}
use Rattle.column.proofs.views.View.clean.Goals as goal

pub loop-b-preserved : goal.loop-b-preserved
loop-b-preserved c =
    let steps = c.in-Some.ensures.steps in
    let next = next-by c.loop-b.invariant.2 steps.0.0.1.0 steps.0.0.1.1 steps.0.1 (search rules) in
    ((search rules, tt, search rules), tt, search rules, cleans-more c.loop-b.invariant.3 next steps.0.0.1.2 (omega arith) (64 * c.in-Some.b) _ _ _ _ (omega (arith, steps.1)) (omega arith) (omega (arith, steps.2)) c.clean.ensures refl)

pub returns : goal.returns
returns c =
    let v = c.args.self.now in
    let left = enumerate_source c.loop-b.b-iterator in
    let none : (length (chunks_rest (zip_first left)) ≡ 0) ⊎ (length (iter_rest (zip_second left)) ≡ 0) = elim c.in-None.ensures.steps.0 [ inl a ↦ inl a.1.1.0 | inr b ↦ inr b.1.0 ] in
    let done : c.loop-b.out ≡ written (cells (seen v).rows) c.args.out.now = cleans-end c.loop-b.invariant.3 (over _ _ c.loop-b.invariant.3.worded none) in
    record { written = done; again = again v c.loop-b.out c.args.out.now done }
