use Rattle.std.proofs.Common.{◌*◌, sym, ap, ◌∙◌, arith, rules}
use Rattle.column.specs.Kinds.{number_of}
use Rattle.column.specs.Columns.{stray_from}
use Rattle.column.specs.Views.{block_rows}
use Rattle.column.proofs.NextLaws.{next-by, next-length, next-worded}
use Rattle.column.proofs.StrayLaws.{strays-more, strays-stop}
use Rattle.column.proofs.views.View.first_stray.Goals as goal

pub returns-in-Some-first_stray : goal.returns-in-Some-first_stray
returns-in-Some-first_stray c =
    let steps = c.in-Some.ensures.steps in
    let k = number_of c.args.self.now.kind in
    let next = next-by c.loop-b.invariant.2 steps.0.0.1.0 steps.0.0.1.1 steps.0.1 (search rules) in
    strays-stop k _ next c.loop-b.invariant.5 c.in-Some-first_stray.row (ap (λ b. stray_from k (64 * b) (block_rows c.in-Some.word.now c.in-Some.cells.now)) (sym steps.1) ∙ sym c.in-Some-first_stray.ensures)

pub loop-b-preserved : goal.loop-b-preserved
loop-b-preserved c =
    let steps = c.in-Some.ensures.steps in
    let k = number_of c.args.self.now.kind in
    let next = next-by c.loop-b.invariant.2 steps.0.0.1.0 steps.0.0.1.1 steps.0.1 (search rules) in (
      (search rules, tt, search rules),
      tt,
      search rules,
      next-worded next c.loop-b.invariant.3,
      omega (arith, steps.2, c.loop-b.invariant.4, next-length next, next.size),
      strays-more k _ next c.loop-b.invariant.5 _ (omega (arith, steps.2)) (ap (λ b. stray_from k (64 * b) (block_rows c.in-Some.word.now c.in-Some.cells.now)) (sym steps.1) ∙ sym c.in_default.ensures),
    )
