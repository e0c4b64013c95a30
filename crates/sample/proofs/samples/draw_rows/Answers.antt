use Rattle.std.proofs.Common.{◌≡◌, ◌+◌, ◌*◌, ◌≤◌, length, sym, refl, ap, ◌∙◌, arith}
use Rattle.packing.specs.Packing.{written}
use Rattle.column.specs.Columns.{cells, presence, seen}
use Rattle.column.proofs.ViewLaws.{view-rows, view-cells}
use Rattle.sample.specs.Samples.{strata, seed, bounds_of}
use Rattle.sample.specs.Laws.{stratum_at}
use Rattle.sample.proofs.StrataLaws.{length-strata, wide, ends}
use Rattle.sample.proofs.Steps.{asked, draw-room, cells-more, words_more, cells-all, words-all, sample-large, after_more, words-room, word-is}
use Rattle.sample.proofs.samples.draw_rows.Goals as goal

pub overflow_sub-stop : goal.overflow_sub-stop
overflow_sub-stop g c =
    let n = length c.args.array.view.cells.now in
    let k = length c.args.words.now in
    let l : 64 * k ≤ n = omega (arith, c.requires.large) in
    let w = wide n k c.loop-i.i c.loop-i-test.true l in
    let e = ap (λ p. p.1) c.stratum-start.ensures.bounds in
    omega (arith, w, e)

pub draw-from-requires : goal.draw-from-requires
draw-from-requires g c =
    let n = length c.args.array.view.cells.now in
    let k = length c.args.words.now in
    let l : 64 * k ≤ n = omega (arith, c.requires.large) in
    let w = wide n k c.loop-i.i c.loop-i-test.true l in
    let r = ends n k c.loop-i.i c.loop-i-test.true in
    let d = ap (λ p. p.0) c.stratum-start.ensures.bounds in
    let e = ap (λ p. p.1) c.stratum-start.ensures.bounds in
    record { ordered = omega (arith, w, d, e); small = omega (arith, r, e, c.args.array.sound.few) }

pub put_cells-requires : goal.put_cells-requires
put_cells-requires g c =
    let k = length c.args.words.now in
    let bs = asked (strata (length c.args.array.view.cells.now) k) c.loop-i.i in
    let l : 64 * k ≤ length c.args.array.view.cells.now = omega (arith, c.requires.large) in
    record {
      within =
          draw-room g.D.Draws.source g.met.D.Draws.within _ k c.loop-i.i bs _ _ c.loop-i-test.true l c.stratum-start.ensures.bounds
          (c.draw-from.ensures.answers seed bs c.loop-i.invariant.0);
      room = omega (arith, c.requires.cells_room, c.loop-i-test.true, c.loop-i.auto.cells);
    }

pub word_from-requires : goal.word_from-requires
word_from-requires g c =
    let k = length c.args.words.now in
    let bs = asked (strata (length c.args.array.view.cells.now) k) c.loop-i.i in
    let l : 64 * k ≤ length c.args.array.view.cells.now = omega (arith, c.requires.large) in
    record {
      within =
          words-room c.args.array.view c.args.array.sound _
          (draw-room g.D.Draws.source g.met.D.Draws.within _ k c.loop-i.i bs _ _ c.loop-i-test.true l c.stratum-start.ensures.bounds
          (c.draw-from.ensures.answers seed bs c.loop-i.invariant.0));
    }

pub loop-i-preserved : goal.loop-i-preserved
loop-i-preserved g c =
    let d = g.D.Draws.source in
    let v = c.args.array.view in
    let rs = (seen v).rows in
    let n = length c.args.array.view.cells.now in
    let k = length c.args.words.now in
    let i = c.loop-i.i in
    let ps = strata n k in
    let bs = asked ps i in
    let l : 64 * k ≤ n = omega (arith, c.requires.large) in
    let f : c.draw-from.result ≡ d seed (bounds_of (stratum_at n k i)) bs =
    c.draw-from.ensures.answers seed bs c.loop-i.invariant.0 ∙ ap (λ p. d seed (bounds_of p) bs) c.stratum-start.ensures.bounds in
    let within = draw-room d g.met.D.Draws.within n k i bs (stratum_at n k i) _ c.loop-i-test.true l refl f in
    let within-rows : c.draw-from.result + 64 ≤ length rs = omega (arith, within, view-rows v) in
    let cells-room : 64 * i + 64 ≤ length c.loop-i.cells = omega (arith, c.requires.cells_room, c.loop-i-test.true, c.loop-i.auto.cells) in (
      after_more g.D.Draws.after ps i c.stratum-start.result _ c.stratum-start.ensures.bounds (c.draw-from.ensures.moves seed bs c.loop-i.invariant.0),
      cells-more d ps i rs c.args.array.view.cells.now c.loop-i.cells _ _ c.draw-from.result (omega (arith, length-strata n k, c.loop-i-test.true))
          (view-cells v c.args.array.clean) f within-rows cells-room c.put_cells.ensures c.loop-i.invariant.1,
      words_more d ps i rs c.loop-i.words _ c.draw-from.result c.word_from.result (omega (arith, length-strata n k, c.loop-i-test.true)) f within-rows
          (omega (arith, c.loop-i-test.true, c.loop-i.auto.words))
          (word-is v c.args.array.clean c.draw-from.result _ c.word_from.ensures) c.loop-i.invariant.2,
    )

pub returns : goal.returns
returns g c =
    let d = g.D.Draws.source in
    let v = c.args.array.view in
    let rs = (seen v).rows in
    let n = length c.args.array.view.cells.now in
    let k = length c.args.words.now in
    let i = c.loop-i.i in
    let ps = strata n k in
    let s = sample-large d rs n k (sym (view-rows v)) c.requires.counted c.requires.large in
    record {
      cells =
          cells-all d ps i rs c.loop-i.cells _ (omega (arith, length-strata n k, c.loop-i-test.false)) c.loop-i.invariant.1
          ∙ ap (λ z. written (cells z) c.args.cells.now) s;
      words =
          words-all d ps i rs c.loop-i.words _ (omega (arith, length-strata n k, c.loop-i-test.false)) c.loop-i.invariant.2
          ∙ ap (λ z. written (presence z) c.args.words.now) s;
    }
