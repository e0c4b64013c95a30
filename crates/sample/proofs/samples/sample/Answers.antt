use Rattle.std.proofs.Common.{length, sym, arith}
use Rattle.column.specs.Columns.{seen}
use Rattle.column.proofs.ViewLaws.{view-rows}
use Rattle.sample.proofs.SampleLaws.{none-drawn, some-drawn, own, sampled-words, drawn-into}
use Rattle.sample.proofs.Steps.{front_is}
use Rattle.sample.proofs.samples.sample.Goals as goal

pub returns-then-rows-count : goal.returns-then-rows-count
returns-then-rows-count g c =
    let n = length c.args.array.view.cells.now in
    let k = c.sample_count-count.result in
    record {
      rows = none-drawn n k c.sample_count-count.ensures (omega arith);
      sampled = own g.D.Draws.source (seen c.args.array.view) _ _ n k (sym (view-rows c.args.array.view)) c.sample_count-count.ensures (omega arith);
    }

pub returns : goal.returns
returns g c =
    let n = length c.args.array.view.cells.now in
    let k = c.sample_count-count.result in
    record {
      rows = some-drawn n k c.sample_count-count.ensures (omega arith);
      sampled =
          drawn-into g.D.Draws.source g.met.D.Draws.within (seen c.args.array.view) _ _ _ _ n k c.args.array.clean.clean (sym (view-rows c.args.array.view)) c.sample_count-count.ensures (omega arith)
          c.draw_rows.ensures.cells
          (front_is _ _ _ k (sampled-words g.D.Draws.source g.met.D.Draws.within (seen c.args.array.view).rows n k (sym (view-rows c.args.array.view)) c.sample_count-count.ensures (omega arith)) c.draw_rows.ensures.words);
    }
