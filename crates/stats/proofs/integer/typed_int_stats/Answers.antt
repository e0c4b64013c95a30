use Rattle.std.proofs.Common.{◌≡◌, ◌+◌, ◌-◌, ◌*◌, ◌≤◌, length, slice_get, take, drop, sym, refl, ap, ◌∙◌, arith}
use Rattle.std.proofs.lemmas.List.{length-take-le, length-drop}
use Rattle.std.proofs.lemmas.Slice.{take-put_mid_below, drop-put_mid}
use Rattle.column.specs.Kinds.{number_of}
use Rattle.stats.specs.Stats.{runs, distinct_part}
use Rattle.stats.specs.declared.integer.IntegerStats.{IntegerStats}
use Rattle.stats.proofs.Gathering.{drop-later}
use Rattle.stats.proofs.Infos.{part-in, part-beyond}
use Rattle.stats.proofs.Together.{stats-is}
use Rattle.stats.proofs.integer.typed_int_stats.Goals as goal

pub runs_from-runs-requires : goal.runs_from-runs-requires
runs_from-runs-requires c =
    let out = c.gather-count.new.out in
    let rows = length c.args.view.cells.now in
    let far : 2 * rows + 64 - 2 * rows ≤ length (drop (2 * rows) out) = omega (arith, length-drop (2 * rows) out) in
    record {
      sound = c.requires.sound;
      room = omega (arith, length-take-le (2 * rows + 64 - 2 * rows) (drop (2 * rows) out) far);
      first = c.copied-first.ensures ∙ c.first.ensures.value ∙ ap (λ z. slice_get z 0) c.gather-count.ensures.front;
    }

pub returns : goal.returns
returns c =
    let n = c.gather-count.result in
    let out = c.gather-count.new.out in
    let k = number_of c.args.view.kind in
    let cells = c.args.view.cells.now in
    let rows = length cells in
    let fits = c.gather-count.ensures.fits in
    let fit : n ≤ length out = omega (arith, fits) in
    let front = c.gather-count.ensures.front in
    let near : n ≤ 2 * rows = omega (arith, fits) in
    let far : 2 * rows ≤ length out = omega arith in
    let block = c.runs_from-runs.new.work in
    let below = take-put_mid_below (2 * rows) (2 * rows + 64 - 2 * rows) out block n near far in
    let split = c.split_at_mut-values.ensures in
    let rest = c.split_at_mut-values.result.1.now in
    let part = c.distinct_part-distinct.ensures in
    let vs = c.distinct_part-distinct.new.values in
    let cs = c.distinct_part-distinct.new.counts in
    let lv : length vs ≡ n = omega (arith, split.front_len) in
    let long : n ≤ length rest = omega (arith, split.back_len, fits) in
    let lc : length cs ≡ n = omega (arith, length-take-le n rest long) in
    let whole : IntegerStats = record { kind = c.args.view.kind; null_count = rows - n; value_count = n; average_run_length = c.average_run_length.result; min = c.least_of-min.result; max = c.greatest_of-max.result; distinct = c.distinct_part-distinct.result } in
    record {
      stands = stats-is whole c.args.want k cells c.args.view.words.now (take n out) _ n c.runs_from-runs.result refl refl
          front (length-take-le n out fit) c.least_of-min.ensures c.greatest_of-max.ensures (c.runs_from-runs.ensures ∙ ap runs (sym front)) c.average_run_length.ensures
          (λ rs e. part-in c.distinct_part-distinct.result n vs cs _ (omega (arith, part.few, split.front_len)) lv lc ∙ part.stands rs e ∙ ap (distinct_part c.args.want k rs) (split.front ∙ below));
      kind = refl;
      few = omega (arith, part.few, split.front_len);
      most = omega (arith, part.most, split.front_len);
      rows = omega (arith, fits);
      beyond =
          part-beyond n (2 * rows + 64) _ vs cs rest (omega (arith, fits)) lv lc split.back
          ∙ drop-put_mid (2 * rows) (2 * rows + 64 - 2 * rows) out block (2 * rows + 64) (omega arith) far (omega arith)
          ∙ drop-later rows (2 * rows + 64) out c.args.table.now (omega arith) c.gather-count.ensures.beyond;
    }
