use Rattle.std.proofs.Common.{◌≡◌, ◌≤◌, length, ap, ◌∙◌, arith}
use Rattle.std.proofs.lemmas.List.{take_at}
use Rattle.column.specs.Columns.{seen}
use Rattle.stats.specs.Stats.{distinct_values as distinct_in}
use Rattle.dict.specs.Dict.{distinct_values}
use Rattle.dict.proofs.ShapeLaws.{distinct-is, distinct-few}
use Rattle.dict.proofs.codes.list_distinct.Goals as goal

pub slice_bounds-copy_from_slice-end : goal.slice_bounds-copy_from_slice-end
slice_bounds-copy_from_slice-end c =
    let ds = c.distinct_values-distinct.result.now in
    let d : ds ≡ distinct_values (seen c.args.array) = c.distinct_values-distinct.ensures ∙ ap distinct_in c.generate_opts-stats.ensures.stands ∙ distinct-is (seen c.args.array) in
    let l = distinct-few c.args.array ds d in
    let h : length ds ≤ length c.args.out.now = omega arith in
    omega arith

pub returns : goal.returns
returns c =
    let ds = c.distinct_values-distinct.result.now in
    let d : ds ≡ distinct_values (seen c.args.array) = c.distinct_values-distinct.ensures ∙ ap distinct_in c.generate_opts-stats.ensures.stands ∙ distinct-is (seen c.args.array) in
    let same = c.copy_from_slice.ensures.after in
    record {
      front = take_at c.copy_from_slice.new.self _ (length ds) (ap length same) ∙ same ∙ d;
      few = distinct-few c.args.array ds d;
    }
