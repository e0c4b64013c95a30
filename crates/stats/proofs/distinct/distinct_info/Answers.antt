use Rattle.std.proofs.Common.{◌≡◌, ◌^◌, ◌<◌, ◌≤◌, length, refl, arith, rules}
use Rattle.std.specs.List.{AllByRecursion}
use Rattle.std.proofs.ByRecursion.{All-from_get_or}
use Rattle.column.specs.Kinds.{signed, number_of}
use Rattle.stats.proofs.Infos.{info-is}
use Rattle.stats.proofs.Tops.{most-le}
use Rattle.stats.proofs.distinct.distinct_info.Goals as goal

pub returns : goal.returns
returns c =
    let k = number_of c.args.kind in
    let xs = c.args.values.now in
    let number = c.split_runs-number.result in
    let split = c.split_runs-number.ensures in
    let ws = c.sort_keys.new.keys in
    let words : AllByRecursion (λ w. w < 2 ^ 64) xs = All-from_get_or (λ w. w < 2 ^ 64) xs 0 (λ i h. search rules) in
    let long : length ws ≡ length xs = omega arith in
    let most = most-le ws _ _ c.commonest-best.result split.lengths c.commonest-best.ensures in
    record {
      stands = info-is k (signed k) xs c.turn.new.cells ws c.split_runs-number.new.values c.split_runs-number.new.counts c.turn-2.new.cells _ number number c.commonest-best.result
          refl words c.turn.ensures c.sort_keys.ensures split.vals split.lengths (omega arith) refl c.turn-2.ensures c.commonest-best.ensures;
      few = omega (arith, split.few, long);
      most = omega (arith, most, long);
    }

pub overflow_cast-result-2 : goal.overflow_cast-result-2
overflow_cast-result-2 c =
    let most = most-le c.sort_keys.new.keys _ _ c.commonest-best.result c.split_runs-number.ensures.lengths c.commonest-best.ensures in
    let f : c.commonest-best.result.1 ≤ 131072 = omega (arith, most) in
    search rules
