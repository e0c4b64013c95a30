use Rattle.std.proofs.lemmas.List.Sorted.{IsNonDecreasingBy-from_sort}
use Rattle.stats.proofs.Unique.{sorted-is}
use Rattle.stats.proofs.distinct.sort_keys.Goals as goal

pub returns : goal.returns
returns c = sorted-is c.args.keys.now c.sort_unstable.new.self c.sort_unstable.ensures.permutation (IsNonDecreasingBy-from_sort (λ x. x) c.sort_unstable.new.self c.sort_unstable.ensures.sorted)
