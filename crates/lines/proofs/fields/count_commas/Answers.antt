use Rattle.std.proofs.Common.{rules, arith, tests, ◌^◌, ◌-◌, ◌≤◌, length}
use Rattle.std.proofs.lemmas.Iterator.{YieldsList-from_slice}
use Rattle.std.proofs.lemmas.Iterator.Adapters.{fits_from_length, at_most_from_yields_List}
use Rattle.lines.proofs.fields.count_commas.Goals as goal

-- a slice's length is below 2 ^ 63, and each of its bytes counts 1 at most
pub sum-requires-clause-fits : goal.sum-requires-clause-fits
sum-requires-clause-fits c =
    let few : length c.args.text.now ≤ 2 ^ 63 - 1 = search rules in
    fits_from_length _ _ (2 ^ 63 - 1) (2 ^ 64) (at_most_from_yields_List (YieldsList-from_slice c.args.text.now cc) few) c.map.ensures.closure (omega arith) (λ x r q k. search (rules, tests))
