use Rattle.std.proofs.Common.{◌^◌, ◌<◌, rules}
use Rattle.std.proofs.ByRecursion.{All-from_get_or}
use Rattle.column.proofs.WordLaws.{Words}
use Rattle.reading.proofs.ClearLaws.{part-spare, none-spare}
use Rattle.reading.proofs.cleared.clear_spare.Goals as goal

pub returns-then-rest-ne0 : goal.returns-then-rest-ne0
returns-then-rest-ne0 c =
    let ws = c.args.words.now in
    let a : Words ws = All-from_get_or (λ w. w < 2 ^ 64) ws 0 (λ k h. search rules) in
    part-spare c.args.rows ws c.low_bits.result a c.requires.worded c.if-rest-ne0.true c.low_bits.ensures

pub returns-else-rest-ne0 : goal.returns-else-rest-ne0
returns-else-rest-ne0 c =
    let ws = c.args.words.now in
    let a : Words ws = All-from_get_or (λ w. w < 2 ^ 64) ws 0 (λ k h. search rules) in
    none-spare c.args.rows ws a c.requires.worded c.if-rest-ne0.false
