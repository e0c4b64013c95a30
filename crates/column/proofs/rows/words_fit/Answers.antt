use Rattle.std.proofs.Common.{◌≡◌, ◌/◌, ◌%◌, ◌^◌, ◌<◌, eqb, length, sym, ◌∙◌, arith, rules}
use Rattle.std.proofs.ByRecursion.{All-from_get_or}
use Rattle.std.proofs.lemmas.Bool.{ltb-false}
use Rattle.column.specs.Words.{words_for}
use Rattle.column.proofs.WordLaws.{Words}
use Rattle.column.proofs.InspectLaws.{words_last, words-whole}
use Rattle.column.proofs.rows.words_fit.Goals as goal

pub returns-in-Some : goal.returns-in-Some
returns-in-Some c =
    let ws = c.args.words.now in
    let n = c.args.rows in
    let a : Words ws = All-from_get_or (λ w. w < 2 ^ 64) ws 0 (λ i h. search rules) in
    let right : length ws ≡ words_for n = omega arith in
    let last = c.in-Some.ensures.lookup.3.1 0 in
    (λ i. eqb (last i / 2 ^ (n % 64)) 0) ∙ words_last n ws a right

pub returns-in-None : goal.returns-in-None
returns-in-None c =
    let ws = c.args.words.now in
    let n = c.args.rows in
    let a : Words ws = All-from_get_or (λ w. w < 2 ^ 64) ws 0 (λ i h. search rules) in
    let right : length ws ≡ words_for n = omega arith in
    words-whole n ws a right (ltb-false (n / 64) (length ws) (sym c.in-None.ensures.lookup.0))
