use Rattle.std.proofs.Common.{◌≡◌, ℕ, ◌-◌, ◌^◌, List, ◌++◌, length, drop, take, replicate, sym, ap, ◌∙◌, rules, arith}
use Rattle.std.proofs.lemmas.List.{length-take-le}
use Rattle.packing.specs.Packing.{joined, digits, written}
use Rattle.packing.proofs.Digits.{length_digits}
use Rattle.column.specs.Columns.{words_for}
use Rattle.node.specs.Payloads.{words_of}
use Rattle.node.proofs.SpareLaws.{Loaded, part-cleared, whole-loaded, mask-loaded, ones-loaded}
use Rattle.node.proofs.leaves.read_mask.Goals as goal
use Rattle.node.proofs.leaves.read_mask.Goals.{then-flag-eq0, else-flag-eq0, Joined-flag-eq0}

loaded : (c : goal.Joined-flag-eq0) → Loaded c.args.flag c.args.rows c.args.bytes.now c.if-flag-eq0.words
loaded c =
    let f = c.args.flag in
    let n = c.args.rows in
    let bs = c.args.bytes.now in
    let k : c.words_for.result ≡ words_for n = omega (arith, c.words_for.ensures) in
    let len : length (take c.words_for.result c.args.words.now) ≡ words_for n = length-take-le c.words_for.result c.args.words.now (omega arith) ∙ k in
    elim c.if-flag-eq0.branch [
      | then-flag-eq0 v ↦
          ones-loaded f n bs c.if-flag-eq0.words (v.words-is ∙ v.fill.ensures.after (λ y e. search rules) ∙ ap (λ m. replicate m (2 ^ 64 - 1)) len) v.if-flag-eq0.true
      | else-flag-eq0 v ↦
          mask-loaded f n bs c.if-flag-eq0.words (v.words-is ∙ v.unpack.ensures.value ∙ ap (λ m. digits (2 ^ 64) m (joined 256 bs)) len) v.if-flag-eq0.false
    ]

-- the words are the front of those lent
front : (n k : ℕ) (bits ws old : List ℕ) → ws ≡ words_of n bits → k ≡ words_for n → ws ++ drop k old ≡ written (words_of n bits) old
front n k bits ws old e h = λ i. e i ++ drop ((h ∙ sym (length_digits (2 ^ 64) (words_for n) (joined 2 bits))) i) old

pub returns-then-rest-ne0 : goal.returns-then-rest-ne0
returns-then-rest-ne0 c =
    let l = loaded (goal.at.returns-then-rest-ne0 c).Joined-flag-eq0 in
    front c.args.rows c.words_for.result _ _ c.args.words.now
    (part-cleared c.args.flag c.args.rows c.args.bytes.now c.if-flag-eq0.words l c.if-rest-ne0.true c.low_bits.result c.low_bits.ensures)
    (omega (arith, c.words_for.ensures))

pub returns-else-rest-ne0 : goal.returns-else-rest-ne0
returns-else-rest-ne0 c =
    let l = loaded (goal.at.returns-else-rest-ne0 c).Joined-flag-eq0 in
    front c.args.rows c.words_for.result _ _ c.args.words.now
    (whole-loaded c.args.flag c.args.rows c.args.bytes.now c.if-flag-eq0.words l c.if-rest-ne0.false)
    (omega (arith, c.words_for.ensures))
