use Rattle.std.proofs.Common.{◌≡◌, ◌/◌, ◌%◌, ◌^◌, ◌<◌, false, length, get_or, sym, ap, ◌∙◌, inl, inr, arith, rules}
use Rattle.std.proofs.lemmas.Bool.{eqb-true, eqb-false}
use Rattle.column.specs.Kinds.{number_of, key, least, greatest, in_kind}
use Rattle.column.specs.Columns.{stray_from}
use Rattle.column.specs.Views.{block_rows}
use Rattle.column.proofs.KindLaws.{in-kind, below-kind, above-kind}
use Rattle.column.proofs.StrayLaws.{stray-blank, stray-start, stray-past, stray-over, stray-found, stray-end}
use Rattle.column.proofs.blocks.Block.first_stray.Goals as goal
use Rattle.column.proofs.blocks.Block.first_stray.Goals.{then-is_set+else-k-low+else-high-k, else-is_set}

pub returns-then-self-eq0 : goal.returns-then-self-eq0
returns-then-self-eq0 c =
    let k = number_of c.args.kind in
    let xs = c.args.self.now.cells.now in
    sym (ap (λ z. stray_from k c.args.start (block_rows z xs)) c.if-self-eq0.true ∙ stray-blank k c.args.start (length xs) xs)

pub returns-then-k-low : goal.returns-then-k-low
returns-then-k-low c =
    let k = number_of c.args.kind in
    let x = get_or c.args.self.now.cells.now c.loop-i.i 0 in
    let low : c.key-low.result ≡ key k (least k) = c.key-low.ensures ∙ ap (key k) c.least.ensures in
    let high : c.key-high.result ≡ key k (greatest k) = c.key-high.ensures ∙ ap (key k) c.greatest.ensures in
    let here : c.key-k.result ≡ key k x = c.key-k.ensures in
    let out : in_kind k x ≡ false = elim c.then-k-low.either [
      | inl l ↦ below-kind k x (omega (arith, l, low, here))
      | inr h ↦ above-kind k x (omega (arith, h.1, high, here))
    ] in
    stray-found k c.args.start c.args.self.now.word c.loop-i.i c.args.self.now.cells.now c.loop-i-test.true _ c.loop-i.invariant (eqb-true (c.args.self.now.word / 2 ^ c.loop-i.i % 2) 1 (sym c.is_set.ensures ∙ c.if-is_set.true)) out
    ∙ stray-start k c.args.start c.args.self.now.word c.args.self.now.cells.now

pub loop-i-preserved : goal.loop-i-preserved
loop-i-preserved c =
    let k = number_of c.args.kind in
    let x = get_or c.args.self.now.cells.now c.loop-i.i 0 in
    let low : c.key-low.result ≡ key k (least k) = c.key-low.ensures ∙ ap (key k) c.least.ensures in
    let high : c.key-high.result ≡ key k (greatest k) = c.key-high.ensures ∙ ap (key k) c.greatest.ensures in
    elim c.if-is_set.branch [
      | then-is_set+else-k-low+else-high-k w ↦
          let here : w.key-k.result ≡ key k x = w.key-k.ensures in
          let word : x < 2 ^ 64 = search rules in
          let a = w.if-k-low.false in
          let b = w.if-high-k.false in
          stray-over k c.args.start c.args.self.now.word c.loop-i.i c.args.self.now.cells.now c.loop-i-test.true _ c.loop-i.invariant (eqb-true (c.args.self.now.word / 2 ^ c.loop-i.i % 2) 1 (sym c.is_set.ensures ∙ w.if-is_set.true)) (in-kind k x word (omega (arith, a, low, here)) (omega (arith, b, high, here)))
      | else-is_set w ↦ stray-past k c.args.start c.args.self.now.word c.loop-i.i c.args.self.now.cells.now c.loop-i-test.true _ c.loop-i.invariant (eqb-false (c.args.self.now.word / 2 ^ c.loop-i.i % 2) 1 (sym c.is_set.ensures ∙ w.if-is_set.false))
    ]

pub returns : goal.returns
returns c =
    let k = number_of c.args.kind in
    stray-end k c.args.start c.args.self.now.word c.loop-i.i c.args.self.now.cells.now _ c.loop-i-test.false c.loop-i.invariant ∙ stray-start k c.args.start c.args.self.now.word c.args.self.now.cells.now
