use Rattle.std.proofs.Common.{◌^◌, ◌<◌, ◌≤◌, ◌++◌, map, length, get_or, ◌∙◌, append-nil, arith}
use Rattle.std.proofs.lemmas.List.{take_all, drop_all}
use Rattle.column.specs.Kinds.{number_of, width}
use Rattle.column.proofs.InspectLaws.{kind-few}
use Rattle.node.proofs.WidthLaws.{raised, gap, gap-room, raise-all, raised_at, raised-more, raised-same, below_at}
use Rattle.node.proofs.leaves.extend_signs.Goals as goal
use Rattle.node.proofs.leaves.extend_signs.Goals.{then-c-greatest, else-c-greatest}

pub overflow_add-c : goal.overflow_add-c
overflow_add-c c =
    let k = number_of c.args.kind in
    let xs = c.args.cells.now in
    let i = c.loop-c.c-index in
    let lt : i < length xs = c.loop-c-test.true in
    let at = raised_at (raised c.greatest-greatest.result c.sign_gap-gap.result) xs c.loop-c.cells i lt c.loop-c.invariant in
    let room = gap-room k (kind-few c.args.kind) (get_or xs i 0) (below_at (2 ^ width k) xs i lt c.requires.narrow) in
    omega (arith, at, room, c.sign_gap-gap.ensures)

pub loop-c-preserved : goal.loop-c-preserved
loop-c-preserved c =
    let g = c.greatest-greatest.result in
    let p = c.sign_gap-gap.result in
    elim c.if-c-greatest.branch [
      | then-c-greatest w ↦ raised-more g p c.args.cells.now c.loop-c.cells c.loop-c.c-index c.loop-c-test.true c.loop-c.invariant w.if-c-greatest.true c.if-c-greatest.cells w.cells-is
      | else-c-greatest w ↦ raised-same g p c.args.cells.now c.loop-c.cells c.loop-c.c-index c.loop-c-test.true c.loop-c.invariant w.if-c-greatest.false c.if-c-greatest.cells w.cells-is
    ]

pub returns : goal.returns
returns c =
    let k = number_of c.args.kind in
    let xs = c.args.cells.now in
    let i = c.loop-c.c-index in
    let le : length xs ≤ i = c.loop-c-test.false in
    c.loop-c.invariant
    ∙ (λ j. map (raised (c.greatest-greatest.ensures j) (c.sign_gap-gap.ensures j)) (take_all i xs le j) ++ drop_all i xs le j)
    ∙ append-nil (map (raised _ (gap k)) xs)
    ∙ raise-all k xs (kind-few c.args.kind) c.requires.signed
