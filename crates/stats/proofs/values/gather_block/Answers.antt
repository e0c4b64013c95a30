use Rattle.std.proofs.Common.{◌+◌, ◌<◌, ◌≤◌, length, drop, sym, ap, ◌∙◌, arith}
use Rattle.std.proofs.lemmas.List.{drop-set-lt}
use Rattle.stats.proofs.Gathering.{gather-value, gather-blank, gather-end}
use Rattle.stats.proofs.values.gather_block.Goals as goal
use Rattle.stats.proofs.values.gather_block.Goals.{then-is_set, else-is_set}

pub loop-i-preserved : goal.loop-i-preserved
loop-i-preserved c =
    let w = c.args.block.word in
    let n = c.loop-i.n in
    let i = c.loop-i.i in
    let xs = c.args.block.cells.now in
    let out = c.loop-i.out in
    let m = c.args.at + length xs in
    let lt : i < length xs = omega arith in
    let fit : n < length out = omega arith in
    elim c.if-is_set.branch [
      | then-is_set u ↦ (
        gather-value w n i xs out _ _ _ lt fit (sym c.is_set.ensures ∙ u.if-is_set.true) u.out-is u.n-is c.loop-i.invariant.0,
        omega (arith, u.n-is),
        ap (drop m) u.out-is ∙ drop-set-lt m out n _ (omega arith) ∙ c.loop-i.invariant.2,
      )
      | else-is_set u ↦ (
        gather-blank w n i xs out _ _ _ lt (sym c.is_set.ensures ∙ u.if-is_set.false) u.out-is u.n-is c.loop-i.invariant.0,
        omega (arith, u.n-is),
        ap (drop m) u.out-is ∙ c.loop-i.invariant.2,
      )
    ]

pub returns : goal.returns
returns c =
    let le : length c.args.block.cells.now ≤ c.loop-i.i = omega arith in
    record {
      front = gather-end c.args.block.word c.loop-i.n c.loop-i.i c.args.block.cells.now c.loop-i.out _ le c.loop-i.invariant.0;
      fits = omega arith;
      beyond = c.loop-i.invariant.2;
    }
