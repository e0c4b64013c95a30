use Rattle.std.proofs.Common.{◌/◌, ◌%◌, ◌^◌, ◌<◌, length, sym, ◌∙◌, arith}
use Rattle.std.proofs.lemmas.Bool.{eqb-true, eqb-false}
use Rattle.column.proofs.CleanLaws.{clean-value, clean-blank}
use Rattle.column.proofs.blocks.Block.clean_cells.Goals as goal
use Rattle.column.proofs.blocks.Block.clean_cells.Goals.{then-not-is_set, else-not-is_set}

pub loop-i-preserved : goal.loop-i-preserved
loop-i-preserved c =
    let w = c.args.self.now.word in
    let i = c.loop-i.i in
    let xs = c.args.self.now.cells.now in
    let b = w / 2 ^ i % 2 in
    let h : i < length xs = omega arith in
    let l : i < length c.loop-i.out = omega arith in
    elim c.if-not-is_set.branch [
      | then-not-is_set t ↦ clean-blank w i xs c.loop-i.out _ h l c.loop-i.invariant c.if-not-is_set.out (eqb-false b 1 (sym c.is_set.ensures ∙ t.if-not-is_set.true)) t.out-is
      | else-not-is_set t ↦ clean-value w i xs c.loop-i.out _ h l c.loop-i.invariant c.if-not-is_set.out (eqb-true b 1 (sym c.is_set.ensures ∙ t.if-not-is_set.false)) t.out-is
    ]
