use Rattle.std.proofs.Common.{◌^◌, ◌<◌, length, ap, ◌∙◌, arith}
use Rattle.packing.specs.Packing.{unpacked}
use Rattle.packing.proofs.Packed.{unpacked-front}
use Rattle.packing.proofs.Loaded.{loaded-none, load, give-cell, loaded-all}
use Rattle.packing.proofs.unpack.Goals as goal
use Rattle.packing.proofs.unpack.Goals.{then-ready-k, else-ready-k}

pub loop-c-preserved : goal.loop-c-preserved
loop-c-preserved c =
    let short : length c.args.bytes.now < 2 ^ 64 = omega arith in
    elim c.if-ready-k.branch [
      | then-ready-k w ↦ (
        give-cell (load c.loop-c.invariant.0 w.get_word.result w.get_word.ensures w.get_word.type_inv short _ w.saturating_add-pos.ensures)
            (omega arith) c.loop-c-test.true c.loop-c.auto.cells _ w.split_at-cell.ensures.low _ _ _ _ w.cells-is w.pos-is (w.acc-is ∙ w.split_at-cell.ensures.high) (omega (arith, w.ready-is)),
        omega (arith, w.ready-is, w.if-ready-k.true),
      )
      | else-ready-k w ↦ (
        give-cell c.loop-c.invariant.0
            (omega (arith, w.if-ready-k.false)) c.loop-c-test.true c.loop-c.auto.cells _ w.low_bits.ensures _ _ _ _ w.cells-is w.pos-is w.acc-is w.ready-is,
        omega (arith, w.ready-is, c.loop-c.invariant.1),
      )
    ]

pub returns : goal.returns
returns c =
    let value = loaded-all c.loop-c.invariant.0 (omega arith) ∙ loaded-none c.args.k c.args.bytes.now c.args.cells.now in
    record {
      value = value;
      back = λ xs rest l u e. value ∙ ap (unpacked c.args.k (length c.args.cells.now)) e ∙ unpacked-front c.args.k (length c.args.cells.now) xs rest l u;
    }
