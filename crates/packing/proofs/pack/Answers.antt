use Rattle.std.proofs.Common.{◌≡◌, ◌+◌, ◌/◌, ap, ◌∙◌, arith}
use Rattle.packing.specs.Packing.{digits, written_at}
use Rattle.packing.proofs.Held.{held_none, take-cell, held-room, put_word, keep-held, held_all}
use Rattle.packing.proofs.pack.Goals as goal
use Rattle.packing.proofs.pack.Goals.{then-fill-ge64, else-fill-ge64}

pub put-requires : goal.put-requires
put-requires c =
    let h = take-cell c.loop-c.invariant.0 c.loop-c-test.true _ c.low_bits.ensures in
    let r = held-room h (omega arith) in
    record { few = omega arith; room = omega (arith, r) }

pub overflow_add-at : goal.overflow_add-at
overflow_add-at c =
    let h = take-cell c.loop-c.invariant.0 c.loop-c-test.true _ c.low_bits.ensures in
    let r = held-room h (omega arith) in
    omega (arith, r)

pub loop-c-preserved : goal.loop-c-preserved
loop-c-preserved c =
    let h = take-cell c.loop-c.invariant.0 c.loop-c-test.true _ c.low_bits.ensures in
    elim c.if-fill-ge64.branch [
      | then-fill-ge64 w ↦ (
        put_word h (omega arith) (omega arith) w.if-fill-ge64.true _ _ _ _ (w.out-is ∙ w.put.ensures.bytes ∙ ap (λ v. written_at c.loop-c.at (digits 256 8 v) c.loop-c.out) c.split_at-low.ensures.low) w.at-is (w.acc-is ∙ c.split_at-low.ensures.high) w.fill-is,
        omega (arith, w.fill-is),
      )
      | else-fill-ge64 w ↦ (
        keep-held h (omega (arith, w.if-fill-ge64.false)) _ _ _ _ w.out-is w.at-is (w.acc-is ∙ c.split_at-low.ensures.low) w.fill-is,
        omega (arith, w.fill-is),
      )
    ]

pub returns : goal.returns
returns c =
    let n : c.div_ceil.result ≡ (c.loop-c.fill + 7) / 8 = omega (arith, c.div_ceil.ensures) in
    c.put-2.ensures.bytes
    ∙ ap (λ m. written_at c.loop-c.at (digits 256 m c.loop-c.acc) c.loop-c.out) n
    ∙ held_all c.loop-c.invariant.0 (omega arith) ∙ held_none c.args.k c.args.cells.now c.args.out.now
