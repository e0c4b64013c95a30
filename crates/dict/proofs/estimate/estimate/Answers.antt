use Rattle.std.proofs.Common.{◌+◌, ◌*◌, ◌/◌, ◌^◌, ◌≤◌, ◌||◌, eqb, ltb, sym, ap, ◌∙◌, mul-le-mul, arith}
use Rattle.column.specs.Kinds.{number_of}
use Rattle.packing.specs.Packing.{bit_length}
use Rattle.column.proofs.InspectLaws.{kind-few}
use Rattle.node.proofs.WidthLaws.{width-most}
use Rattle.scheme.specs.Scores.{ratio_of}
use Rattle.dict.specs.Dict.{codes_size}
use Rattle.dict.proofs.VerdictLaws.{few, not_more}
use Rattle.dict.proofs.estimate.estimate.Goals as goal

pub codes_size-codes-requires : goal.codes_size-codes-requires
codes_size-codes-requires c =
    let m = not_more c.value_count-values.result c.in-Some.distinct (sym c.if-is_useless.ensures) in
    record { bits = c.bit_length.ensures.least 32 (omega arith) }

pub overflow_add-size : goal.overflow_add-size
overflow_add-size c =
    let w = width-most (number_of c.args.kind) (kind-few c.args.kind) in
    let b : c.width-width.result ≤ 64 = omega (arith, c.width-width.ensures) in
    let m = not_more c.value_count-values.result c.in-Some.distinct (sym c.if-is_useless.ensures) in
    let d : c.in-Some.distinct ≤ 2 ^ 32 = omega arith in
    let most = mul-le-mul d b in
    omega (arith, c.size-2.ensures, c.codes_size-codes.ensures.small)

pub returns : goal.returns
returns c t h =
    let n = c.value_count-values.ensures in
    let m = c.in-Some.distinct in
    let w = c.width-width.ensures in
    let before = c.size.ensures ∙ (λ i. n i * w i) in
    let after = c.size-2.ensures ∙ (λ i. m * w i) in
    let codes = c.codes_size-codes.ensures.value ∙ (λ i. codes_size ((c.bit_length.ensures.value ∙ ap bit_length c.from.ensures) i) (n i) (c.average_run_length.ensures i)) in
    few _ _ _ m _ c.ratio.result (c.in-Some.ensures.stands t h)
    (ap (λ x. eqb x 0 || ltb (x / 2) m) (sym n) ∙ sym c.if-is_useless.ensures)
    (c.ratio.ensures ∙ (λ i. ratio_of (before i) (after i + codes i)))
