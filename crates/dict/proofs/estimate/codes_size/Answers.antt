use Rattle.std.proofs.Common.{◌≡◌, ◌+◌, ◌*◌, min, ap, ◌∙◌, mul_comm, mul-le-mul_left, arith}
use Rattle.stats.specs.Stats.{quotient}
use Rattle.dict.proofs.VerdictLaws.{divided}
use Rattle.dict.proofs.estimate.codes_size.Goals as goal

pub returns : goal.returns
returns c =
    let b = c.args.bits in
    let n = c.args.values in
    let runs : c.unwrap_or-runs.result ≡ quotient n c.args.average =
    divided n c.args.average c.unwrap_or-runs.result c.checked_div.result c.checked_div.ensures c.unwrap_or-runs.ensures in
    let each : c.size.result ≡ b * n = c.size.ensures ∙ mul_comm n b in
    let ends : c.size-2.result ≡ (b + 32) * quotient n c.args.average = c.size-2.ensures ∙ ap (λ r. r * (b + 32)) runs ∙ mul_comm _ (b + 32) in
    let most = mul-le-mul_left n c.requires.bits in
    record { value = c.min.ensures ∙ (λ i. min (each i) (ends i)); small = omega (arith, c.min.ensures, c.size.ensures) }
