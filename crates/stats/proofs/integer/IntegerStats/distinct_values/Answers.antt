use Rattle.std.proofs.Common.{◌≡◌, ◌-◌, take, ap, ◌∙◌, arith}
use Rattle.stats.specs.Seen.{pairs}
use Rattle.stats.proofs.Asked.{values_of}
use Rattle.stats.proofs.integer.IntegerStats.distinct_values.Goals as goal

pub returns : goal.returns
returns c =
    let s = c.args.self.now in
    let t = c.args.table.now in
    let e : c.pairs-n.result - 0 ≡ pairs s = omega (arith, c.pairs-n.ensures) in
    ap (λ z. take z t) e ∙ values_of s.distinct s.value_count t c.requires.holds
