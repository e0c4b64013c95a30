use Rattle.std.proofs.Common.{◌≡◌, ◌+◌, ◌-◌, take, drop, ap, ◌∙◌, arith}
use Rattle.stats.specs.Seen.{pairs}
use Rattle.stats.proofs.Asked.{counts_of}
use Rattle.stats.proofs.integer.IntegerStats.distinct_counts.Goals as goal

pub returns : goal.returns
returns c =
    let s = c.args.self.now in
    let t = c.args.table.now in
    let n = s.value_count in
    let e : n + c.pairs.result - n ≡ pairs s = omega (arith, c.pairs.ensures) in
    ap (λ z. take z (drop n t)) e ∙ counts_of s.distinct n t c.requires.holds
