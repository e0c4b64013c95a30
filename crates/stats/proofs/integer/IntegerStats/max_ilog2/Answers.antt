use Rattle.std.proofs.Common.{◌≡◌, ◌%◌, ◌^◌, ap, ◌∙◌}
use Rattle.column.specs.Kinds.{width, number_of}
use Rattle.stats.proofs.Asked.{log-at}
use Rattle.stats.proofs.integer.IntegerStats.max_ilog2.Goals as goal

pub returns-else-max-eq0 : goal.returns-else-max-eq0
returns-else-max-eq0 c =
    let s = c.args.self.now in
    let high = s.max in
    let bits = width (number_of s.kind) in
    let at : c.low_bits-max.result ≡ high % 2 ^ bits = c.low_bits-max.ensures ∙ ap (λ z. z % 2 ^ c.width.result) (c.from.ensures ∙ c.max.ensures) ∙ ap (λ z. high % 2 ^ z) c.width.ensures in
    let both = log-at c.low_bits-max.result (high % 2 ^ bits) c.ilog2.result at c.ilog2.ensures.power_le c.ilog2.ensures.next_power_gt c.ilog2.ensures.bound in
    record { stands = both.0; floor = both.1 }
