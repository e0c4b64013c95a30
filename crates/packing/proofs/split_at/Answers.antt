use Rattle.std.proofs.Common.{◌*◌, ◌%◌, ◌^◌, ap, ◌∙◌}
use Rattle.packing.proofs.Cuts.{cut-low, cut-high}
use Rattle.packing.proofs.split_at.Goals as goal

pub returns-clause-low : goal.returns-clause-low
returns-clause-low c =
    c.low_bits-low.ensures
    ∙ ap (λ n. n % 2 ^ c.args.s) c.from.ensures
    ∙ cut-low c.args.acc (c.args.v * 2 ^ c.args.fill) c.args.s c.requires.wide

pub returns-clause-high : goal.returns-clause-high
returns-clause-high c = cut-high c.args.acc c.args.v c.args.fill c.args.s c.requires.small c.requires.above
