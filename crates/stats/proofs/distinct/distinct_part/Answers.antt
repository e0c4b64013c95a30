use Rattle.std.proofs.Common.{cond, length, Some, None, sym, refl, ap, ◌∙◌, arith}
use Rattle.column.specs.Kinds.{number_of}
use Rattle.stats.specs.Stats.{distinct_of, tally}
use Rattle.stats.proofs.Together.{part-is}
use Rattle.stats.proofs.distinct.distinct_part.Goals as goal

pub returns-else-has_part : goal.returns-else-has_part
returns-else-has_part c =
    let xs = c.args.values.now in
    let k = number_of c.args.kind in
    let whole = Some (distinct_of (tally k xs)) in
    record {
      stands = λ rs e. sym (part-is c.args.want c.has_part.result k c.args.rows (length xs) rs xs e refl c.has_part.ensures ∙ ap (λ z. cond z whole None) c.if-has_part.false);
      few = omega arith;
      most = omega arith;
    }
