use Rattle.std.proofs.Common.{◌∙◌}
use Rattle.column.specs.Kinds.{number_of}
use Rattle.std.proofs.lemmas.Result.{IfOk-weaker}
use Rattle.stats.specs.Seen.{stats_seen}
use Rattle.colstats.proofs.Shown.{value_row}
use Rattle.colstats.proofs.texts.value_fields.Goals as goal

pub returns : goal.returns
returns c = λ t h.
    IfOk-weaker c.format.result _ _
    (λ s e.
    e ∙ value_row (number_of c.args.kind) (stats_seen c.args.stats.now t)
    c.min.result c.max.result c.distinct_count.result c.unwrap_or-distinct.result c.most_frequent_value_and_count.result c.unwrap_or-value.result
    (λ z. c.if-value_count-eq0.false (c.value_count.ensures ∙ z))
    c.min.ensures c.max.ensures
    c.unwrap_or-distinct.ensures (c.distinct_count.ensures.stands t h)
    c.unwrap_or-value.ensures (c.most_frequent_value_and_count.ensures.stands t))
    c.format.ensures.ok
