use Rattle.std.proofs.Common.{refl, ◌∙◌}
use Rattle.std.proofs.lemmas.Result.{IfOk-weaker}
use Rattle.column.specs.Columns.{offer_seen}
use Rattle.lines.specs.Held.{held}
use Rattle.stats.specs.Seen.{stats_seen}
use Rattle.colstats.proofs.Shown.{row_is}
use Rattle.colstats.proofs.texts.row_text.Goals as goal

pub returns : goal.returns
returns c =
    let stats = c.generate_opts-stats in
    IfOk-weaker c.format.result _ _
    (λ s e.
    e ∙ row_is c.args.n c.view-view.result.kind (held c.args.column.now) (offer_seen c.view-view.result)
    (stats_seen stats.result stats.new.table) _ _ _ c.view-view.ensures.same refl refl stats.ensures.stands
    c.in_ok-counts.ensures (c.in_ok-of_values.ensures stats.new.table stats.ensures.holds))
    c.format.ensures.ok
