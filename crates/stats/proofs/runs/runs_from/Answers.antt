use Rattle.std.proofs.Common.{◌+◌, sym, ap, ◌∙◌}
use Rattle.column.specs.Columns.{seen, values}
use Rattle.stats.specs.Stats.{changes}
use Rattle.stats.specs.declared.runs.LoopState.{LoopState}
use Rattle.stats.proofs.Bounds.{runs-first}
use Rattle.stats.proofs.runs.runs_from.Goals as goal

pub returns : goal.returns
returns c =
    let vs = values (seen c.args.view) in
    let head = c.new-state.result.prev in
    ap (λ (s : LoopState). s.runs) c.count_runs.ensures ∙ ap (λ z. z + changes head vs) c.new-state.ensures.runs
    ∙ runs-first c.in-Some.first head vs c.new-state.ensures.prev (sym c.requires.first ∙ c.in-Some.is)
