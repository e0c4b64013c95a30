use Rattle.std.proofs.Common.{◌++◌, ap, ◌∙◌}
use Rattle.tree.specs.Trees.{walked}
use Rattle.tree.proofs.WalkLaws.{walk-flat}
use Rattle.tree.proofs.entries.Goals as goal

pub returns-clause-back : goal.returns-clause-back
returns-clause-back c =
    let levels = c.args.levels in
    λ n rest f h e.
    c.in_ok-walk.ensures
    ∙ (λ j. c.new-out.ensures.items j ++ walked levels 0 0 c.args.bytes.now)
    ∙ ap (walked levels 0 0) e
    ∙ walk-flat levels 0 0 n rest f h
