use Rattle.std.proofs.Common.{◌+◌, ◌*◌, ◌-◌}
use Rattle.column.specs.Columns.{seen}
use Rattle.column.specs.Kinds.{number_of}
use Rattle.scheme.specs.Memory.{history_of, stats_in}
use Rattle.levels.specs.Choice.{decided}
use Rattle.levels.specs.Levels.{levels, late}
use Rattle.choice.specs.Picks.{best_of, deferred_of, slots_of}
use Rattle.cascade.proofs.Deciding.{Kept}
use Rattle.cascade.proofs.first_pass.+measuring.Given as goal

-- a level's functions in the order in which they call each other, above all that the level below calls
abbrev pub decreases-measure : goal.decreases-measure
decreases-measure g l = 7 * l.ctx.now.allowed_cascading + 6

abbrev pub decreases-compete : goal.decreases-compete
decreases-compete g l = 7 * l.ctx.now.allowed_cascading + 5

abbrev pub decreases-choose_best_scheme : goal.decreases-choose_best_scheme
decreases-choose_best_scheme g l = 7 * l.ctx.now.allowed_cascading + 4

abbrev pub decreases-decide : goal.decreases-decide
decreases-decide g l = 7 * l.ctx.now.allowed_cascading + 3

abbrev pub decreases-late : goal.decreases-late
decreases-late g l = 7 * l.ctx.now.allowed_cascading + 2

abbrev pub decreases-score : goal.decreases-score
decreases-score g l = 7 * l.ctx.now.allowed_cascading + 1

abbrev pub decreases-measure_scheme : goal.decreases-measure_scheme
decreases-measure_scheme g l = 7 * l.ctx.now.allowed_cascading

-- those that still wait come to the answer
abbrev pub invariant-decide-loop-slot : goal.invariant-decide-loop-slot
invariant-decide-loop-slot g l =
    let ms = g.B.Bank.meanings l.bank.schemes.now in
    let c = seen l.col.array in
    let h = history_of l.ctx in
    let L = late g.D.Draws.source (levels ms g.D.Draws.source (l.ctx.allowed_cascading - 1)) c (stats_in l.col) h l.ctx.is_sample in
    Kept L ms (number_of l.col.array.kind) (slots_of l.waiting) l.slot-index l.best (decided L (deferred_of ms (slots_of l.waiting)) (best_of ms l.fn.best))
