use Rattle.std.proofs.Common.{◌+◌, ap, ◌∙◌}
use Rattle.stats.specs.Blocks.{filled_from, state_after}
use Rattle.stats.proofs.Bounds.{same-state}
use Rattle.stats.proofs.Fill.{changes-filled, last-filled}
use Rattle.stats.proofs.runs.LoopState.inner_loop_nullable.Goals as goal

pub returns : goal.returns
returns c =
    let s = c.args.self.now in
    let w = c.args.block.word in
    let xs = c.args.block.cells.now in
    let e = c.forward_fill.ensures ∙ ap (filled_from w 0 s.prev) c.copy_from_slice.ensures.after in
    c.inner_loop_nonnull.ensures ∙ ap (state_after s) e ∙ same-state _ _ _ _ (last-filled w 0 s.prev xs) (ap (λ n. s.runs + n) (changes-filled w 0 s.prev xs))
