use Rattle.std.proofs.Common.{sym, ap, ◌∙◌, arith}
use Rattle.stats.specs.Blocks.{kept_from, state_after}
use Rattle.stats.proofs.Bounds.{state-none}
use Rattle.stats.proofs.Fill.{kept-none, kept-all}
use Rattle.stats.proofs.runs.LoopState.inner_loop.Goals as goal

pub returns-in-0 : goal.returns-in-0
returns-in-0 c =
    let s = c.args.self.now in
    let xs = c.args.block.cells.now in
    let e = ap (λ w. kept_from w 0 xs) c.in-0.is ∙ kept-none 0 xs in
    state-none s ∙ sym (ap (state_after s) e)

pub returns-in-18446744073709551615 : goal.returns-in-18446744073709551615
returns-in-18446744073709551615 c =
    let xs = c.args.block.cells.now in
    let e = ap (λ w. kept_from w 0 xs) c.in-18446744073709551615.is ∙ kept-all 0 xs (omega (arith, c.args.block.few)) in
    c.inner_loop_nonnull.ensures ∙ sym (ap (state_after c.args.self.now) e)
