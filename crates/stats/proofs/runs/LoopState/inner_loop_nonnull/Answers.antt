use Rattle.std.proofs.Common.{get_or, sym, refl, ap, ◌∙◌, arith}
use Rattle.std.proofs.lemmas.List.{take_all}
use Rattle.stats.specs.Blocks.{state_after}
use Rattle.stats.specs.declared.runs.LoopState.{LoopState}
use Rattle.stats.proofs.Bounds.{same-state, counted, counted-fits, last_or-more}
use Rattle.stats.proofs.runs.LoopState.inner_loop_nonnull.Goals as goal

pub push-requires : goal.push-requires
push-requires c =
    let f = counted-fits c.args.self.now.prev c.args.values.now c.loop-v.v-index c.loop-v-test.true in
    let runs = ap (λ (s : LoopState). s.runs) c.loop-v.invariant in
    record { fits = omega (arith, f, runs, c.requires.fits) }

pub loop-v-preserved : goal.loop-v-preserved
loop-v-preserved c =
    let s = c.args.self.now in
    let xs = c.args.values.now in
    let i = c.loop-v.v-index in
    let runs = ap (λ (s : LoopState). s.runs) c.loop-v.invariant in
    let prev = ap (λ (s : LoopState). s.prev) c.loop-v.invariant in
    same-state _ _ _ _
    (c.push.ensures.prev ∙ sym (last_or-more s.prev xs i c.loop-v-test.true))
    (counted s.prev s.runs xs i c.loop-v.self.runs c.push.new.self.runs c.loop-v.self.prev (get_or xs i 0) c.loop-v-test.true runs prev refl c.push.ensures.runs)

pub returns : goal.returns
returns c = c.loop-v.invariant ∙ ap (state_after c.args.self.now) (take_all c.loop-v.v-index c.args.values.now c.loop-v-test.false)
