use Rattle.std.proofs.Common.{◌≡◌, ◌-◌, ◌+◌, suc, ap, sym, ◌∙◌, arith}
use Rattle.calls.specs.Calls.{node_at}
use Rattle.bindscript.proofs.driver.node_at.Goals as goal

pub loop-preserved : goal.loop-preserved
loop-preserved c =
    let i = c.loop.counter in
    let n = c.args.number in
    let e : n - i ≡ suc (n - (i + 1)) = omega arith in
    ap (node_at (n - (i + 1))) c.after_node-rest.ensures.value ∙ sym (ap (λ k. node_at k c.loop.rest.now) e) ∙ c.loop.invariant
