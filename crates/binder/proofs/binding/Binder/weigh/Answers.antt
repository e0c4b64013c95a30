use Rattle.std.proofs.Common.{arith}
use Rattle.calls.proofs.OpenLaws.{few-levels}
use Rattle.binder.proofs.Settings.{granted}
use Rattle.binder.proofs.binding.Binder.weigh.Goals as goal

pub overflow_cast-self : goal.overflow_cast-self
overflow_cast-self g c =
    let o = c.args.self.now.opening in
    let l = few-levels _ (granted o.levels (g.met.B.Bank.all o.bank.schemes.now) g.met.D.Draws.within (o.unrefused g.D.Draws.source)) in
    omega arith
