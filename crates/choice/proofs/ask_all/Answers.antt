use Rattle.std.proofs.Common.{◌≡◌, ◌<◌, ◌≤◌, true, length, None, arith, rules}
use Rattle.column.specs.Columns.{seen}
use Rattle.column.specs.Kinds.{number_of}
use Rattle.scheme.specs.declared.estimate.CompressionEstimate.TheVariants.{Verdict}
use Rattle.scheme.specs.declared.estimate.EstimateVerdict.TheVariants.{Skip, AlwaysUse, Ratio}
use Rattle.scheme.specs.Banks.{at}
use Rattle.scheme.specs.Exclusion.{competes, eligible}
use Rattle.scheme.specs.Memory.{history_of, stats_in}
use Rattle.levels.specs.Choice.{asked}
use Rattle.choice.specs.Picks.{best_of, slots_of, deferred_of}
use Rattle.choice.proofs.Asking.{competes-at, able-here, turn-always, turns-done, kept_out, kept-skip, kept-ratio, kept-deferred}
use Rattle.choice.proofs.ask_all.Goals as goal
use Rattle.choice.proofs.ask_all.Goals.{then-is_eligible+in-Verdict-Skip, then-is_eligible+in-Verdict-Ratio, then-is_eligible+in-Deferred, else-is_eligible}

pub returns-in-Verdict-AlwaysUse : goal.returns-in-Verdict-AlwaysUse
returns-in-Verdict-AlwaysUse g c =
    let ms = g.B.Bank.meanings c.args.bank.now.schemes.now in
    let lt : c.loop-i.i < length ms = omega arith in
    let v = seen c.args.col.array in
    let t = stats_in c.args.col in
    let k = number_of c.args.col.array.kind in
    let h = history_of c.args.ctx.now in
    let f = c.args.ctx.now.is_sample in
    let i = c.loop-i.i in
    let e : true ≡ competes ms k h (at ms i) = competes-at ms k i c.cascade_history.ensures.history c.if-is_eligible.ensures in
    let ea : Verdict AlwaysUse ≡ (at ms i).answer v t h f = search rules in
    record {
      is = turn-always v t h f ms k i (deferred_of ms (slots_of c.loop-i.table)) (best_of ms c.loop-i.best) _ lt c.loop-i.invariant.left e ea;
      able = able-here ms k h i lt e;
    }

pub loop-i-preserved : goal.loop-i-preserved
loop-i-preserved g c =
    let ms = g.B.Bank.meanings c.args.bank.now.schemes.now in
    let lt : c.loop-i.i < length ms = omega arith in
    let v = seen c.args.col.array in
    let t = stats_in c.args.col in
    let k = number_of c.args.col.array.kind in
    let h = history_of c.args.ctx.now in
    let f = c.args.ctx.now.is_sample in
    let i = c.loop-i.i in
    let T = c.loop-i.table in
    let b = c.loop-i.best in
    let T2 = c.if-is_eligible.table in
    let b2 = c.if-is_eligible.best in
    let goal = asked v t h f (eligible ms k h) None in
    let eh = c.cascade_history.ensures.history in
    elim c.if-is_eligible.branch [
      | then-is_eligible+in-Verdict-Skip w ↦
          let ea : Verdict Skip ≡ (at ms i).answer v t h f = search rules in
          kept-skip v t h f ms k i T T2 b b2 goal lt c.loop-i.invariant (competes-at ms k i eh w.if-is_eligible.ensures) ea w.table-is w.best-is
      | then-is_eligible+in-Verdict-Ratio w ↦
          let e : true ≡ competes ms k h (at ms i) = competes-at ms k i eh w.if-is_eligible.ensures in
          let ea : Verdict (Ratio w.in-Verdict-Ratio.ratio) ≡ (at ms i).answer v t h f = search rules in
          kept-ratio v t h f ms k i T T2 b b2 goal lt c.loop-i.invariant w.in-Verdict-Ratio.ratio w.better_of-best.result e ea w.table-is w.best-is
          (w.better_of-best.ensures.is ms) (w.better_of-best.ensures.able ms k (able-here ms k h i lt e) c.loop-i.invariant.leader)
      | then-is_eligible+in-Deferred w ↦
          kept-deferred v t h f ms k i T T2 b b2 goal lt c.loop-i.invariant w.in-Deferred.estimate w.push.new.self (competes-at ms k i eh w.if-is_eligible.ensures) w.in-Deferred.ensures
          w.table-is w.push.ensures w.best-is
      | else-is_eligible w ↦ kept_out v t h f ms k i T T2 b b2 goal lt c.loop-i.invariant (competes-at ms k i eh w.if-is_eligible.ensures) w.table-is w.best-is
    ]

pub returns : goal.returns
returns g c =
    let ms = g.B.Bank.meanings c.args.bank.now.schemes.now in
    let ge : length ms ≤ c.loop-i.i = omega arith in
    let v = seen c.args.col.array in
    let t = stats_in c.args.col in
    let k = number_of c.args.col.array.kind in
    let h = history_of c.args.ctx.now in
    let f = c.args.ctx.now.is_sample in
    let goal = asked v t h f (eligible ms k h) None in
    let T = c.loop-i.table in
    let inv = c.loop-i.invariant in
    record {
      is = turns-done v t h f ms k c.loop-i.i (deferred_of ms (slots_of T)) (best_of ms c.loop-i.best) goal ge inv.left;
      able = (inv.leader, inv.slots, omega arith);
    }
