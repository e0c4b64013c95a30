use Rattle.std.proofs.Common.{length, sym, ap, ◌∙◌, arith}
use Rattle.column.specs.Columns.{seen}
use Rattle.column.proofs.ViewLaws.{view-rows}
use Rattle.calls.specs.Calls.{fitting}
use Rattle.cascade.proofs.Scheming.{kid}
use Rattle.calls.specs.Openings.{Granted}
use Rattle.calls.proofs.OpenLaws.{few-levels, granted-bank}
use Rattle.compressor.specs.Compressed.{setting, bytes_after}
use Rattle.compressor.proofs.Writing.{planned, fits, places-eight, room-of}
use Rattle.compressor.proofs.both_passes.write_node.Goals as goal

pub measure-requires-clause-deep : goal.measure-requires-clause-deep
measure-requires-clause-deep g c =
    let o = c.args.opening.now in
    let set = setting (g.B.Bank.meanings o.bank.schemes.now) g.D.Draws.source o.levels in
    let granted : Granted set = record { unrefused = o.unrefused g.D.Draws.source; keep = record { bank = g.met.B.Bank.all o.bank.schemes.now; source = g.met.D.Draws.within } } in
    let l = few-levels set granted in
    let e = c.new-ctx.ensures.levels in
    let h = ap length c.new-ctx.ensures.history in
    omega arith

pub measure-requires-clause-plan : goal.measure-requires-clause-plan
measure-requires-clause-plan g c =
    let o = c.args.opening.now in
    let set = setting (g.B.Bank.meanings o.bank.schemes.now) g.D.Draws.source o.levels in
    let granted : Granted set = record { unrefused = o.unrefused g.D.Draws.source; keep = record { bank = g.met.B.Bank.all o.bank.schemes.now; source = g.met.D.Draws.within } } in
    let l = few-levels set granted in
    let e = c.new-ctx.ensures.levels in
    let p = places-eight c.new-ctx.result.allowed_cascading (omega arith) in
    let r = c.requires.plan in
    omega arith

pub emit-requires-clause-opened : goal.emit-requires-clause-opened
emit-requires-clause-opened g c =
    let o = c.args.opening.now in
    let set = setting (g.B.Bank.meanings o.bank.schemes.now) g.D.Draws.source o.levels in
    granted-bank set (record { unrefused = o.unrefused g.D.Draws.source; keep = record { bank = g.met.B.Bank.all o.bank.schemes.now; source = g.met.D.Draws.within } })

pub emit-requires-clause-planned : goal.emit-requires-clause-planned
emit-requires-clause-planned g c =
    let o = c.args.opening.now in
    let v = c.args.array.view in
    let ms = g.B.Bank.meanings o.bank.schemes.now in
    let kp = g.met.B.Bank.all o.bank.schemes.now in
    let d = g.D.Draws.source in
    let set = setting ms d o.levels in
    let granted : Granted set = record { unrefused = o.unrefused d; keep = record { bank = kp; source = g.met.D.Draws.within } } in
    let x = c.new-ctx.ensures in
    let k = kid ms d (seen v) x.levels x.history x.sample kp (few-levels set granted) c.args.array.clean.clean c.in_ok-size.size c.measure.new.plan c.in_ok-size.ensures.size c.in_ok-size.ensures.plan in
    let w = ap (λ s. s.whole) k.size in
    let n = c.if-out-size.false in
    let m = c.measure.auto.mem in
    let rr = c.requires.room in
    let vr = view-rows v in
    (k.node, planned set granted (seen v) c.args.array.clean.clean k.node k.is c.measure.new.plan k.spelt (length c.measure.new.mem) (length c.args.out.now) (room-of o.levels vr rr m) (omega arith))

pub returns-clause-bytes : goal.returns-clause-bytes
returns-clause-bytes g c =
    let o = c.args.opening.now in
    let v = c.args.array.view in
    let ms = g.B.Bank.meanings o.bank.schemes.now in
    let kp = g.met.B.Bank.all o.bank.schemes.now in
    let d = g.D.Draws.source in
    let set = setting ms d o.levels in
    let granted : Granted set = record { unrefused = o.unrefused d; keep = record { bank = kp; source = g.met.D.Draws.within } } in
    let x = c.new-ctx.ensures in
    let k = kid ms d (seen v) x.levels x.history x.sample kp (few-levels set granted) c.args.array.clean.clean c.in_ok-size.size c.measure.new.plan c.in_ok-size.ensures.size c.in_ok-size.ensures.plan in
    let w = ap (λ s. s.whole) k.size in
    let n = c.if-out-size.false in
    let m = c.measure.auto.mem in
    let rr = c.requires.room in
    let vr = view-rows v in
    let p = planned set granted (seen v) c.args.array.clean.clean k.node k.is c.measure.new.plan k.spelt (length c.measure.new.mem) (length c.args.out.now) (room-of o.levels vr rr m) (omega arith) in
    let z = length c.args.out.now in
    (c.emit.ensures k.node p).bytes ∙ ap (λ b. bytes_after b c.args.out.now) (sym (fits k.node z (omega arith)) ∙ ap (fitting z) (sym k.is))
