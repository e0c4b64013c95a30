use Rattle.std.proofs.Common.{◌≡◌, ◌≤◌, ◌-◌, min, length, take, drop, sym, ap, ◌∙◌, subst, arith, rules}
use Rattle.column.specs.Columns.{Offer, cleaned, seen}
use Rattle.levels.specs.Plans.{working_memory}
use Rattle.calls.specs.Calls.{State, bound_in, fitting, bind_next}
use Rattle.calls.proofs.OpenLaws.{few-levels}
use Rattle.compressor.specs.Compressed.{setting, bytes_after}
use Rattle.binder.proofs.Settings.{granted}
use Rattle.binder.proofs.Writing.{taken-is, written-back, has-room}
use Rattle.binder.proofs.binding.Binder.write_column.Goals as goal

pub working_memory-requires-clause-levels : goal.working_memory-requires-clause-levels
working_memory-requires-clause-levels g c =
    let o = c.args.self.now.opening in
    few-levels _ (granted o.levels (g.met.B.Bank.all o.bank.schemes.now) g.met.D.Draws.within (o.unrefused g.D.Draws.source))

pub returns-clause-bytes : goal.returns-clause-bytes
returns-clause-bytes g c =
    let b = c.args.self.now in
    let set = setting (g.B.Bank.meanings b.opening.bank.schemes.now) g.D.Draws.source b.opening.levels in
    let s : State = record { count = b.count; used = b.used; bytes = c.args.bytes.now } in
    let o : Offer = record { kind = c.args.kind; cells = c.args.cells.now; words = c.args.words.now } in
    let sh = c.in_ok-view.ensures.inspected in
    let v = c.in_ok-view.view in
    let column : seen v ≡ cleaned o = ap cleaned sh.same in
    let rows : length v.cells.now ≡ length o.cells = ap (λ (x : Offer). length x.cells) sh.same in
    let few = c.if-self-ge-MAX_COLUMNS.false in
    let long = c.if-mem-working_memory.false in
    let wm = c.working_memory.ensures in
    let w = wm ∙ ap (working_memory b.opening.levels) (c.rows.ensures ∙ rows) in
    let enough : c.working_memory.result ≤ length c.args.mem.now = omega arith in
    let t = taken-is set s o (length c.args.mem.now) sh.unrefused (subst (λ x. x ≤ length c.args.mem.now) w enough) (omega arith) in
    let start = c.min-start.result in
    let rest = take (length c.args.bytes.now - start) (drop start c.args.bytes.now) in
    let es : start ≡ min b.used (length c.args.bytes.now) = search rules in
    written-back s start es (bound_in set (cleaned o)) c.compress.new.out (c.compress.ensures.bytes ∙ ap (λ x. bytes_after (fitting (length rest) (bound_in set x)) rest) column)
    ∙ ap (λ x. (bind_next s x).bytes) (sym t)

pub returns-clause-room : goal.returns-clause-room
returns-clause-room g c =
    let b = c.args.self.now in
    let set = setting (g.B.Bank.meanings b.opening.bank.schemes.now) g.D.Draws.source b.opening.levels in
    let s : State = record { count = b.count; used = b.used; bytes = c.args.bytes.now } in
    let few = c.if-self-ge-MAX_COLUMNS.false in
    let es : c.min-start.result ≡ min b.used (length c.args.bytes.now) = search rules in
    has-room s c.min-start.result es (bound_in set (seen c.in_ok-view.view)) c.compress.result c.compress.ensures.answer (omega arith)
