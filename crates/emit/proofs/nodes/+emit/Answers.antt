use Rattle.std.proofs.Common.{◌+◌, ◌-◌, ◌≤◌, length, take, drop, sym, refl, ap, ◌∙◌, subst, arith}
use borrow.Rule.Slice.PartMut.{put_mid}
use Rattle.std.proofs.lemmas.List.{take_rest, length-drop}
use Rattle.packing.specs.Packing.{written}
use Rattle.column.specs.Columns.{seen}
use Rattle.column.proofs.ViewLaws.{view-rows}
use Rattle.node.specs.Nodes.{children_of}
use Rattle.node.proofs.NodeBytes.{fit-whole}
use Rattle.emit.specs.declared.nodes.Written.{Written}
use Rattle.emit.specs.Emitted.{Emitted, AllEmitted}
use Rattle.children.specs.Apart.{places_for}
use Rattle.children.proofs.Storing.{parted}
use Rattle.emit.proofs.Forms.{form-byte, plain-is, constant-is, blank-is, plain-room, constant-room, blank-room, scheme-there, scheme-is}
use Rattle.emit.proofs.Bytes.{length-put, one-emitted, two-emitted, over-closed}
use Rattle.emit.proofs.Plan.{named-some}
use Rattle.emit.proofs.Parting.{payload-is, payload-in, head-is, ends, few, only-in, both-in, second-planned, behind}
use Rattle.emit.proofs.nodes.+emit.Goals as goal

-- ---- by the form

pub emit-overflow_cast-form : goal.emit-overflow_cast-form
emit-overflow_cast-form g t c = let b = form-byte c.requires.opened c.requires.planned.1 in omega arith

pub emit-emit_plain-requires : goal.emit-emit_plain-requires
emit-emit_plain-requires g t c = plain-room c.requires.opened c.requires.planned.1 c.if-form-eq-PLAIN.true

pub emit-returns-then-form-eq-PLAIN : goal.emit-returns-then-form-eq-PLAIN
emit-returns-then-form-eq-PLAIN g t c =
    λ n p. subst (λ x. Emitted x c.emit_plain.result c.args.out.now c.emit_plain.new.out) (sym (plain-is c.requires.opened p c.if-form-eq-PLAIN.true)) c.emit_plain.ensures

pub emit-emit_constant-requires-clause-one : goal.emit-emit_constant-requires-clause-one
emit-emit_constant-requires-clause-one g t c = (constant-is c.requires.opened c.requires.planned.1 c.if-form-eq-CONSTANT.true).0

pub emit-emit_constant-requires-clause-room : goal.emit-emit_constant-requires-clause-room
emit-emit_constant-requires-clause-room g t c = constant-room c.requires.opened c.requires.planned.1 c.if-form-eq-CONSTANT.true

pub emit-returns-then-form-eq-CONSTANT : goal.emit-returns-then-form-eq-CONSTANT
emit-returns-then-form-eq-CONSTANT g t c =
    λ n p. subst (λ x. Emitted x c.emit_constant.result c.args.out.now c.emit_constant.new.out) (sym (constant-is c.requires.opened p c.if-form-eq-CONSTANT.true).1) c.emit_constant.ensures

pub emit-emit_blank-requires : goal.emit-emit_blank-requires
emit-emit_blank-requires g t c = record { sound = c.args.array.sound; room = blank-room c.requires.opened c.requires.planned.1 c.if-form-eq-BLANK.true }

pub emit-returns-then-form-eq-BLANK : goal.emit-returns-then-form-eq-BLANK
emit-returns-then-form-eq-BLANK g t c =
    λ n p. subst (λ x. Emitted x c.emit_blank.result c.args.out.now c.emit_blank.new.out) (sym (blank-is c.requires.opened p c.if-form-eq-BLANK.true)) c.emit_blank.ensures

pub emit-unreachable-requires : goal.emit-unreachable-requires
emit-unreachable-requires g t c =
    scheme-there c.requires.opened c.requires.planned.1 c.if-form-eq-PLAIN.false c.if-form-eq-CONSTANT.false c.if-form-eq-BLANK.false (sym c.find.ensures.is ∙ c.in_default.is)

pub emit-emit_scheme-requires : goal.emit-emit_scheme-requires
emit-emit_scheme-requires g t c κs within =
    let m = c.decreases in
    let p =
    scheme-is c.requires.opened c.requires.planned.1 c.if-form-eq-PLAIN.false c.if-form-eq-CONSTANT.false c.if-form-eq-BLANK.false c.in-Some.number (sym c.find.ensures.is ∙ c.in-Some.is) in
    (omega arith, (within, (c.requires.opened, (p.of.able, (c.requires.planned.0, p)))))

pub emit-returns : goal.emit-returns
emit-returns g t c =
    λ n p. c.emit_scheme.ensures n
    (scheme-is c.requires.opened p c.if-form-eq-PLAIN.false c.if-form-eq-CONSTANT.false c.if-form-eq-BLANK.false c.in-Some.number (sym c.find.ensures.is ∙ c.in-Some.is))

-- ---- children

pub emit_children-emit-requires : goal.emit_children-emit-requires
emit_children-emit-requires g t c κs within =
    let m = c.decreases in
    let a = only-in c.in-One.is c.requires.planned.0 c.requires.planned.1 in
    (omega arith, (within, (c.requires.opened, (a.node, a.planned))))

pub emit_children-returns-in-One : goal.emit_children-returns-in-One
emit_children-returns-in-One g t c =
    λ ns p.
    let a = only-in c.in-One.is ns p in
    subst (λ x. AllEmitted x c.emit.result c.args.out.now c.emit.new.out) (sym a.is) (one-emitted a.node c.emit.result c.args.out.now c.emit.new.out (c.emit.ensures a.node a.planned))

pub emit_children-emit-first-requires : goal.emit_children-emit-first-requires
emit_children-emit-first-requires g t c κs within =
    let m = c.decreases in
    let a = both-in c.in-Two.is c.requires.planned.0 c.requires.planned.1 in
    (omega arith, (within, (c.requires.opened, (a.left, a.first))))

pub emit_children-offset_bounds-plan-first : goal.emit_children-offset_bounds-plan-first
emit_children-offset_bounds-plan-first g t c =
    let a = both-in c.in-Two.is c.requires.planned.0 c.requires.planned.1 in
    let e = c.emit-first.ensures a.left a.first in
    let k = e.nodes in
    let s0 = a.small.0 in
    let s2 = a.small.2 in
    omega arith

pub emit_children-slice_bounds-emit-count : goal.emit_children-slice_bounds-emit-count
emit_children-slice_bounds-emit-count g t c =
    let a = both-in c.in-Two.is c.requires.planned.0 c.requires.planned.1 in
    let k = (c.emit-first.ensures a.left a.first).nodes in
    let q = a.plan in
    omega arith

pub emit_children-slice_bounds-emit-start : goal.emit_children-slice_bounds-emit-start
emit_children-slice_bounds-emit-start g t c =
    let a = both-in c.in-Two.is c.requires.planned.0 c.requires.planned.1 in
    let k = (c.emit-first.ensures a.left a.first).nodes in
    let q = a.plan in
    let h : c.emit-first.result.nodes ≤ length c.args.plan.now = omega arith in
    h

pub emit_children-slice_bounds-emit-count-in-Two : goal.emit_children-slice_bounds-emit-count-in-Two
emit_children-slice_bounds-emit-count-in-Two g t c =
    let a = both-in c.in-Two.is c.requires.planned.0 c.requires.planned.1 in
    let w = (c.emit-first.ensures a.left a.first).whole in
    let b = a.bytes in
    let l = c.emit-first.auto.out in
    omega arith

pub emit_children-slice_bounds-emit-start-in-Two : goal.emit_children-slice_bounds-emit-start-in-Two
emit_children-slice_bounds-emit-start-in-Two g t c =
    let a = both-in c.in-Two.is c.requires.planned.0 c.requires.planned.1 in
    let w = (c.emit-first.ensures a.left a.first).whole in
    let b = a.bytes in
    let l = c.emit-first.auto.out in
    let h : c.emit-first.result.whole ≤ length c.emit-first.new.out = omega arith in
    h

pub emit_children-emit-second-requires : goal.emit_children-emit-second-requires
emit_children-emit-second-requires g t c κs within =
    let m = c.decreases in
    let a = both-in c.in-Two.is c.requires.planned.0 c.requires.planned.1 in
    let e = c.emit-first.ensures a.left a.first in
    let lo = c.emit-first.auto.out in
    let lm = c.emit-first.auto.mem in
    let r = c.emit-first.result in
    let q = ap length (take_rest c.args.plan.now r.nodes) in
    let l = length-drop r.nodes c.args.plan.now in
    (omega arith, (within, (c.requires.opened, (a.right, second-planned a r c.emit-first.new.out _ e.nodes e.whole (omega arith) (omega arith)))))

pub emit_children-overflow_add-result : goal.emit_children-overflow_add-result
emit_children-overflow_add-result g t c =
    let a = both-in c.in-Two.is c.requires.planned.0 c.requires.planned.1 in
    let e = c.emit-first.ensures a.left a.first in
    let lo = c.emit-first.auto.out in
    let lm = c.emit-first.auto.mem in
    let f = c.emit-second.ensures a.right (second-planned a c.emit-first.result c.emit-first.new.out _ e.nodes e.whole (omega arith) (omega arith)) in
    let w0 = e.whole in
    let w1 = f.whole in
    let s0 = a.small.0 in
    let s1 = a.small.1 in
    omega arith

pub emit_children-overflow_add-result-in-Two : goal.emit_children-overflow_add-result-in-Two
emit_children-overflow_add-result-in-Two g t c =
    let a = both-in c.in-Two.is c.requires.planned.0 c.requires.planned.1 in
    let e = c.emit-first.ensures a.left a.first in
    let lo = c.emit-first.auto.out in
    let lm = c.emit-first.auto.mem in
    let f = c.emit-second.ensures a.right (second-planned a c.emit-first.result c.emit-first.new.out _ e.nodes e.whole (omega arith) (omega arith)) in
    let k0 = e.nodes in
    let k1 = f.nodes in
    let s0 = a.small.0 in
    let s1 = a.small.1 in
    let s2 = a.small.2 in
    let s3 = a.small.3 in
    omega arith

pub emit_children-returns-in-Two : goal.emit_children-returns-in-Two
emit_children-returns-in-Two g t c =
    λ ns p.
    let a = both-in c.in-Two.is ns p in
    let e = c.emit-first.ensures a.left a.first in
    let lo = c.emit-first.auto.out in
    let lm = c.emit-first.auto.mem in
    let r0 = c.emit-first.result in
    let r1 = c.emit-second.result in
    let r : Written = record { whole = r0.whole + r1.whole; nodes = r0.nodes + r1.nodes } in
    let o1 = c.emit-first.new.out in
    let f = c.emit-second.ensures a.right (second-planned a r0 o1 _ e.nodes e.whole (omega arith) (omega arith)) in
    subst (λ x. AllEmitted x r c.args.out.now (put_mid r0.whole (length o1 - r0.whole) o1 c.emit-second.new.out)) (sym a.is)
    (two-emitted a.left a.right r0 r1 r c.args.out.now o1 c.emit-second.new.out e f refl refl)

-- ---- a scheme's node

pub emit_scheme-emit_children-below-requires : goal.emit_scheme-emit_children-below-requires
emit_scheme-emit_children-below-requires g t c κs within =
    let m = c.decreases in
    let p = c.requires.planned.1 in
    let s = c.args.bank.now.schemes.now in
    let v = c.args.array.view in
    let a = parted (g.B.Bank.meanings s) (g.met.B.Bank.all s) (seen v) c.args.array.clean.clean c.args.number c.requires.able c.in-Ok.apart c.in-Ok.ensures in
    let o = length-put 16 c.args.out.now c.payload_at.new.out c.payload_at.auto.out in
    let r = view-rows v in
    let k = c.rows-rows.ensures in
    let w = c.places_for.ensures in
    let b = c.split_at_mut-places.ensures.back_len in
    let m0 = c.take_apart.auto.mem in
    let m1 = c.payload_at.auto.mem in
    let left : length c.args.mem.now - places_for (length (seen v).rows) ≤ length c.payload_at.new.mem = omega arith in
    let l = named-some c.requires.planned.0 c.args.plan.now p.named in
    let q = ap length (take_rest c.args.plan.now 1) in
    let d = length-drop 1 c.args.plan.now in
    (omega arith, (within, (c.requires.opened, (children_of c.requires.planned.0, behind p a _ _ o left))))

pub emit_scheme-write_head-requires-clause-room : goal.emit_scheme-write_head-requires-clause-room
emit_scheme-write_head-requires-clause-room g t c =
    let p = c.requires.planned.1 in
    let s = c.args.bank.now.schemes.now in
    let v = c.args.array.view in
    let a = parted (g.B.Bank.meanings s) (g.met.B.Bank.all s) (seen v) c.args.array.clean.clean c.args.number c.requires.able c.in-Ok.apart c.in-Ok.ensures in
    let o = length-put 16 c.args.out.now c.payload_at.new.out c.payload_at.auto.out in
    let r = view-rows v in
    let k = c.rows-rows.ensures in
    let w = c.places_for.ensures in
    let b = c.split_at_mut-places.ensures.back_len in
    let m0 = c.take_apart.auto.mem in
    let m1 = c.payload_at.auto.mem in
    let left : length c.args.mem.now - places_for (length (seen v).rows) ≤ length c.payload_at.new.mem = omega arith in
    let f = (c.emit_children-below.ensures (children_of c.requires.planned.0) (behind p a _ _ o left)).whole in
    let o1 = put_mid 16 (length c.args.out.now - 16) c.args.out.now c.payload_at.new.out in
    let o2 = length-put (16 + c.in-Ok.apart.payload) o1 c.emit_children-below.new.out c.emit_children-below.auto.out in
    let e = ends p a in
    let z = p.bytes in
    omega arith

pub emit_scheme-write_head-requires-clause-whole : goal.emit_scheme-write_head-requires-clause-whole
emit_scheme-write_head-requires-clause-whole g t c =
    let p = c.requires.planned.1 in
    let s = c.args.bank.now.schemes.now in
    let v = c.args.array.view in
    let a = parted (g.B.Bank.meanings s) (g.met.B.Bank.all s) (seen v) c.args.array.clean.clean c.args.number c.requires.able c.in-Ok.apart c.in-Ok.ensures in
    let o = length-put 16 c.args.out.now c.payload_at.new.out c.payload_at.auto.out in
    let r = view-rows v in
    let k = c.rows-rows.ensures in
    let w = c.places_for.ensures in
    let b = c.split_at_mut-places.ensures.back_len in
    let m0 = c.take_apart.auto.mem in
    let m1 = c.payload_at.auto.mem in
    let left : length c.args.mem.now - places_for (length (seen v).rows) ≤ length c.payload_at.new.mem = omega arith in
    let f = (c.emit_children-below.ensures (children_of c.requires.planned.0) (behind p a _ _ o left)).whole in
    let e = ends p a in
    let z = fit-whole c.requires.planned.0 p.fit in
    omega arith

pub emit_scheme-write_head-requires-clause-nodes : goal.emit_scheme-write_head-requires-clause-nodes
emit_scheme-write_head-requires-clause-nodes g t c =
    let p = c.requires.planned.1 in
    let s = c.args.bank.now.schemes.now in
    let v = c.args.array.view in
    let a = parted (g.B.Bank.meanings s) (g.met.B.Bank.all s) (seen v) c.args.array.clean.clean c.args.number c.requires.able c.in-Ok.apart c.in-Ok.ensures in
    let o = length-put 16 c.args.out.now c.payload_at.new.out c.payload_at.auto.out in
    let r = view-rows v in
    let k = c.rows-rows.ensures in
    let w = c.places_for.ensures in
    let b = c.split_at_mut-places.ensures.back_len in
    let m0 = c.take_apart.auto.mem in
    let m1 = c.payload_at.auto.mem in
    let left : length c.args.mem.now - places_for (length (seen v).rows) ≤ length c.payload_at.new.mem = omega arith in
    let f = (c.emit_children-below.ensures (children_of c.requires.planned.0) (behind p a _ _ o left)).nodes in
    let z = few p a in
    omega arith

pub emit_scheme-returns : goal.emit_scheme-returns
emit_scheme-returns g t c =
    λ n p.
    let s = c.args.bank.now.schemes.now in
    let v = c.args.array.view in
    let a = parted (g.B.Bank.meanings s) (g.met.B.Bank.all s) (seen v) c.args.array.clean.clean c.args.number c.requires.able c.in-Ok.apart c.in-Ok.ensures in
    let o = length-put 16 c.args.out.now c.payload_at.new.out c.payload_at.auto.out in
    let r = view-rows v in
    let k = c.rows-rows.ensures in
    let w = c.places_for.ensures in
    let b = c.split_at_mut-places.ensures.back_len in
    let m0 = c.take_apart.auto.mem in
    let m1 = c.payload_at.auto.mem in
    let left : length c.args.mem.now - places_for (length (seen v).rows) ≤ length c.payload_at.new.mem = omega arith in
    let f = c.emit_children-below.ensures (children_of n) (behind p a _ _ o left) in
    let i = sym c.id_at.ensures in
    let d = sym c.from.ensures in
    let h = head-is p a ∙ (λ j. record { form = i j; kind = d j; cell_bits = c.in-Ok.apart.cell_bits; flag = c.in-Ok.apart.flag; rows = (r ∙ sym k) j }) in
    let e = ends p a in
    let z = p.bytes in
    let y = c.write_head.ensures in
    over-closed n _ c.in-Ok.apart.payload c.write_head.result c.emit_children-below.result c.args.out.now
    (put_mid 16 (length c.args.out.now - 16) c.args.out.now c.payload_at.new.out) c.write_head.new.out c.payload_at.new.out c.emit_children-below.new.out
    h (payload-is p a) (omega arith)
    (c.payload_at.ensures ∙ ap (λ x. written x (take (length c.args.out.now - 16) (drop 16 c.args.out.now))) (payload-in p a))
    refl f y.whole y.nodes y.bytes
