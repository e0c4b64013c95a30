use Rattle.std.proofs.Common.{◌≡◌, [], ◌∷◌, length, take, sym, refl, ap, ◌∙◌, arith}
use Rattle.std.proofs.lemmas.Bool.{true≢false}
use Rattle.std.proofs.lemmas.List.{length-take-le}
use Rattle.column.specs.Columns.{cleaned, offer_seen, words_for}
use Rattle.column.proofs.InspectLaws.{kind-none, kind-some}
use Rattle.column.proofs.RowLaws.{clean-kind, clean-short}
use Rattle.scheme.specs.Banks.{at}
use Rattle.holds.proofs.Choosing.{bank-at}
use Rattle.reading.proofs.HoldingLaws.{read-kind, read-head, read-bare, read-own, never-lost}
use Rattle.reading.proofs.OwnLaws.{own-rows, own-count, own-children, own-joined}
use Rattle.reading.proofs.ChildLaws.{first, one-child, two-children}
use Rattle.reading.proofs.PlaceLaws.{room-down, space-less, space-below, rows-fit, fit-rows, leaf-gives, front-rest, scheme-gives}
use Rattle.reading.proofs.nodes.+nodes.Goals as goal

-- ---- the children

pub read_children-returns-in_err-child0-clause-back : goal.read_children-returns-in_err-child0-clause-back
read_children-returns-in_err-child0-clause-back g t c = λ o n cs b e s0 s1.
    let k = c.num_children_at-count.ensures in
    let f = first b (omega arith) in
    rw c.from_residual.ensures (c.in_err-child0.ensures.back o f.column f.clean f.begins (space-less f.short refl s0))

pub read_children-returns-then-count-eq1-clause-back : goal.read_children-returns-then-count-eq1-clause-back
read_children-returns-then-count-eq1-clause-back g t c = λ o n cs b e s0 s1.
    let k = c.num_children_at-count.ensures in
    let f = first b (omega arith) in
    one-child cs f.more f.column _ _ _ f.are e (omega arith) (c.in_ok-child0.ensures.back o f.column f.clean f.begins (space-less f.short refl s0))

pub read_children-returns-in_err-child1-clause-back : goal.read_children-returns-in_err-child1-clause-back
read_children-returns-in_err-child1-clause-back g t c = λ o n cs b e s0 s1.
    let k = c.num_children_at-count.ensures in
    let f = first b (omega arith) in
    let q = ap length f.are in
    let d = first (f.later _ (c.after_node-next.ensures.back f.begins.node f.begins.rest f.begins.fit f.begins.is)) (omega arith) in
    rw c.from_residual-in_err-child1.ensures (c.in_err-child1.ensures.back o d.column d.clean d.begins (space-less d.short c.read_node.auto.mem s1))

pub read_children-returns-clause-back : goal.read_children-returns-clause-back
read_children-returns-clause-back g t c = λ o n cs b e s0 s1.
    let k = c.num_children_at-count.ensures in
    let few = (bank-at _ c.args.i (g.met.B.Bank.all c.args.bank.now.schemes.now) c.requires.within).few in
    let f = first b (omega arith) in
    let q = ap length f.are in
    let d = first (f.later _ (c.after_node-next.ensures.back f.begins.node f.begins.rest f.begins.fit f.begins.is)) (omega arith) in
    two-children cs f.more d.more f.column d.column _ _ _ f.are d.are e (omega arith)
    (c.in_ok-child0.ensures.back o f.column f.clean f.begins (space-less f.short refl s0))
    (c.in_ok-child1.ensures.back o d.column d.clean d.begins (space-less d.short c.read_node.auto.mem s1))

-- ---- a node

pub read_node-returns-in_err-kind-clause-back : goal.read_node-returns-in_err-kind-clause-back
read_node-returns-in_err-kind-clause-back g t c = λ o k cl b s.
    let h = c.in_ok-head.field-0.head in
    let i = read-head b (c.in_ok-head.ensures.back b.node b.rest b.fit b.is) in
    let ik = i.kind in
    let few = clean-kind k cl in
    let q = read-kind h.kind _ _ c.try_from.ensures c.ok.ensures.value in
    let much = kind-none h.kind (sym q ∙ c.in_err-kind.was) in
    absurd (omega arith)

pub read_node-returns-then-not-rows_fit-clause-back : goal.read_node-returns-then-not-rows_fit-clause-back
read_node-returns-then-not-rows_fit-clause-back g t c = λ o k cl b s.
    let i = read-head b (c.in_ok-head.ensures.back b.node b.rest b.fit b.is) in
    let r = i.rows in
    let few = clean-short k cl in
    let cs = s.cells in
    let ws = s.words in
    true≢false (sym (c.rows_fit.ensures ∙ rows-fit c.in_ok-head.field-0.head.rows (length c.args.cells.now) (length c.args.words.now) (omega arith) (omega arith) (omega arith)) ∙ c.if-not-rows_fit.true)

pub read_node-returns-in_err-read_leaf-clause-back : goal.read_node-returns-in_err-read_leaf-clause-back
read_node-returns-in_err-read_leaf-clause-back g t c = λ o k cl b s.
    let e = c.in_ok-head.ensures.back b.node b.rest b.fit b.is in
    let p = c.read-body.ensures.back b.node b.rest b.fit b.is in
    absurd (true≢false (sym (c.in_err-read_leaf.ensures.back k cl (read-bare b e _ o p.0 (omega arith)) s.cells s.words).0))

pub read_node-returns-then-head-lt-FIRST_ID-clause-back : goal.read_node-returns-then-head-lt-FIRST_ID-clause-back
read_node-returns-then-head-lt-FIRST_ID-clause-back g t c = λ o k cl b s.
    let h = c.in_ok-head.field-0.head in
    let e = c.in_ok-head.ensures.back b.node b.rest b.fit b.is in
    let i = read-head b e in
    let q = read-kind h.kind _ _ c.try_from.ensures c.ok.ensures.value in
    let j = kind-some h.kind c.in_ok-kind.kind (sym q ∙ c.in_ok-kind.was) in
    let p = c.read-body.ensures.back b.node b.rest b.fit b.is in
    leaf-gives k c.in_ok-kind.kind h.rows c.args.cells.now c.args.words.now c.read_leaf.new.cells c.read_leaf.new.words (sym j ∙ i.kind) i.rows
    (c.in_ok-read_leaf.ensures.back k cl (read-bare b e _ o p.0 (omega arith)) s.cells s.words).1

pub read_node-returns-in_err-i-clause-back : goal.read_node-returns-in_err-i-clause-back
read_node-returns-in_err-i-clause-back g t c = λ o k cl b s.
    absurd (never-lost b (c.in_ok-head.ensures.back b.node b.rest b.fit b.is) o (omega arith) c.in_err-i.ensures.is)

pub read_node-returns-in_err-read_scheme-clause-back : goal.read_node-returns-in_err-read_scheme-clause-back
read_node-returns-in_err-read_scheme-clause-back g t c = λ o k cl b s.
    let h = c.in_ok-head.field-0.head in
    let e = c.in_ok-head.ensures.back b.node b.rest b.fit b.is in
    let q = read-kind h.kind _ _ c.try_from.ensures c.ok.ensures.value in
    let j = kind-some h.kind c.in_ok-kind.kind (sym q ∙ c.in_ok-kind.was) in
    let p = c.read-body.ensures.back b.node b.rest b.fit b.is in
    let w = read-own b e c.in_ok-i.i _ o (omega arith) c.in_ok-i.ensures.is (sym j) refl refl p in
    rw c.from_residual-in_err-read_scheme.ensures (c.in_err-read_scheme.ensures.back o k cl w.1 (room-down c.args.levels (length k.rows) c.args.mem.now w.0 s.mem))

pub read_node-returns-clause-places : goal.read_node-returns-clause-places
read_node-returns-clause-places g t c =
    let n = c.in_ok-head.field-0.head.rows in
    let m = c.words_for.result in
    let f = fit-rows n (length c.args.cells.now) (length c.args.words.now) (sym c.rows_fit.ensures ∙ c.if-not-rows_fit.false) in
    let e : m ≡ words_for n = c.words_for.ensures in
    record {
      cells_fit = f.0;
      words_fit = f.1;
      cells = front-rest n n c.read_scheme.new.cells c.args.cells.now refl (c.read_scheme.auto.cells ∙ length-take-le n c.args.cells.now f.0);
      words = front-rest (words_for n) m c.read_scheme.new.words c.args.words.now e (c.read_scheme.auto.words ∙ length-take-le m c.args.words.now (omega arith) ∙ e);
    }

pub read_node-returns-clause-back : goal.read_node-returns-clause-back
read_node-returns-clause-back g t c = λ o k cl b s.
    let h = c.in_ok-head.field-0.head in
    let e = c.in_ok-head.ensures.back b.node b.rest b.fit b.is in
    let q = read-kind h.kind _ _ c.try_from.ensures c.ok.ensures.value in
    let j = kind-some h.kind c.in_ok-kind.kind (sym q ∙ c.in_ok-kind.was) in
    let p = c.read-body.ensures.back b.node b.rest b.fit b.is in
    let w = read-own b e c.in_ok-i.i _ o (omega arith) c.in_ok-i.ensures.is (sym j) refl refl p in
    let n = h.rows in
    let m = c.words_for.result in
    let f = fit-rows n (length c.args.cells.now) (length c.args.words.now) (sym c.rows_fit.ensures ∙ c.if-not-rows_fit.false) in
    let r : m ≡ words_for n = c.words_for.ensures in
    scheme-gives k c.in_ok-kind.kind n c.read_scheme.new.cells c.read_scheme.new.words _ _
    (c.read_scheme.auto.cells ∙ length-take-le n c.args.cells.now f.0)
    (c.read_scheme.auto.words ∙ length-take-le m c.args.words.now (omega arith) ∙ r)
    (c.in_ok-read_scheme.ensures.back o k cl w.1 (room-down c.args.levels (length k.rows) c.args.mem.now w.0 s.mem))

-- ---- a node of a scheme

pub read_scheme-returns-in_err-child0-clause-back : goal.read_scheme-returns-in_err-child0-clause-back
read_scheme-returns-in_err-child0-clause-back g t c = λ o k cl w enough.
    let all = g.met.B.Bank.all c.args.bank.now.schemes.now in
    let m = c.args.mem.now in
    let r = own-rows all cl w in
    rw c.from_residual.ensures (c.in_err-child0.ensures.back o (length k.rows) w.of.parts.children (own-children all cl w) (own-count all cl w)
    (space-below m _ enough (omega arith) (omega arith) (omega arith))
    (space-below m _ enough (omega arith) (omega arith) (omega arith)))

pub read_scheme-returns-clause-back : goal.read_scheme-returns-clause-back
read_scheme-returns-clause-back g t c = λ o k cl w enough.
    let all = g.met.B.Bank.all c.args.bank.now.schemes.now in
    let n = (at (g.B.Bank.meanings c.args.bank.now.schemes.now) c.args.i).child_count in
    let m = c.args.mem.now in
    let r = own-rows all cl w in
    let read = c.in_ok-child0.ensures.back o (length k.rows) w.of.parts.children (own-children all cl w) (own-count all cl w)
    (space-below m _ enough (omega arith) (omega arith) (omega arith))
    (space-below m _ enough (omega arith) (omega arith) (omega arith)) in
    let v0 = c.view-view0.ensures.is in
    let v1 = c.view-view1.ensures.is in
    let s = c.stored-stored.ensures in
    own-joined all cl w c.stored-stored.result (offer_seen c.view-view0.result) (offer_seen c.view-view1.result) c.join_at.new.cells c.join_at.new.words
    s.kind s.rows s.parts ((λ j. take n (cleaned (v0 j) ∷ (cleaned (v1 j) ∷ []))) ∙ read) c.join_at.ensures
