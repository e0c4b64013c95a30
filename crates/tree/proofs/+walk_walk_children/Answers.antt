use Rattle.std.proofs.Common.{◌≡◌, ℕ, ◌+◌, ◌-◌, ◌<◌, ◌≤◌, ◌++◌, List, length, take, Some, sym, ap, ◌∙◌, append-nil, arith}
use Rattle.std.proofs.lemmas.Result.{on_ok_weaker}
use Rattle.node.specs.declared.heads.Header.{Header}
use Rattle.node.specs.Nodes.{head_size}
use Rattle.node.specs.Reading.{header_read, payload_read, after_payload, own_bytes}
use Rattle.node.proofs.HeaderLaws.{found}
use Rattle.tree.specs.declared.Entry.{Entry}
use Rattle.tree.specs.Trees.{below, below_at, children_walked}
use Rattle.tree.proofs.WalkLaws.{walk-short, below-room, pushed}
use Rattle.tree.proofs.+walk_walk_children.Goals as goal

pub walk-returns-in_default : goal.walk-returns-in_default
walk-returns-in_default t c =
    let s = walk-short c.args.levels c.args.level c.args.at c.args.bytes.now (sym c.read.ensures.value ∙ c.in_default.is) in
    sym (ap (λ (es : List Entry). c.args.out.now.items ++ es) s ∙ append-nil c.args.out.now.items)

-- the parts of the node's own bytes
own : (bs : List ℕ) (h : Header) → header_read bs ≡ Some h → take h.whole bs ≡ own_bytes bs
own bs h e = ap (λ w. take w bs) (found bs h e).whole

-- head, payload and children lie within the bytes
within : (bs p k : List ℕ) (h : Header) → header_read bs ≡ Some h → p ≡ payload_read (take h.whole bs) → k ≡ after_payload (take h.whole bs)
    → head_size + length p + length k ≤ length bs
within bs p k h e ep ek =
    let o = own bs h e in
    let lp = ap length (ep ∙ ap payload_read o) in
    let lk = ap length (ek ∙ ap after_payload o) in
    let r = below-room bs (found bs h e).long in
    omega arith

pub walk-overflow_add-start-2 : goal.walk-overflow_add-start-2
walk-overflow_add-start-2 t c =
    let w =
    within c.args.bytes.now c.own_body-body.result.payload.now c.own_body-body.result.children.now c.in-Some.header
    (sym c.read.ensures.value ∙ c.in-Some.is) c.own_body-body.ensures.payload c.own_body-body.ensures.children in
    omega arith

pub walk-walk_children-requires : goal.walk-walk_children-requires
walk-walk_children-requires t c =
    let w =
    within c.args.bytes.now c.own_body-body.result.payload.now c.own_body-body.result.children.now c.in-Some.header
    (sym c.read.ensures.value ∙ c.in-Some.is) c.own_body-body.ensures.payload c.own_body-body.ensures.children in
    let d = c.decreases in
    let l : 0 < c.args.levels = omega arith in
    (omega arith, (omega arith, omega arith))

-- where the children begin, and what they list
kids : (d l i : ℕ) (bs p k : List ℕ) (h : Header) → header_read bs ≡ Some h → p ≡ payload_read (take h.whole bs) → k ≡ after_payload (take h.whole bs)
    → children_walked d l (i + 16 + length p) k ≡ children_walked d l (below_at i bs) (below bs)
kids d l i bs p k h e ep ek =
    let o = own bs h e in
    λ j. children_walked d l (i + head_size + length ((ep ∙ ap payload_read o) j)) ((ek ∙ ap after_payload o) j)

pub walk-returns : goal.walk-returns
walk-returns t c =
    let l : 0 < c.args.levels = omega arith in
    let e = sym c.read.ensures.value ∙ c.in-Some.is in
    on_ok_weaker c.walk_children.result
    (λ n.
    pushed c.args.levels c.args.level c.args.at c.args.bytes.now c.in-Some.header c.args.out.now.items c.push.new.self.items c.walk_children.new.out.items _
    e l c.in_ok-push.ensures.items
    (kids (c.args.levels - 1) (c.args.level + 1) c.args.at c.args.bytes.now c.own_body-body.result.payload.now c.own_body-body.result.children.now
    c.in-Some.header e c.own_body-body.ensures.payload c.own_body-body.ensures.children)
    n)
    c.walk_children.ensures
