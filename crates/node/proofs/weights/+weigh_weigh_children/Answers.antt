use Rattle.std.proofs.Common.{◌≡◌, ℕ, ◌+◌, ◌-◌, ◌<◌, ◌≤◌, List, length, take, Some, sym, ap, ◌∙◌, arith}
use Rattle.std.proofs.lemmas.List.{nil_from_length}
use Rattle.std.proofs.lemmas.Bool.{eqb-true}
use Rattle.node.specs.declared.heads.Header.{Header}
use Rattle.node.specs.Reading.{header_read, payload_read, after_payload, own_bytes, after_node, weight_read}
use Rattle.node.proofs.HeaderLaws.{found, missing}
use Rattle.node.proofs.WeightLaws.{weigh-flat, weigh-within, weigh-short, weigh-leaf, weigh-step, children-shorter}
use Rattle.node.proofs.weights.+weigh_weigh_children.Goals as goal
use Rattle.node.proofs.weights.+weigh_weigh_children.Goals.{weigh-then-levels-eq0-via-then-levels-eq0, weigh-then-levels-eq0-via-else-levels-eq0+then-is_empty}

within : (l : ℕ) (bs : List ℕ) (r : ℕ) → r ≡ weight_read l bs → r ≤ length bs
within l bs r e = let w = weigh-within l bs in omega arith

at_none : (l : ℕ) (bs : List ℕ) → l ≡ 0 → weight_read l bs ≡ length (payload_read (own_bytes bs))
at_none l bs e = ap (λ m. weight_read m bs) e

pub weigh-returns-in_default : goal.weigh-returns-in_default
weigh-returns-in_default t c =
    let bs = c.args.bytes.now in
    let l = c.args.levels in
    let v : 0 ≡ weight_read l bs = sym (weigh-short l bs (missing bs (sym c.read.ensures.value ∙ c.in_default.is))) in
    record { value = v; within = within l bs _ v; back = λ n rest f h e. v ∙ ap (weight_read l) e ∙ weigh-flat l n rest f h }

-- the parts of the node's own bytes
own : (bs : List ℕ) (h : Header) → header_read bs ≡ Some h → take h.whole bs ≡ own_bytes bs
own bs h e = ap (λ w. take w bs) (found bs h e).whole

pub weigh-returns-then-levels-eq0 : goal.weigh-returns-then-levels-eq0
weigh-returns-then-levels-eq0 t c =
    let bs = c.args.bytes.now in
    let l = c.args.levels in
    let o = own bs c.in-Some.header (sym c.read.ensures.value ∙ c.in-Some.is) in
    let p : c.own_body-body.result.payload.now ≡ payload_read (own_bytes bs) = c.own_body-body.ensures.payload ∙ ap payload_read o in
    let k : c.own_body-body.result.children.now ≡ after_payload (own_bytes bs) = c.own_body-body.ensures.children ∙ ap after_payload o in
    let v : length c.own_body-body.result.payload.now ≡ weight_read l bs =
    elim c.then-levels-eq0.branch [
      | weigh-then-levels-eq0-via-then-levels-eq0 w ↦ ap length p ∙ sym (at_none l bs w.if-levels-eq0.true)
      | weigh-then-levels-eq0-via-else-levels-eq0+then-is_empty w ↦
          ap length p ∙ sym (weigh-leaf l bs (sym k ∙ nil_from_length c.own_body-body.result.children.now (eqb-true _ _ (sym w.is_empty.ensures ∙ w.if-is_empty.true))))
    ] in
    record { value = v; within = within l bs _ v; back = λ n rest f h e. v ∙ ap (weight_read l) e ∙ weigh-flat l n rest f h }

pub weigh-weigh_children-requires : goal.weigh-weigh_children-requires
weigh-weigh_children-requires t c =
    let bs = c.args.bytes.now in
    let h = c.in-Some.header in
    let e = sym c.read.ensures.value ∙ c.in-Some.is in
    let g = (found bs h e).long in
    let s = children-shorter bs (omega arith) in
    let l = ap length (c.own_body-body.ensures.children ∙ ap after_payload (own bs h e)) in
    let m = c.decreases in
    (omega arith, tt)

summed : (l : ℕ) (bs p cs : List ℕ) (h : Header) (a : ℕ) → header_read bs ≡ Some h → p ≡ payload_read (take h.whole bs) → cs ≡ after_payload (take h.whole bs)
    → a ≡ weight_read (l - 1) cs + weight_read (l - 1) (after_node cs) → 0 < l → length p + a ≡ weight_read l bs
summed l bs p cs h a e q k ea lt =
    let o = own bs h e in
    let s = weigh-step l bs lt in
    let c = ap (λ xs. weight_read (l - 1) xs + weight_read (l - 1) (after_node xs)) (k ∙ ap after_payload o) in
    let r = ap length (q ∙ ap payload_read o) in
    omega arith

total : (t : ℕ) (c : goal.weigh-After-weigh_children t) → length c.own_body-body.result.payload.now + c.weigh_children.result ≡ weight_read c.args.levels c.args.bytes.now
total t c =
    summed c.args.levels c.args.bytes.now c.own_body-body.result.payload.now c.own_body-body.result.children.now
    c.in-Some.header c.weigh_children.result (sym c.read.ensures.value ∙ c.in-Some.is) c.own_body-body.ensures.payload
    c.own_body-body.ensures.children c.weigh_children.ensures (omega arith)

pub weigh-overflow_add-result : goal.weigh-overflow_add-result
weigh-overflow_add-result t c =
    let v = total t c in
    let w = within c.args.levels c.args.bytes.now _ v in
    omega arith

pub weigh-returns : goal.weigh-returns
weigh-returns t c =
    let bs = c.args.bytes.now in
    let l = c.args.levels in
    let v = total t c in
    record { value = v; within = within l bs _ v; back = λ n rest f h e. v ∙ ap (weight_read l) e ∙ weigh-flat l n rest f h }
