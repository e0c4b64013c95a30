-- What one call answers and leaves, by the columns held.
use Rattle.std.proofs.Common.{◌≡◌, ℕ, Bool, true, false, leb, List, [], ◌∷◌, ◌++◌, length, slice_get, Ok, Err, Result, sym, refl, ap, ◌∙◌, subst, arith}
use Rattle.std.proofs.lemmas.Bool.{leb-true, leb-false}
use Rattle.column.specs.declared.refusals.Refusal.{Refusal}
use Rattle.column.specs.declared.refusals.Refusal.TheVariants.{UnknownColumn}
use Rattle.column.specs.Columns.{Column, Offer, cleaned}
use Rattle.node.specs.Nodes.{Node, whole, weight}
use Rattle.node.specs.Reading.{weight_read, header_read}
use Rattle.node.proofs.HeaderLaws.{header-back}
use Rattle.node.proofs.WeightLaws.{weigh-flat}
use Rattle.levels.specs.Levels.{Bound}
use Rattle.levels.proofs.StandingLaws.{levels-stand}
use Rattle.levels.proofs.UniqueLaws.{one-stands}
use Rattle.calls.specs.declared.answers.Fetched.{Fetched}
use Rattle.calls.specs.declared.answers.Weighed.{Weighed}
use Rattle.calls.specs.Openings.{Setting, Granted}
use Rattle.calls.specs.Calls.{State, bound_in, taken, unless, bind_reply, bind_next, Held, Lent, short_by, Fetch, node_at, weighed_at, whole_in, Weigh}
use Rattle.calls.specs.Runs.{Event, bound, fetched, weighed, Step, after, Gives, Weighs, OnlyStands, LawfulCall}
use Rattle.calls.proofs.OpenLaws.{few-levels}
use Rattle.calls.proofs.NodeLists.{past-end, Beginning}
use Rattle.calls.proofs.MadeLaws.{Made, node-begins}
use Rattle.calls.proofs.BackLaws.{back}
use Rattle.calls.proofs.HeldLaws.{accepted, Holds, one-more}

-- what the levels made stands, and nothing else does
pub only-stands : (set : Setting) → Granted set → (c : Column) (n : Node) → bound_in set c ≡ Ok n → OnlyStands set c n
only-stands set g c n e = record {
  stands = levels-stand set.opening g.keep false set.levels c [] n e;
  only = λ k s. one-stands set.opening g.keep false set.levels c [] k n s e;
}

-- ---- bind

module _ (set : Setting) (room : ℕ) (s : State) (cs : List Column) (h : Holds set room s cs) where
  bound-after : (o : Offer) (m : ℕ) (r : Result ℕ Refusal) (t : State) (y : Bound) → taken set s o m ≡ y → r ≡ bind_reply s y → t ≡ bind_next s y
      → Holds set room t (after cs (bound o m r)) × LawfulCall set cs (bound o m r)
  bound-after o m (Ok k) t (Ok n) e a b =
      (subst (λ x. Holds set room x (cs ++ (cleaned o ∷ []))) (sym b) (one-more set room s cs h o n (accepted set s o m n e)), (let q : k ≡ s.count = cc in q ∙ h.held.count))
  bound-after o m (Ok k) t (Err x) e a b = absurd (let z : ◌≡◌ {A = ℕ} 0 1 = cc in omega arith)
  bound-after o m (Err x) t (Ok n) e a b = absurd (let z : ◌≡◌ {A = ℕ} 0 1 = cc in omega arith)
  bound-after o m (Err x) t (Err y) e a b = (subst (λ x. Holds set room x cs) (sym b) h, tt)

-- ---- fetch

-- a number has a column, and the node's bytes begin at its place; or it is past the last
module _ (set : Setting) (g : Granted set) (s : State) (cs : List Column) (h : Held set s cs) (i : ℕ) where
  pub gives : (m : ℕ) (x : Lent) (r : Result Fetched Refusal) (y : Lent) → Fetch set s i m x r y → Gives set (slice_get cs i) m x r y
  gives m x r y k = go (leb s.count i) refl
    where
      go : (q : Bool) → leb s.count i ≡ q → Gives set (slice_get cs i) m x r y
      go true e =
          let l = leb-true s.count i e in
          subst (λ c. Gives set c m x r y) (sym (past-end cs i (let c = h.count in omega arith))) (k.unknown l)
      go false e =
          let b = node-begins set g.keep.bank (few-levels set g) s cs h i (leb-false s.count i e) in
          let given = k.given cs h b.column b.number in
          subst (λ c. Gives set c m x r y) (sym b.number) (given, back b.column b.good.clean (short_by set (length b.column.rows) x m) x r y given)

  -- ---- weigh

  weighs-node : (bs : List ℕ) → Beginning (Made set) cs i bs → (r : Result Weighed Refusal) → r ≡ Ok (weighed_at set.levels bs) → Weighs set (slice_get cs i) r
  weighs-node bs b r e =
      let n = b.node in
      let k = b.good.holding in
      let v : weight_read set.levels bs ≡ weight n = ap (weight_read set.levels) b.bytes ∙ weigh-flat set.levels n b.rest k.fit k.low in
      let l : whole_in (header_read bs) ≡ whole n = ap (λ x. whole_in (header_read x)) b.bytes ∙ ap whole_in (header-back n b.rest k.fit) in
      subst (λ c. Weighs set c r) (sym b.number) (n, (only-stands set g b.column n b.good.bound, e ∙ (λ j. Ok (record { weight = v j; whole = l j }))))

  pub weighs : (r : Result Weighed Refusal) → Weigh set s i r → Weighs set (slice_get cs i) r
  weighs r k = go (leb s.count i) refl k.answer
    where
      go : (q : Bool) → leb s.count i ≡ q → r ≡ unless q UnknownColumn (Ok (weighed_at set.levels (node_at i s.bytes))) → Weighs set (slice_get cs i) r
      go true e a =
          let l = leb-true s.count i e in
          subst (λ c. Weighs set c r) (sym (past-end cs i (let c = h.count in omega arith))) a
      go false e a = weighs-node (node_at i s.bytes) (node-begins set g.keep.bank (few-levels set g) s cs h i (leb-false s.count i e)) r a

-- ---- any call

pub step : (set : Setting) → Granted set → (room : ℕ) (s : State) (cs : List Column) → Holds set room s cs → (e : Event) (t : State) → Step set s e t
    → Holds set room t (after cs e) × LawfulCall set cs e
step set g room s cs h (bound o m r) t k = bound-after set room s cs h o m r t (taken set s o m) refl k.answer k.next
step set g room s cs h (fetched i m x r y) t (k, e) = (subst (λ z. Holds set room z cs) (sym e) h, gives set g s cs h.held i m x r y k)
step set g room s cs h (weighed i r) t (k, e) = (subst (λ z. Holds set room z cs) (sym e) h, weighs set g s cs h.held i r k)
