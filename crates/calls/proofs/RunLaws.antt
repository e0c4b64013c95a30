-- The law over runs, call by call.
use Rattle.std.proofs.Common.{◌≡◌, ℕ, ◌-◌, ◌≤◌, false, List, [], ◌∷◌, length, sym, refl, ◌∙◌, subst}
use Rattle.column.specs.Columns.{Column}
use Rattle.node.specs.Nodes.{weight, plain_node}
use Rattle.calls.specs.Openings.{Setting, Granted}
use Rattle.calls.specs.Calls.{State, opened}
use Rattle.calls.specs.Runs.{Event, Step, Run, after, accepted_from, Lawful, Kept, OnlyStands, AlikeCalls, SameRuns, MainLaw}
use Rattle.calls.proofs.NodeLists.{each-map}
use Rattle.calls.proofs.HeldLaws.{Holds, none-held}
use Rattle.calls.proofs.OpenLaws.{few-levels}
use Rattle.calls.proofs.MadeLaws.{Made, all-made}
use Rattle.calls.proofs.StepLaws.{only-stands, step}
use Rattle.calls.proofs.HideLaws.{same-call}

module _ (set : Setting) (g : Granted set) (room : ℕ) where
  lawful : (s : State) (cs : List Column) → Holds set room s cs → (es : List Event) (u : State) → Run set s es u → Lawful set cs es
  lawful s cs h [] u p = tt
  lawful s cs h (e ∷ es) u (t, (k, p)) =
      let n = step set g room s cs h e t k in
      (n.1, lawful t (after cs e) n.0 es u p)

  pub held-last : (s : State) (cs : List Column) → Holds set room s cs → (es : List Event) (u : State) → Run set s es u → Holds set room u (accepted_from cs es)
  held-last s cs h [] u p = subst (λ x. Holds set room x cs) p h
  held-last s cs h (e ∷ es) u (t, (k, p)) = held-last t (after cs e) (step set g room s cs h e t k).0 es u p

  kept : (u : State) (cs : List Column) → Holds set room u cs → Kept set room cs u
  kept u cs h = record {
    nodes = h.held.nodes;
    stand = each-map (Made set) (λ c n. OnlyStands set c n × (weight n ≤ weight (plain_node c)))
        (λ c n k. (only-stands set g c n k.bound, k.holding.light)) cs h.held.nodes
        (all-made set g.keep.bank (few-levels set g) u cs h.held);
    count = h.held.count;
    used = h.held.used;
    zeros = length u.bytes - u.used;
    layout = h.held.layout;
    size = h.size;
  }

  same : (s t : State) (cs : List Column) → Holds set room s cs → s ≡ t → (es fs : List Event) (u v : State) (p : Run set s es u) (q : Run set t fs v)
      → AlikeCalls es fs → SameRuns set s t es fs u v p q
  same s t cs h st [] [] u v p q a = sym p ∙ st ∙ q
  same s t cs h st [] (f ∷ fs) u v p q a = absurd a
  same s t cs h st (e ∷ es) [] u v p q a = absurd a
  same s t cs h st (e ∷ es) (f ∷ fs) u v p q a =
      let k = same-call set g s cs h.held e f p.0 q.0 p.1.0 (subst (λ x. Step set x f q.0) (sym st) q.1.0) a.0 in
      (k.0, (k.1, same p.0 q.0 (after cs e) (step set g room s cs h e p.0 p.1.0).0 k.1 es fs u v p.1.1 q.1.1 a.1))

pub main-law : MainLaw
main-law set g room =
    let s = opened room in
    let h = none-held set room in
    record {
      fetches = lawful set g room s [] h;
      keeps = λ es u p. kept set g room u (accepted_from [] es) (held-last set g room s [] h es u p);
      hides = λ es fs u v p q a. same set g room s s [] h refl es fs u v p q a;
    }
