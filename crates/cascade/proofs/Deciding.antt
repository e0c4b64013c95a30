-- The deferred schemes, one after the other.
use Rattle.std.proofs.Common.{◌≡◌, ℕ, ◌+◌, ◌<◌, ◌≤◌, List, ◌∷◌, length, drop, Some, Ok, Err, Option, Result, slice_index_or, sym, refl, ap, ◌∙◌, subst}
use lib.Ieee.{Float}
use Rattle.std.proofs.lemmas.List.{drop_more, drop_all}
use Rattle.column.specs.declared.refusals.Refusal.{Refusal}
use Rattle.scheme.specs.declared.estimate.EstimateVerdict.{EstimateVerdict}
use Rattle.scheme.specs.declared.estimate.EstimateVerdict.TheVariants.{Skip, AlwaysUse, Ratio}
use Rattle.scheme.specs.declared.estimate.EstimateScore.{EstimateScore}
use Rattle.scheme.specs.declared.estimate.EstimateScore.TheVariants.{FiniteCompression}
use Rattle.scheme.specs.Meaning.{Meaning}
use Rattle.scheme.specs.Banks.{at}
use Rattle.levels.specs.Choice.{mark_of, bested, Late, Chosen, winner, late_step, decided}
use Rattle.levels.specs.NodesOf.{Able}
use Rattle.choice.specs.declared.best.Leader.{Leader}
use Rattle.choice.specs.declared.table.Slot.{Slot}
use Rattle.choice.specs.Picks.{best_of, deferred_of, AbleLeader, AbleSlots}

-- what is left to decide comes to w, and every scheme held takes the kind
pub record Kept (late : Late) (ms : List Meaning) (k : ℕ) (ss : List Slot) (i : ℕ) (b : Option Leader) (w : Chosen) : Type 0 where
  pub left : decided late (deferred_of ms (drop i ss)) (best_of ms b) ≡ w
  pub leader : AbleLeader ms k b
  pub slots : AbleSlots ms k (drop i ss)

pub kept-first : (late : Late) (ms : List Meaning) (k : ℕ) (ss : List Slot) (b : Option Leader) → AbleLeader ms k b → AbleSlots ms k ss
    → Kept late ms k ss 0 b (decided late (deferred_of ms ss) (best_of ms b))
kept-first late ms k ss b l s = record { left = refl; leader = l; slots = s }

module _ (late : Late) (ms : List Meaning) (k : ℕ) (ss : List Slot) (i : ℕ) (b : Option Leader) (w : Chosen) (inv : Kept late ms k ss i b w) (x : Slot) (lt : i < length ss) where
  abbrev s : Slot
  s = slice_index_or ss i x

  more : drop i ss ≡ s ∷ drop (i + 1) ss
  more = drop_more ss i x lt

  able-both : AbleSlots ms k (s ∷ drop (i + 1) ss)
  able-both = subst (AbleSlots ms k) more inv.slots

  pub able : Able ms k s.scheme
  able = able-both.0

  module _ (r : Result EstimateVerdict Refusal) (mark : Option EstimateScore) (em : mark ≡ mark_of (best_of ms b)) (er : r ≡ late (at ms s.scheme) s.estimate mark) where
    step : late_step (at ms s.scheme) r (best_of ms b) (decided late (deferred_of ms (drop (i + 1) ss))) ≡ w
    unfolding decided
    step =
        ap (λ q. late_step (at ms s.scheme) q (best_of ms b) (decided late (deferred_of ms (drop (i + 1) ss)))) (er ∙ ap (late (at ms s.scheme) s.estimate) em)
        ∙ ap (λ ys. decided late (deferred_of ms ys) (best_of ms b)) (sym more) ∙ inv.left

    step-as : (q : Result EstimateVerdict Refusal) → r ≡ q → late_step (at ms s.scheme) q (best_of ms b) (decided late (deferred_of ms (drop (i + 1) ss))) ≡ w
    step-as q e = ap (λ z. late_step (at ms s.scheme) z (best_of ms b) (decided late (deferred_of ms (drop (i + 1) ss)))) (sym e) ∙ step

    pub refused : (e : Refusal) → r ≡ Err e → ◌≡◌ {A = Chosen} (Err e) w
    refused e q = step-as (Err e) q

    pub always : r ≡ Ok AlwaysUse → ◌≡◌ {A = Chosen} (Ok (Some (at ms s.scheme))) w
    always q = step-as (Ok AlwaysUse) q

    pub skipped : (b2 : Option Leader) → r ≡ Ok Skip → b2 ≡ b → Kept late ms k ss (i + 1) b2 w
    skipped b2 q e = subst (λ y. Kept late ms k ss (i + 1) y w) (sym e) (record { left = step-as (Ok Skip) q; leader = inv.leader; slots = able-both.1 })

    pub scored-next : (v : Float) (b2 b3 : Option Leader) → r ≡ Ok (Ratio v) → b2 ≡ b3 → best_of ms b3 ≡ bested (at ms s.scheme) (FiniteCompression v) (best_of ms b)
        → AbleLeader ms k b3 → Kept late ms k ss (i + 1) b2 w
    scored-next v b2 b3 q e eb a =
        subst (λ y. Kept late ms k ss (i + 1) y w) (sym e) (record {
          left = ap (decided late (deferred_of ms (drop (i + 1) ss))) eb ∙ step-as (Ok (Ratio v)) q;
          leader = a;
          slots = able-both.1;
        })

pub kept-last : (late : Late) (ms : List Meaning) (k : ℕ) (ss : List Slot) (i : ℕ) (b : Option Leader) (w : Chosen) → Kept late ms k ss i b w → length ss ≤ i
    → ◌≡◌ {A = Chosen} (Ok (winner (best_of ms b))) w
unfolding decided
kept-last late ms k ss i b w inv ge = ap (λ ys. decided late (deferred_of ms ys) (best_of ms b)) (sym (drop_all i ss ge)) ∙ inv.left
