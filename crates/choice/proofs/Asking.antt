-- The pass over the immediate answers, scheme by scheme.
use Rattle.std.proofs.Common.{◌≡◌, ℕ, ◌+◌, ◌<◌, ◌≤◌, Bool, true, false, ◌&&◌, List, [], ◌∷◌, ◌++◌, length, drop, None, Option, sym, refl, ap, ◌∙◌, subst, zero-le, arith}
use lib.Ieee.{Float}
use Rattle.std.proofs.lemmas.List.{append-nil, append_assoc, length-append, at_drop_all, at_drop_more}
use Rattle.column.specs.Columns.{Column}
use Rattle.stats.specs.Stats.{Stats}
use Rattle.scheme.specs.declared.estimate.CompressionEstimate.{CompressionEstimate}
use Rattle.scheme.specs.declared.estimate.CompressionEstimate.TheVariants.{Verdict, Deferred}
use Rattle.scheme.specs.declared.estimate.EstimateVerdict.TheVariants.{Skip, AlwaysUse, Ratio}
use Rattle.scheme.specs.declared.estimate.DeferredEstimate.{DeferredEstimate}
use Rattle.scheme.specs.declared.estimate.EstimateScore.TheVariants.{FiniteCompression}
use Rattle.scheme.specs.Meaning.{Meaning, History}
use Rattle.scheme.specs.Banks.{at, nothing}
use Rattle.scheme.specs.declared.bounded.Bounded.{Bounded}
use Rattle.scheme.specs.Exclusion.{competes, keep_if, eligible, eligible_of}
use Rattle.levels.specs.Choice.{Best, Asked, ended, waiting, wait, ask_step, asked, bested}
use Rattle.levels.specs.NodesOf.{Able}
use Rattle.choice.specs.declared.best.Leader.{Leader}
use Rattle.choice.specs.declared.table.Slot.{Slot}
use Rattle.choice.specs.Picks.{best_of, slots_of, deferred_of, AbleLeader, AbleSlots}

-- what waits already, before what will
abbrev pub prepend : List (Meaning × DeferredEstimate) → Asked → Asked
prepend ds (ended m) = ended m
prepend ds (waiting b es) = waiting b (ds ++ es)

prepend-none : (x : Asked) → prepend [] x ≡ x
prepend-none (ended m) = refl
prepend-none (waiting b es) = refl

prepend-wait : (ds : List (Meaning × DeferredEstimate)) (m : Meaning) (d : DeferredEstimate) (x : Asked) → prepend (ds ++ ((m, d) ∷ [])) x ≡ prepend ds (wait m d x)
prepend-wait ds m d (ended n) = refl
prepend-wait ds m d (waiting b es) = ap (waiting b) (append_assoc ds ((m, d) ∷ []) es)

deferred-more : (ms : List Meaning) (ss : List Slot) (s : Slot) → deferred_of ms (ss ++ (s ∷ [])) ≡ deferred_of ms ss ++ ((at ms s.scheme, s.estimate) ∷ [])
deferred-more ms [] s = refl
deferred-more ms (x ∷ ss) s = ap (λ r. (at ms x.scheme, x.estimate) ∷ r) (deferred-more ms ss s)

slots-more : (ms : List Meaning) (k : ℕ) (ss : List Slot) (s : Slot) → AbleSlots ms k ss → Able ms k s.scheme → AbleSlots ms k (ss ++ (s ∷ []))
slots-more ms k [] s h e = (e, tt)
slots-more ms k (x ∷ ss) s h e = (h.0, slots-more ms k ss s h.1 e)

-- whether a scheme competes, by an equal history
pub competes-at : (ms : List Meaning) (k i : ℕ) {hs h : History} {b : Bool} → hs ≡ h → b ≡ competes ms k hs (at ms i) → b ≡ competes ms k h (at ms i)
competes-at ms k i eh e = e ∙ ap (λ x. competes ms k x (at ms i)) eh

-- a scheme that competes takes the kind
first_of : (a b : Bool) → (a && b) ≡ true → a ≡ true
first_of true b e = refl
first_of false b e = e

pub able-here : (ms : List Meaning) (k : ℕ) (h : History) (i : ℕ) → i < length ms → true ≡ competes ms k h (at ms i) → Able ms k i
able-here ms k h i lt e = record { within = lt; takes = first_of _ _ (sym e) }

-- ---- one scheme of the bank

eligible-at : (ms : List Meaning) (k : ℕ) (h : History) (i : ℕ) (b : Bool) → i < length ms → b ≡ competes ms k h (at ms i)
    → eligible_of ms k h (drop i ms) ≡ keep_if b (at ms i) (eligible_of ms k h (drop (i + 1) ms))
eligible-at ms k h i b lt e =
    at_drop_more (eligible_of ms k h) ms i nothing lt ∙ ap (λ x. keep_if x (at ms i) (eligible_of ms k h (drop (i + 1) ms))) (sym e)

-- what the schemes from number i on come to, after those that wait and the best so far
abbrev pub rest_of : Column → Stats → History → Bool → List Meaning → ℕ → ℕ → List (Meaning × DeferredEstimate) → Best → Asked
rest_of c t h f ms k i ds b = prepend ds (asked c t h f (eligible_of ms k h (drop i ms)) b)

module _ (c : Column) (t : Stats) (h : History) (f : Bool) (ms : List Meaning) (k i : ℕ) (ds : List (Meaning × DeferredEstimate)) (b : Best) (w : Asked)
    (lt : i < length ms) (inv : rest_of c t h f ms k i ds b ≡ w) where
  -- it is not eligible
  turn-out : false ≡ competes ms k h (at ms i) → rest_of c t h f ms k (i + 1) ds b ≡ w
  turn-out e = sym (ap (λ xs. prepend ds (asked c t h f xs b)) (eligible-at ms k h i false lt e)) ∙ inv

  -- it answers
  turn : (a : CompressionEstimate) → true ≡ competes ms k h (at ms i) → a ≡ (at ms i).answer c t h f
      → prepend ds (ask_step (at ms i) a b (asked c t h f (eligible_of ms k h (drop (i + 1) ms)))) ≡ w
  unfolding asked
  turn a e ea =
      ap (λ x. prepend ds (ask_step (at ms i) x b (asked c t h f (eligible_of ms k h (drop (i + 1) ms))))) ea
      ∙ sym (ap (λ xs. prepend ds (asked c t h f xs b)) (eligible-at ms k h i true lt e)) ∙ inv

  pub turn-always : true ≡ competes ms k h (at ms i) → Verdict AlwaysUse ≡ (at ms i).answer c t h f → ended (at ms i) ≡ w
  turn-always e ea = turn (Verdict AlwaysUse) e ea

  turn-ratio : (x : Float) (b2 : Best) → true ≡ competes ms k h (at ms i) → Verdict (Ratio x) ≡ (at ms i).answer c t h f
      → b2 ≡ bested (at ms i) (FiniteCompression x) b → rest_of c t h f ms k (i + 1) ds b2 ≡ w
  turn-ratio x b2 e ea eb = ap (rest_of c t h f ms k (i + 1) ds) eb ∙ turn (Verdict (Ratio x)) e ea

  turn-deferred : (d : DeferredEstimate) (ds2 : List (Meaning × DeferredEstimate)) → true ≡ competes ms k h (at ms i) → Deferred d ≡ (at ms i).answer c t h f
      → ds2 ≡ ds ++ ((at ms i, d) ∷ []) → rest_of c t h f ms k (i + 1) ds2 b ≡ w
  turn-deferred d ds2 e ea ed =
      let x = asked c t h f (eligible_of ms k h (drop (i + 1) ms)) b in
      ap (λ y. prepend y x) ed ∙ prepend-wait ds (at ms i) d x ∙ turn (Deferred d) e ea

-- no scheme is left
pub turns-done : (c : Column) (t : Stats) (h : History) (f : Bool) (ms : List Meaning) (k i : ℕ) (ds : List (Meaning × DeferredEstimate)) (b : Best) (w : Asked) → length ms ≤ i
    → rest_of c t h f ms k i ds b ≡ w → waiting b ds ≡ w
unfolding asked
turns-done c t h f ms k i ds b w ge inv =
    ap (waiting b) (sym (append-nil ds)) ∙ sym (ap (λ xs. prepend ds (asked c t h f xs b)) (at_drop_all (eligible_of ms k h) ms i ge)) ∙ inv

-- ---- the loop: what is left to ask gives the answer w, and every scheme held takes the kind

pub record Kept (c : Column) (t : Stats) (h : History) (f : Bool) (ms : List Meaning) (k i : ℕ) (T : Bounded Slot 8) (b : Option Leader) (w : Asked) : Type 0 where
  pub left : rest_of c t h f ms k i (deferred_of ms (slots_of T)) (best_of ms b) ≡ w
  pub leader : AbleLeader ms k b
  pub slots : AbleSlots ms k (slots_of T)
  pub few : length (slots_of T) ≤ i
  pub within : length (slots_of T) ≤ length ms

pub kept-start : (c : Column) (t : Stats) (h : History) (f : Bool) (ms : List Meaning) (k : ℕ) (T : Bounded Slot 8) → slots_of T ≡ []
    → Kept c t h f ms k 0 T None (asked c t h f (eligible ms k h) None)
kept-start c t h f ms k T es =
    let x = asked c t h f (eligible ms k h) None in
    let S : List Slot → Type 0 = λ y. AbleSlots ms k y in
    let none : length (slots_of T) ≤ 0 = subst (λ (y : List Slot). length y ≤ 0) (sym es) zero-le in
    record { left = ap (λ y. prepend (deferred_of ms y) x) es ∙ prepend-none x; leader = tt; slots = subst S (sym es) tt; few = none; within = omega arith }

module _ (c : Column) (t : Stats) (h : History) (f : Bool) (ms : List Meaning) (k i : ℕ) (T T2 : Bounded Slot 8) (b b2 : Option Leader) (w : Asked)
    (lt : i < length ms) (inv : Kept c t h f ms k i T b w) where
  same : T2 ≡ T → b2 ≡ b → rest_of c t h f ms k (i + 1) (deferred_of ms (slots_of T)) (best_of ms b) ≡ w → Kept c t h f ms k (i + 1) T2 b2 w
  same e_t eb l =
      let n = inv.few in
      let P : Bounded Slot 8 → Type 0 = λ y. Kept c t h f ms k (i + 1) y b w in
      let Q : Option Leader → Type 0 = λ y. Kept c t h f ms k (i + 1) T2 y w in
      subst Q (sym eb) (subst P (sym e_t) (record { left = l; leader = inv.leader; slots = inv.slots; few = omega arith; within = inv.within }))

  pub kept_out : false ≡ competes ms k h (at ms i) → T2 ≡ T → b2 ≡ b → Kept c t h f ms k (i + 1) T2 b2 w
  kept_out e e_t eb = same e_t eb (turn-out c t h f ms k i (deferred_of ms (slots_of T)) (best_of ms b) w lt inv.left e)

  pub kept-skip : true ≡ competes ms k h (at ms i) → Verdict Skip ≡ (at ms i).answer c t h f → T2 ≡ T → b2 ≡ b → Kept c t h f ms k (i + 1) T2 b2 w
  kept-skip e ea e_t eb = same e_t eb (turn c t h f ms k i (deferred_of ms (slots_of T)) (best_of ms b) w lt inv.left (Verdict Skip) e ea)

  pub kept-ratio : (x : Float) (b3 : Option Leader) → true ≡ competes ms k h (at ms i) → Verdict (Ratio x) ≡ (at ms i).answer c t h f → T2 ≡ T → b2 ≡ b3
      → best_of ms b3 ≡ bested (at ms i) (FiniteCompression x) (best_of ms b) → AbleLeader ms k b3 → Kept c t h f ms k (i + 1) T2 b2 w
  kept-ratio x b3 e ea e_t e3 eb a =
      let n = inv.few in
      let P : Bounded Slot 8 → Type 0 = λ y. Kept c t h f ms k (i + 1) y b3 w in
      let Q : Option Leader → Type 0 = λ y. Kept c t h f ms k (i + 1) T2 y w in
      subst Q (sym e3) (subst P (sym e_t) (record {
        left = turn-ratio c t h f ms k i (deferred_of ms (slots_of T)) (best_of ms b) w lt inv.left x (best_of ms b3) e ea eb;
        leader = a;
        slots = inv.slots;
        few = omega arith;
        within = inv.within;
      }))

  pub kept-deferred : (d : DeferredEstimate) (T3 : Bounded Slot 8) → true ≡ competes ms k h (at ms i) → Deferred d ≡ (at ms i).answer c t h f → T2 ≡ T3
      → slots_of T3 ≡ slots_of T ++ (record { scheme = i; estimate = d } ∷ []) → b2 ≡ b → Kept c t h f ms k (i + 1) T2 b2 w
  kept-deferred d T3 e ea e3 es eb =
      let n = inv.few in
      let s : Slot = record { scheme = i; estimate = d } in
      let more = ap length es ∙ length-append (slots_of T) (s ∷ []) in
      let S : List Slot → Type 0 = λ y. AbleSlots ms k y in
      let P : Bounded Slot 8 → Type 0 = λ y. Kept c t h f ms k (i + 1) y b w in
      let Q : Option Leader → Type 0 = λ y. Kept c t h f ms k (i + 1) T2 y w in
      subst Q (sym eb) (subst P (sym e3) (record {
        left = turn-deferred c t h f ms k i (deferred_of ms (slots_of T)) (best_of ms b) w lt inv.left d (deferred_of ms (slots_of T3)) e ea (ap (deferred_of ms) es ∙ deferred-more ms (slots_of T) s);
        leader = inv.leader;
        slots = subst S (sym es) (slots-more ms k (slots_of T) s inv.slots (able-here ms k h i lt e));
        few = omega (arith, more);
        within = omega (arith, more);
      }))
