-- What the levels make stands.
use Rattle.std.proofs.Common.{◌≡◌, ℕ, zero, suc, ◌≤◌, Bool, true, false, true≢false, eqb, ltb, List, [], ◌∷◌, ◌++◌, length, Some, None, Ok, Err, Result, sym, refl, ap, ◌∙◌, subst, suc-le-suc, zero-le}
use Rattle.std.specs.List.{AllByRecursion}
use Rattle.std.proofs.ByRecursion.{All-weaker}
use Rattle.std.proofs.lemmas.Bool.{ltb-true, ltb-false}
use Rattle.column.specs.declared.refusals.Refusal.{Refusal}
use Rattle.column.specs.Columns.{Row, Column, values}
use Rattle.stats.specs.Stats.{Stats}
use Rattle.node.specs.Nodes.{Node, weight, plain_node, constant_node}
use Rattle.scheme.specs.declared.estimate.CompressionEstimate.{CompressionEstimate}
use Rattle.scheme.specs.declared.estimate.CompressionEstimate.TheVariants.{Verdict, Deferred}
use Rattle.scheme.specs.declared.estimate.DeferredEstimate.TheVariants.{Sample, Callback}
use Rattle.scheme.specs.declared.estimate.EstimateVerdict.{EstimateVerdict}
use Rattle.scheme.specs.Scores.{marked}
use Rattle.scheme.specs.Meaning.{Meaning, Parts, History, Keeps}
use Rattle.scheme.specs.Exclusion.{competes, keep_if, eligible_of, eligible}
use Rattle.scheme.specs.Banks.{AllKeep}
use Rattle.levels.specs.Choice.{Best, mark_of, Late, Chosen, late_step, asked, decided, chosen_by}
use Rattle.levels.specs.Levels.{score_by, Bound, Below, Kids, kid_step, kids_below, scheme_node, over_kids, bound_by, scheme_bound, late, stats_at, choice, lighter_by, or_plain, won, taken_constant, constant_by, leveled, levels}
use Rattle.levels.specs.Standing.{Scoring, ScoresStand, Opening, Keep, verdict_by, verdict_at, answer_at, competitors, WinsAt, SomeScheme, Competed, Stands, on_ground, no_row, no_value, one_value, one_value_plain, no_scheme, none_counts, not_lighter, winner_stands, StandAll, none_left, one_more, LevelsStand}
use Rattle.levels.proofs.WinnerLaws.{Outcome, Told, Known, mark-free, chosen-ok}

all-keep_if : (P : Meaning → Type 0) (b : Bool) (m : Meaning) (ms : List Meaning) → P m → AllByRecursion P ms → AllByRecursion P (keep_if b m ms)
all-keep_if P true m ms p q = (p, q)
all-keep_if P false m ms p q = q

pub all-eligible : (P : Meaning → Type 0) (bank : List Meaning) (k : ℕ) (h : History) (ms : List Meaning) → AllByRecursion P ms → AllByRecursion P (eligible_of bank k h ms)
all-eligible P bank k h [] p = tt
all-eligible P bank k h (m ∷ ms) p = all-keep_if P (competes bank k h m) m (eligible_of bank k h ms) p.0 (all-eligible P bank k h ms p.1)

pub keep_all : (ms : List Meaning) → AllKeep ms → AllByRecursion Keeps ms
keep_all [] k = tt
keep_all (m ∷ ms) k = (k.0, keep_all ms k.1)

verdict-marked : (c : Column) (t : Stats) (h : History) (f : Bool) (m : Meaning) → Keeps m → (b : Best)
    → m.verdict c t h f (mark_of b) ≡ marked (mark_of b) (m.verdict c t h f None)
verdict-marked c t h f m k None = refl
verdict-marked c t h f m k (Some b) = k.marks c t h f b.1

module _ (o : Opening) (keep : Keep o) (f : Bool) where
  abbrev pub below : ℕ → Below
  below l = levels o.bank o.source l

  abbrev BoundOk : ℕ → Column → History → Bound → Type 0
  BoundOk l c h (Ok n) = Stands o f l c h n
  BoundOk l c h (Err e) = Unit {0}

  abbrev KidsOk : ℕ → ℕ → History → ℕ → List Column → Kids → Type 0
  KidsOk l i h k cs (Ok ns) = StandAll o f l i h k cs ns
  KidsOk l i h k cs (Err e) = Unit {0}

  kid-go : (l i : ℕ) (h : History) (k : ℕ) (c : Column) (cs : List Column) (x : Bound) (ks : Kids)
      → BoundOk l c (h ++ ((i, k) ∷ [])) x → KidsOk l i h (suc k) cs ks → KidsOk l i h k (c ∷ cs) (kid_step x ks)
  kid-go l i h k c cs (Ok n) (Ok ns) p q = one_more l i h k c cs n ns p q
  kid-go l i h k c cs (Ok n) (Err e) p q = tt
  kid-go l i h k c cs (Err e) ks p q = tt

  kids-ok : (l i : ℕ) (h : History) → ((c : Column) (g : History) → BoundOk l c g (below l c g f))
      → (k : ℕ) (cs : List Column) → KidsOk l i h k cs (kids_below (below l) i h f k cs)
  kids-ok l i h ih k [] = none_left l i h k
  kids-ok l i h ih k (c ∷ cs) =
      kid-go l i h k c cs (below l c (h ++ ((i, k) ∷ [])) f) (kids_below (below l) i h f (suc k) cs) (ih c (h ++ ((i, k) ∷ []))) (kids-ok l i h ih (suc k) cs)

  -- ---- one level
  module _ (l : ℕ) (c : Column) (h : History) where
    abbrev pub measured : Stats
    measured = stats_at o.bank c h

    abbrev pub coming : Late
    coming = late o.source (below l) c measured h f

    abbrev pub chosen_at : Chosen
    chosen_at = choice o.bank o.source (below l) c h f

    told : (m : Meaning) → Keeps m → (a : CompressionEstimate) → answer_at o f c h m ≡ a → Told c measured h f (verdict_at o f l c h) coming m a
    told m k (Verdict v) e = ap (verdict_by o f l c h m) e
    told m k (Deferred Sample) e = (ap (verdict_by o f l c h m) e, λ b next. refl)
    told m k (Deferred Callback) e = (
      ap (verdict_by o f l c h m) e,
      λ b next. ap (λ v. late_step m (Ok v) b next) (verdict-marked c measured h f m k b) ∙ mark-free m b (m.verdict c measured h f None) next,
    )

    -- the choice ends with the winner, or none counts
    pub outcome : Outcome (verdict_at o f l c h) (competitors o f c h) chosen_at
    unfolding choice
    outcome =
        chosen-ok c measured h f (verdict_at o f l c h) coming (eligible o.bank c.kind h)
        (All-weaker Keeps (Known c measured h f (verdict_at o f l c h) coming) (λ m k. told m k (answer_at o f c h m) refl) (eligible o.bank c.kind h)
        (all-eligible Keeps o.bank c.kind h o.bank (keep_all o.bank keep.bank)))

    pub nobody : eligible o.bank c.kind h ≡ [] → chosen_at ≡ Ok None
    unfolding choice asked decided
    nobody e = ap (λ ms. chosen_by coming (asked c measured h f ms None)) e

    module _ (ih : (b : Column) (g : History) → BoundOk l b g (below l b g f)) where
      light-go : (m : Meaning) (p : Parts) (ns : List Node) (b : Bool) → ltb (weight (scheme_node m c p ns)) (weight (plain_node c)) ≡ b
          → Competed o f c h → WinsAt o f l c h m → m.parts c ≡ Ok p → StandAll o f l m.id h 0 p.children ns
          → Stands o f (suc l) c h (lighter_by b (scheme_node m c p ns) (plain_node c))
      light-go m p ns true e cm w g st = winner_stands l c h m p ns cm w g st (ltb-true _ _ e)
      light-go m p ns false e cm w g st = not_lighter l c h m p ns cm w g st (ltb-false _ _ e)

      node-go : (m : Meaning) (p : Parts) (ks : Kids) → Competed o f c h → WinsAt o f l c h m → m.parts c ≡ Ok p → KidsOk l m.id h 0 p.children ks
          → BoundOk (suc l) c h (or_plain c (over_kids m c p ks))
      node-go m p (Ok ns) cm w g q = light-go m p ns (ltb (weight (scheme_node m c p ns)) (weight (plain_node c))) refl cm w g q
      node-go m p (Err e) cm w g q = tt

      parts-go : (m : Meaning) (x : Result Parts ℕ) → m.parts c ≡ x → Competed o f c h → WinsAt o f l c h m → BoundOk (suc l) c h (or_plain c (bound_by (below l) m c h f x))
      parts-go m (Ok p) g cm w = node-go m p (kids_below (below l) m.id h f 0 p.children) cm w g (kids-ok l m.id h ih 0 p.children)
      parts-go m (Err r) g cm w = tt

      won-go : (x : Chosen) → Competed o f c h → Outcome (verdict_at o f l c h) (competitors o f c h) x → BoundOk (suc l) c h (won (below l) c h f x)
      unfolding scheme_bound
      won-go (Ok None) cm w = none_counts l c h cm w
      won-go (Ok (Some m)) cm w = parts-go m (m.parts c) refl cm w
      won-go (Err e) cm w = tt

      competed-go : (ms : List Meaning) → eligible o.bank c.kind h ≡ ms → 1 ≤ length (values c) → taken_constant f c ≡ false
          → BoundOk (suc l) c h (won (below l) c h f chosen_at)
      competed-go [] e p q = subst (λ x. BoundOk (suc l) c h (won (below l) c h f x)) (sym (nobody e)) (no_scheme l c h p q e)
      competed-go (m ∷ ms) e p q = won-go chosen_at (record { valued = p; varied = q; eligible = subst SomeScheme (sym e) tt }) outcome

      constant-go : (b : Bool) → ltb (weight (constant_node c)) (weight (plain_node c)) ≡ b → taken_constant f c ≡ true
          → Stands o f (suc l) c h (lighter_by b (constant_node c) (plain_node c))
      constant-go true g e = one_value l c h e (ltb-true _ _ g)
      constant-go false g e = one_value_plain l c h e (ltb-false _ _ g)

      valued-go : (b : Bool) → taken_constant f c ≡ b → 1 ≤ length (values c) → BoundOk (suc l) c h (constant_by b o.bank o.source (below l) c h f)
      valued-go true e p = constant-go (ltb (weight (constant_node c)) (weight (plain_node c))) refl e
      valued-go false e p = competed-go (eligible o.bank c.kind h) refl p e

      leveled-go : (rs : List Row) (vs : List ℕ) → c.rows ≡ rs → values c ≡ vs → BoundOk (suc l) c h (leveled o.bank o.source (below l) c h f rs vs)
      leveled-go [] vs e g = no_row l c h (ap length e)
      leveled-go (r ∷ rs) [] e g = no_value l c h (subst (λ us. 1 ≤ length us) (sym e) (suc-le-suc zero-le)) g
      leveled-go (r ∷ rs) (v ∷ vs) e g = valued-go (taken_constant f c) refl (subst (λ us. 1 ≤ length us) (sym g) (suc-le-suc zero-le))

  bound-ok : (l : ℕ) (c : Column) (h : History) → BoundOk l c h (below l c h f)
  unfolding levels
  bound-ok zero c h = on_ground c h
  bound-ok (suc l) c h = leveled-go l c h (bound-ok l) c.rows (values c) refl refl

pub levels-stand : LevelsStand
levels-stand o k f l c h n e = subst (BoundOk o k f l c h) e (bound-ok o k f l c h)

-- ---- scores

verdict-is : {v w : EstimateVerdict} → ◌≡◌ {A = Result EstimateVerdict Refusal} (Ok v) (Ok w) → w ≡ v
verdict-is e = cc

not-refused : {X : Type 0} {r : Refusal} {v : EstimateVerdict} → ◌≡◌ {A = Result EstimateVerdict Refusal} (Err r) (Ok v) → X
not-refused e = absurd (let z : ◌≡◌ {A = ℕ} 0 1 = cc in true≢false (ap (eqb 0) z))

pub scores-stand : ScoresStand
unfolding scheme_bound
scores-stand o k l c h m v e = parts-go (m.parts c) refl e
  where
    kids-go : (p : Parts) → m.parts c ≡ Ok p → (ks : Kids) → KidsOk o k true l m.id h 0 p.children ks → score_by c (over_kids m c p ks) ≡ Ok v → Scoring o l c h m v
    kids-go p g (Ok ns) q x = record { parts = p; children = ns; given = g; stand = q; score = verdict-is x }
    kids-go p g (Err r) q x = not-refused x

    parts-go : (x : Result Parts ℕ) → m.parts c ≡ x → score_by c (bound_by (below o k true l) m c h true x) ≡ Ok v → Scoring o l c h m v
    parts-go (Ok p) g x = kids-go p g (kids_below (below o k true l) m.id h true 0 p.children) (kids-ok o k true l m.id h (bound-ok o k true l) 0 p.children) x
    parts-go (Err r) g x = not-refused x
