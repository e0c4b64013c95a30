-- A level by its steps.
use Rattle.std.proofs.Common.{◌≡◌, ℕ, zero, suc, ◌-◌, ◌<◌, ◌≤◌, Bool, true, false, List, [], ◌∷◌, take, Some, None, Ok, Err, Option, Result, option_map, sym, refl, ap, ◌∙◌, subst, arith}
use Rattle.std.proofs.lemmas.Bool.{lt-ltb, le-ltb}
use Rattle.column.specs.declared.refusals.Refusal.{Refusal}
use Rattle.column.specs.Columns.{Row, Column, values}
use Rattle.stats.specs.Stats.{Stats, stats}
use Rattle.node.specs.Nodes.{Node, leaf, weight, plain_node}
use Rattle.sample.specs.Draws.{Source}
use Rattle.scheme.specs.declared.estimate.DeferredEstimate.{DeferredEstimate}
use Rattle.scheme.specs.Meaning.{Meaning, History}
use Rattle.scheme.specs.Banks.{at}
use Rattle.scheme.specs.Exclusion.{eligible, wanted}
use Rattle.levels.specs.Choice.{Asked, ended, waiting, asked, decided, Chosen, chosen_by, Best}
use Rattle.levels.specs.Levels.{Bound, Below, levels, level, leveled, constant_by, taken_constant, competed, choice, late, stats_at, won, or_plain, scheme_bound, lighter_by}
use Rattle.levels.specs.Plans.{node_count, forms}
use Rattle.cascade.specs.declared.size.Size.{Size}
use Rattle.cascade.specs.declared.leaf.Leaf.{Leaf}
use Rattle.cascade.specs.Sizes.{size_of, sized, Planned, leaf_of}
use Rattle.cascade.specs.Settled.{settled, settled_by, settled_constant}

-- ---- what is answered, and what the plan holds

pub record Ends (b : Bound) (r : Result Size Refusal) (p : List ℕ) : Type 0 where
  pub size : r ≡ sized b
  pub plan : Planned b p

pub as_bound : {b e : Bound} {r : Result Size Refusal} {plan : List ℕ} → b ≡ e → Ends e r plan → Ends b r plan
as_bound {b} {e} {r} {plan} q h = subst (λ x. Ends x r plan) (sym q) h

-- a node without children
pub record Bud (n : Node) : Type 0 where
  pub one : node_count n ≡ 1
  pub form : forms n ≡ (leaf_of n).form ∷ []

pub bud : {h : _} {p : List ℕ} → Bud (leaf h p)
bud = record { one = refl; form = refl }

pub leaf-ends : (n : Node) (l : Leaf) (s : Size) (plan : List ℕ) (rest : List ℕ) → Bud n → l ≡ leaf_of n → s ≡ l.size → plan ≡ l.form ∷ rest → Ends (Ok n) (Ok s) plan
leaf-ends n l s plan rest b el es ep = record {
  size = ap Ok (es ∙ ap (λ x. x.size) el);
  plan = ap (λ k. take k plan) b.one ∙ ap (take 1) ep ∙ ap (λ x. x.form ∷ []) el ∙ sym b.form;
}

-- ---- the steps before the choice

pub on-ground : (ms : List Meaning) (d : Source) (l : ℕ) (c : Column) (h : History) (f : Bool) → l ≡ 0 → levels ms d l c h f ≡ Ok (plain_node c)
unfolding levels
on-ground ms d l c h f e = ap (λ k. levels ms d k c h f) e

above-ground : (ms : List Meaning) (d : Source) (l : ℕ) (c : Column) (h : History) (f : Bool) → 0 < l → levels ms d l c h f ≡ level ms d (levels ms d (l - 1)) c h f
unfolding levels
above-ground ms d zero c h f p = absurd (omega arith)
above-ground ms d (suc l) c h f p = let e : l ≡ suc l - 1 = omega arith in ap (λ k. level ms d (levels ms d k) c h f) e

-- a node, or what the competition comes to
abbrev pub or_competed : Bound → Option Node → Bound
or_competed w None = w
or_competed w (Some n) = Ok n

level-by : (ms : List Meaning) (d : Source) (below : Below) (c : Column) (h : History) (f : Bool) (rs : List Row) (vs : List ℕ)
    → leveled ms d below c h f rs vs ≡ or_competed (competed ms d below c h f) (settled_by f c rs vs)
level-by ms d below c h f [] vs = refl
level-by ms d below c h f (r ∷ rs) [] = refl
level-by ms d below c h f (r ∷ rs) (v ∷ vs) = go (taken_constant f c)
  where
    go : (b : Bool) → constant_by b ms d below c h f ≡ or_competed (competed ms d below c h f) (settled_constant b c)
    go true = refl
    go false = refl

pub levels-by : (ms : List Meaning) (d : Source) (l : ℕ) (c : Column) (h : History) (f : Bool) → 0 < l
    → levels ms d l c h f ≡ or_competed (competed ms d (levels ms d (l - 1)) c h f) (settled f c)
levels-by ms d l c h f p = above-ground ms d l c h f p ∙ level-by ms d (levels ms d (l - 1)) c h f c.rows (values c)

-- what is settled is a node without children
abbrev Budding : Option Node → Type 0
Budding None = Unit {0}
Budding (Some n) = Bud n

lighter-bud : (b : Bool) (n p : Node) → Bud n → Bud p → Bud (lighter_by b n p)
lighter-bud true n p x y = x
lighter-bud false n p x y = y

settled-bud : (f : Bool) (c : Column) (rs : List Row) (vs : List ℕ) → Budding (settled_by f c rs vs)
settled-bud f c [] vs = bud
settled-bud f c (r ∷ rs) [] = bud
settled-bud f c (r ∷ rs) (v ∷ vs) = go (taken_constant f c)
  where
    go : (b : Bool) → Budding (settled_constant b c)
    go true = lighter-bud _ _ _ bud bud
    go false = tt

-- a leaf that was settled on
pub settled-ends : (ms : List Meaning) (d : Source) (l : ℕ) (c : Column) (h : History) (f : Bool) (a : Leaf) (s : Size) (plan rest : List ℕ) → 0 < l
    → ◌≡◌ {A = Option Leaf} (Some a) (option_map leaf_of (settled f c)) → s ≡ a.size → plan ≡ a.form ∷ rest → Ends (levels ms d l c h f) (Ok s) plan
settled-ends ms d l c h f a s plan rest p e es ep = as_bound (levels-by ms d l c h f p) (go (settled f c) e (settled-bud f c c.rows (values c)))
  where
    go : (o : Option Node) → ◌≡◌ {A = Option Leaf} (Some a) (option_map leaf_of o) → Budding o → Ends (or_competed (competed ms d (levels ms d (l - 1)) c h f) o) (Ok s) plan
    go None q b = absurd (let z : ◌≡◌ {A = ℕ} 0 1 = cc in omega arith)
    go (Some n) q b = let x : a ≡ leaf_of n = cc in leaf-ends n a s plan rest b x es ep

-- nothing was settled
pub competed-ends : (ms : List Meaning) (d : Source) (l : ℕ) (c : Column) (h : History) (f : Bool) (r : Result Size Refusal) (plan : List ℕ) → 0 < l
    → ◌≡◌ {A = Option Leaf} None (option_map leaf_of (settled f c)) → Ends (competed ms d (levels ms d (l - 1)) c h f) r plan → Ends (levels ms d l c h f) r plan
competed-ends ms d l c h f r plan p e w = as_bound (levels-by ms d l c h f p) (go (settled f c) e)
  where
    go : (o : Option Node) → ◌≡◌ {A = Option Leaf} None (option_map leaf_of o) → Ends (or_competed (competed ms d (levels ms d (l - 1)) c h f) o) r plan
    go None q = w
    go (Some n) q = absurd (let z : ◌≡◌ {A = ℕ} 0 1 = cc in omega arith)

-- ---- the choice

module _ (ms : List Meaning) (d : Source) (below : Below) (c : Column) (h : History) (f : Bool) (t : Stats) (et : t ≡ stats_at ms c h) where
  choice-by : (x : Asked) → x ≡ asked c t h f (eligible ms c.kind h) None → chosen_by (late d below c t h f) x ≡ choice ms d below c h f
  unfolding choice
  choice-by x e =
      ap (chosen_by (late d below c t h f)) e ∙ ap (λ s. chosen_by (late d below c s h f) (asked c s h f (eligible ms c.kind h) None)) et

  pub choice-ended : (i : ℕ) → ended (at ms i) ≡ asked c t h f (eligible ms c.kind h) None → ◌≡◌ {A = Chosen} (Ok (Some (at ms i))) (choice ms d below c h f)
  choice-ended i e = choice-by (ended (at ms i)) e

  pub choice-waiting : (b : Best) (ds : List (Meaning × DeferredEstimate)) (r : Chosen) → waiting b ds ≡ asked c t h f (eligible ms c.kind h) None
      → r ≡ decided (late d below c t h f) ds b → r ≡ choice ms d below c h f
  choice-waiting b ds r e q = q ∙ choice-by (waiting b ds) e

-- the statistics that the eligible want
pub stats-here : (ms : List Meaning) (c : Column) (hs h : History) (w : Bool) (t : Stats) → t ≡ stats w c → w ≡ wanted (eligible ms c.kind hs) → hs ≡ h → t ≡ stats_at ms c h
stats-here ms c hs h w t e q p = e ∙ ap (λ x. stats x c) q ∙ ap (λ x. stats (wanted (eligible ms c.kind x)) c) p

-- ---- the winner

module _ (ms : List Meaning) (d : Source) (below : Below) (c : Column) (h : History) (f : Bool) where
  pub choice-refused : (e : Refusal) (plan : List ℕ) → ◌≡◌ {A = Chosen} (Err e) (choice ms d below c h f) → Ends (competed ms d below c h f) (Err e) plan
  choice-refused e plan q = as_bound (ap (won below c h f) (sym q)) (record { size = refl; plan = tt })

  pub none-won : (a : Leaf) (s : Size) (plan rest : List ℕ) → ◌≡◌ {A = Chosen} (Ok None) (choice ms d below c h f) → a ≡ leaf_of (plain_node c) → s ≡ a.size → plan ≡ a.form ∷ rest
      → Ends (competed ms d below c h f) (Ok s) plan
  none-won a s plan rest q ea es ep = as_bound (ap (won below c h f) (sym q)) (leaf-ends (plain_node c) a s plan rest bud ea es ep)

  module _ (i : ℕ) (q : ◌≡◌ {A = Chosen} (Ok (Some (at ms i))) (choice ms d below c h f)) where
    won-is : (b : Bound) → scheme_bound below (at ms i) c h f ≡ b → competed ms d below c h f ≡ or_plain c b
    won-is b e = ap (won below c h f) (sym q) ∙ ap (or_plain c) e

    pub winner-refused : (e : Refusal) (plan : List ℕ) → Ends (scheme_bound below (at ms i) c h f) (Err e) plan → Ends (competed ms d below c h f) (Err e) plan
    winner-refused e plan w = go (scheme_bound below (at ms i) c h f) refl w.size
      where
        go : (b : Bound) → scheme_bound below (at ms i) c h f ≡ b → ◌≡◌ {A = Result Size Refusal} (Err e) (sized b) → Ends (competed ms d below c h f) (Err e) plan
        go (Ok n) eb x = absurd (let z : ◌≡◌ {A = ℕ} 0 1 = cc in omega arith)
        go (Err y) eb x = let z : e ≡ y = cc in as_bound (won-is (Err y) eb) (record { size = ap Err z; plan = tt })

    pub winner-lighter : (s p : Size) (plan : List ℕ) → Ends (scheme_bound below (at ms i) c h f) (Ok s) plan → p ≡ size_of (plain_node c) → s.weight < p.weight
        → Ends (competed ms d below c h f) (Ok s) plan
    winner-lighter s p plan w ep lt = go (scheme_bound below (at ms i) c h f) refl w.size w.plan
      where
        go : (b : Bound) → scheme_bound below (at ms i) c h f ≡ b → ◌≡◌ {A = Result Size Refusal} (Ok s) (sized b) → Planned b plan → Ends (competed ms d below c h f) (Ok s) plan
        go (Ok n) eb x y =
            let z : s ≡ size_of n = cc in
            let a = ap (λ k. k.weight) z in
            let b = ap (λ k. k.weight) ep in
            let o : or_plain c (Ok n) ≡ Ok n = ap (λ t. Ok (lighter_by t n (plain_node c))) (lt-ltb (weight n) (weight (plain_node c)) (omega arith)) in
            as_bound (won-is (Ok n) eb ∙ o) (record { size = x; plan = y })
        go (Err r) eb x y = absurd (let z : ◌≡◌ {A = ℕ} 0 1 = cc in omega arith)

    pub winner-heavier : (s p r : Size) (plan old rest : List ℕ) (a : Leaf) → Ends (scheme_bound below (at ms i) c h f) (Ok s) old → a ≡ leaf_of (plain_node c) → p ≡ a.size → p.weight ≤ s.weight
        → r ≡ a.size → plan ≡ a.form ∷ rest → Ends (competed ms d below c h f) (Ok r) plan
    winner-heavier s p r plan old rest a w ea eq ge er ep = go (scheme_bound below (at ms i) c h f) refl w.size
      where
        go : (b : Bound) → scheme_bound below (at ms i) c h f ≡ b → ◌≡◌ {A = Result Size Refusal} (Ok s) (sized b) → Ends (competed ms d below c h f) (Ok r) plan
        go (Ok n) eb x =
            let z : s ≡ size_of n = cc in
            let u = ap (λ k. k.weight) z in
            let v : p.weight ≡ weight (plain_node c) = ap (λ k. k.weight) eq ∙ ap (λ k. k.size.weight) ea in
            let o : or_plain c (Ok n) ≡ Ok (plain_node c) = ap (λ t. Ok (lighter_by t n (plain_node c))) (le-ltb (weight n) (weight (plain_node c)) (omega arith)) in
            as_bound (won-is (Ok n) eb ∙ o) (leaf-ends (plain_node c) a r plan rest bud ea er ep)
        go (Err y) eb x = absurd (let z : ◌≡◌ {A = ℕ} 0 1 = cc in omega arith)
