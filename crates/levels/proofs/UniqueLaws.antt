-- No other node stands for a column that is bound.
use Rattle.std.proofs.Common.{◌≡◌, ℕ, suc, ◌<◌, ◌≤◌, Bool, true, false, not, ◌⊎◌, List, [], ◌∷◌, ◌++◌, length, Some, None, Ok, Err, sym, refl, ap, ◌∙◌, subst, inl, inr, suc-le-suc, zero-le, arith}
use Rattle.std.specs.List.{AllByRecursion}
use Rattle.std.proofs.lemmas.Bool.{lt-ltb, le-ltb, and_parts, both_ways}
use Rattle.column.specs.declared.refusals.Refusal.{Refusal}
use Rattle.column.specs.Columns.{Row, Column, values}
use Rattle.column.proofs.RowLaws.{length-values}
use Rattle.node.specs.Nodes.{Node, weight, plain_node, constant_node, blank_node}
use Rattle.scheme.specs.declared.estimate.EstimateVerdict.{EstimateVerdict}
use Rattle.scheme.specs.declared.estimate.EstimateVerdict.TheVariants.{Skip, AlwaysUse, Ratio}
use Rattle.scheme.specs.Scores.{valid, above}
use Rattle.scheme.specs.Meaning.{Meaning, Parts, History}
use Rattle.scheme.proofs.Ratios.{ratio-laws}
use Rattle.constant.specs.Constants.{constantly}
use Rattle.levels.specs.Choice.{Chosen}
use Rattle.levels.specs.Levels.{Bound, Below, Kids, kid_step, kids_below, scheme_node, over_kids, bound_by, scheme_bound, lighter_by, lighter, or_plain, won, taken_constant, constant_by, leveled, levels}
use Rattle.levels.specs.Standing.{Opening, Keep, counts, beats, equals, Lost, Wins, verdict_at, competitors, WinsAt, NoneCounts, Competed, Stands, on_ground, no_row, no_value, one_value, one_value_plain, no_scheme, none_counts, not_lighter, winner_stands, StandAll, none_left, one_more, OneStands}
use Rattle.levels.proofs.WinnerLaws.{LostOrSame, Uncounted, Outcome}
use Rattle.levels.proofs.StandingLaws.{below, chosen_at, outcome, nobody}

-- ---- verdicts: of two that count, not each beats or equals the other

clash : (v w : EstimateVerdict) → counts v ≡ true → counts w ≡ true → beats v w ≡ true → beats w v ≡ true → ⊥
clash Skip w a b p q = both_ways false refl a
clash AlwaysUse Skip a b p q = both_ways false refl b
clash AlwaysUse AlwaysUse a b p q = both_ways false refl p
clash AlwaysUse (Ratio y) a b p q = both_ways false refl q
clash (Ratio x) Skip a b p q = both_ways false refl b
clash (Ratio x) AlwaysUse a b p q = both_ways false refl p
clash (Ratio x) (Ratio y) a b p q =
    both_ways (above y x) (ratio-laws.ordered.asymmetric x y a b (and_parts (valid x) (above x y) p).1) (and_parts (valid y) (above y x) q).1

clash-equal : (v w : EstimateVerdict) → counts v ≡ true → counts w ≡ true → beats v w ≡ true → equals w v ≡ true → ⊥
clash-equal Skip w a b p q = both_ways false refl a
clash-equal AlwaysUse Skip a b p q = both_ways false refl b
clash-equal AlwaysUse AlwaysUse a b p q = both_ways false refl p
clash-equal AlwaysUse (Ratio y) a b p q = both_ways false refl q
clash-equal (Ratio x) Skip a b p q = both_ways false refl b
clash-equal (Ratio x) AlwaysUse a b p q = both_ways false refl p
clash-equal (Ratio x) (Ratio y) a b p q =
    both_ways (above x y) (ratio-laws.ordered.apart x y a b (ratio-laws.ordered.symmetric y x b a q)) (and_parts (valid x) (above x y) p).1

-- ---- where two stand in one list

abbrev In : Meaning → List Meaning → Type 0
In m [] = ⊥
In m (x ∷ xs) = (m ≡ x) ⊎ In m xs

all_in : (P : Meaning → Type 0) (m : Meaning) (xs : List Meaning) → AllByRecursion P xs → In m xs → P m
all_in P m [] a i = absurd i
all_in P m (x ∷ xs) a (inl e) = subst P (sym e) a.0
all_in P m (x ∷ xs) a (inr i) = all_in P m xs a.1 i

in-middle : (b : List Meaning) (m : Meaning) (a : List Meaning) → In m (b ++ (m ∷ a))
in-middle [] m a = inl refl
in-middle (x ∷ b) m a = inr (in-middle b m a)

-- m stands between b and a, u between b' and a': they are one, or one stands before the other
abbrev Placed : List Meaning → Meaning → List Meaning → List Meaning → Meaning → List Meaning → Type 0
Placed b m a b' u a' = (m ≡ u) ⊎ ((In m b' × In u a) ⊎ (In u b × In m a'))

further : (x y : Meaning) (b : List Meaning) (m : Meaning) (a b' : List Meaning) (u : Meaning) (a' : List Meaning) → Placed b m a b' u a' → Placed (x ∷ b) m a (y ∷ b') u a'
further x y b m a b' u a' (inl e) = inl e
further x y b m a b' u a' (inr (inl p)) = inr (inl (inr p.0, p.1))
further x y b m a b' u a' (inr (inr p)) = inr (inr (inr p.0, p.1))

placed : (b : List Meaning) (m : Meaning) (a b' : List Meaning) (u : Meaning) (a' : List Meaning) → b ++ (m ∷ a) ≡ b' ++ (u ∷ a') → Placed b m a b' u a'
placed [] m a [] u a' e = inl (let g : m ≡ u = cc in g)
placed [] m a (y ∷ b') u a' e =
    let g : m ≡ y = cc in
    let r : a ≡ b' ++ (u ∷ a') = cc in
    inr (inl (inl g, subst (In u) (sym r) (in-middle b' u a')))
placed (x ∷ b) m a [] u a' e =
    let g : x ≡ u = cc in
    let r : b ++ (m ∷ a) ≡ a' = cc in
    inr (inr (inl (sym g), subst (In m) r (in-middle b m a)))
placed (x ∷ b) m a (y ∷ b') u a' e =
    let r : b ++ (m ∷ a) ≡ b' ++ (u ∷ a') = cc in
    further x y b m a b' u a' (placed b m a b' u a' r)

-- ---- one winner

module _ (V : Meaning → EstimateVerdict) where
  -- the later cannot win over the earlier
  no-two : (m u : Meaning) → counts (V m) ≡ true → counts (V u) ≡ true → Lost (V u) (V m) → LostOrSame (V m) (V u) → ⊥
  no-two m u a b (inl p) q = both_ways (counts (V m)) p a
  no-two m u a b (inr p) (inl (inl q)) = both_ways (counts (V u)) q b
  no-two m u a b (inr p) (inl (inr q)) = clash (V u) (V m) b a p q
  no-two m u a b (inr p) (inr q) = clash-equal (V u) (V m) b a p q

  pub one-winner : (ms : List Meaning) (m u : Meaning) → Wins V ms m → Wins V ms u → m ≡ u
  one-winner ms m u x y = go (placed x.before m x.after y.before u y.after (sym x.split ∙ y.split))
    where
      go : Placed x.before m x.after y.before u y.after → m ≡ u
      go (inl e) = e
      go (inr (inl p)) =
          absurd (no-two m u x.valued y.valued
          (all_in (λ z. Lost (V u) (V z)) m y.before y.ahead p.0)
          (all_in (λ z. LostOrSame (V m) (V z)) u x.after x.behind p.1))
      go (inr (inr p)) =
          absurd (no-two u m y.valued x.valued
          (all_in (λ z. Lost (V m) (V z)) u x.before x.ahead p.0)
          (all_in (λ z. LostOrSame (V u) (V z)) m y.after y.behind p.1))

  pub none-wins : (ms : List Meaning) (m : Meaning) → Wins V ms m → AllByRecursion (Uncounted V) ms → ⊥
  none-wins ms m x a =
      both_ways (counts (V m))
      (all_in (Uncounted V) m (x.before ++ (m ∷ x.after)) (subst (AllByRecursion (Uncounted V)) x.split a) (in-middle x.before m x.after))
      x.valued

-- ---- bound or refused

ok_same : (n k : Node) → ◌≡◌ {A = Bound} (Ok n) (Ok k) → n ≡ k
ok_same n k e = cc

never-ok : {X : Type 0} (r : Refusal) (k : Node) → ◌≡◌ {A = Bound} (Err r) (Ok k) → X
never-ok r k e = absurd (let z : ◌≡◌ {A = ℕ} 0 1 = cc in omega arith)

lighter-first : (a b : Node) → weight a < weight b → lighter a b ≡ a
lighter-first a b l = ap (λ t. lighter_by t a b) (lt-ltb (weight a) (weight b) l)

lighter-second : (a b : Node) → weight b ≤ weight a → lighter a b ≡ b
lighter-second a b l = ap (λ t. lighter_by t a b) (le-ltb (weight a) (weight b) l)

some-value : (vs : List ℕ) → constantly vs ≡ true → 1 ≤ length vs
some-value [] e = absurd (both_ways false refl e)
some-value (v ∷ vs) e = suc-le-suc zero-le

-- ---- what a level gives, by the rule that holds

module _ (o : Opening) (keep : Keep o) (f : Bool) where
  module _ (l : ℕ) (c : Column) (h : History) where
    abbrev under : Below
    under = below o keep f l

    abbrev picked : Chosen
    picked = chosen_at o keep f l c h

    abbrev given : List Row → List ℕ → Bound
    given rs vs = leveled o.bank o.source under c h f rs vs

    at-no-row : (rs : List Row) (vs : List ℕ) → length rs ≡ 0 → given rs vs ≡ Ok (plain_node c)
    at-no-row [] vs e = refl
    at-no-row (r ∷ rs) vs e = absurd (omega arith)

    at-no-value : (rs : List Row) (vs : List ℕ) → 1 ≤ length rs → vs ≡ [] → given rs vs ≡ Ok (blank_node c)
    at-no-value [] vs p e = absurd (omega arith)
    at-no-value (r ∷ rs) [] p e = refl
    at-no-value (r ∷ rs) (v ∷ vs) p e = absurd (let z : ◌≡◌ {A = ℕ} 0 1 = cc in omega arith)

    at_value : (rs : List Row) (vs : List ℕ) → 1 ≤ length vs → length vs ≤ length rs → given rs vs ≡ constant_by (taken_constant f c) o.bank o.source under c h f
    at_value rs [] p e = absurd (omega arith)
    at_value [] (v ∷ vs) p e = absurd (omega arith)
    at_value (r ∷ rs) (v ∷ vs) p e = refl

    at_test : (b : Bool) → 1 ≤ length (values c) → taken_constant f c ≡ b → given c.rows (values c) ≡ constant_by b o.bank o.source under c h f
    at_test b p e = at_value c.rows (values c) p (length-values c.rows) ∙ ap (λ t. constant_by t o.bank o.source under c h f) e

    at_constant : taken_constant f c ≡ true → given c.rows (values c) ≡ Ok (lighter (constant_node c) (plain_node c))
    at_constant e = at_test true (some-value (values c) (and_parts (not f) (constantly (values c)) e).1) e

    at-choice : 1 ≤ length (values c) → taken_constant f c ≡ false → given c.rows (values c) ≡ won under c h f picked
    at-choice p e = at_test false p e

    abbrev Ends : Chosen → Type 0
    Ends x = Outcome (verdict_at o f l c h) (competitors o f c h) x

    -- none counts: plain
    at_none : (x : Chosen) → Ends x → NoneCounts o f l c h → (k : Node) → won under c h f x ≡ Ok k → plain_node c ≡ k
    at_none (Ok None) w a k e = ok_same (plain_node c) k e
    at_none (Ok (Some m)) w a k e = absurd (none-wins (verdict_at o f l c h) (competitors o f c h) m w a)
    at_none (Err r) w a k e = never-ok r k e

    -- m wins: its node or plain
    at-win : (x : Chosen) → Ends x → (m : Meaning) → WinsAt o f l c h m → (k : Node) → won under c h f x ≡ Ok k → or_plain c (scheme_bound under m c h f) ≡ Ok k
    at-win (Ok None) w m g k e = absurd (none-wins (verdict_at o f l c h) (competitors o f c h) m g w)
    at-win (Ok (Some u)) w m g k e =
        subst (λ z. or_plain c (scheme_bound under z c h f) ≡ Ok k) (one-winner (verdict_at o f l c h) (competitors o f c h) u m w g) e
    at-win (Err r) w m g k e = never-ok r k e

    at-kids : (m : Meaning) (p : Parts) (ns : List Node) (ks : Kids) → ((ms : List Node) → ks ≡ Ok ms → ns ≡ ms) → (k : Node) → or_plain c (over_kids m c p ks) ≡ Ok k
        → lighter (scheme_node m c p ns) (plain_node c) ≡ k
    at-kids m p ns (Ok ms) u k e =
        ap (λ xs. lighter (scheme_node m c p xs) (plain_node c)) (u ms refl) ∙ ok_same (lighter (scheme_node m c p ms) (plain_node c)) k e
    at-kids m p ns (Err r) u k e = never-ok r k e

    at-parts : (m : Meaning) (p : Parts) → m.parts c ≡ Ok p → scheme_bound under m c h f ≡ over_kids m c p (kids_below under m.id h f 0 p.children)
    unfolding scheme_bound
    at-parts m p g = ap (bound_by under m c h f) g

    at-won : (m : Meaning) (p : Parts) (ns : List Node) → Competed o f c h → WinsAt o f l c h m → m.parts c ≡ Ok p
        → ((ms : List Node) → kids_below under m.id h f 0 p.children ≡ Ok ms → ns ≡ ms)
        → (k : Node) → given c.rows (values c) ≡ Ok k → lighter (scheme_node m c p ns) (plain_node c) ≡ k
    at-won m p ns cm w g u k e =
        at-kids m p ns (kids_below under m.id h f 0 p.children) u k
        (sym (ap (or_plain c) (at-parts m p g))
        ∙ at-win picked (outcome o keep f l c h) m w k (sym (at-choice cm.valued cm.varied) ∙ e))

  kid-split : (n : Node) (ns : List Node) (x : Bound) (ks : Kids) → ((k : Node) → x ≡ Ok k → n ≡ k) → ((ms : List Node) → ks ≡ Ok ms → ns ≡ ms)
      → (ms : List Node) → kid_step x ks ≡ Ok ms → n ∷ ns ≡ ms
  kid-split n ns (Ok k) (Ok ls) u v ms e =
      let g : k ∷ ls ≡ ms = cc in
      (λ i. u k refl i ∷ v ls refl i) ∙ g
  kid-split n ns (Ok k) (Err r) u v ms e = absurd (let z : ◌≡◌ {A = ℕ} 0 1 = cc in omega arith)
  kid-split n ns (Err r) ks u v ms e = absurd (let z : ◌≡◌ {A = ℕ} 0 1 = cc in omega arith)

  at_level : (l : ℕ) (c : Column) (h : History) (k : Node) → below o keep f (suc l) c h f ≡ Ok k → given l c h c.rows (values c) ≡ Ok k
  unfolding levels
  at_level l c h k e = e

  on-ground : (c : Column) (h : History) (k : Node) → below o keep f 0 c h f ≡ Ok k → plain_node c ≡ k
  unfolding levels
  on-ground c h k e = ok_same (plain_node c) k e

  mutual
    unique : {l : ℕ} {c : Column} {h : History} {n : Node} → Stands o f l c h n → (k : Node) → below o keep f l c h f ≡ Ok k → n ≡ k
    unique (on_ground c h) k e = on-ground c h k e
    unique (no_row l c h p) k e = ok_same (plain_node c) k (sym (at-no-row l c h c.rows (values c) p) ∙ at_level l c h k e)
    unique (no_value l c h p v) k e = ok_same (blank_node c) k (sym (at-no-value l c h c.rows (values c) p v) ∙ at_level l c h k e)
    unique (one_value l c h t p) k e =
        sym (lighter-first (constant_node c) (plain_node c) p)
        ∙ ok_same (lighter (constant_node c) (plain_node c)) k (sym (at_constant l c h t) ∙ at_level l c h k e)
    unique (one_value_plain l c h t p) k e =
        sym (lighter-second (constant_node c) (plain_node c) p)
        ∙ ok_same (lighter (constant_node c) (plain_node c)) k (sym (at_constant l c h t) ∙ at_level l c h k e)
    unique (no_scheme l c h p t g) k e =
        ok_same (plain_node c) k (sym (at-choice l c h p t ∙ ap (won (below o keep f l) c h f) (nobody o keep f l c h g)) ∙ at_level l c h k e)
    unique (none_counts l c h cm a) k e =
        at_none l c h (picked l c h) (outcome o keep f l c h) a k (sym (at-choice l c h cm.valued cm.varied) ∙ at_level l c h k e)
    unique (not_lighter l c h m p ns cm w g st q) k e =
        sym (lighter-second (scheme_node m c p ns) (plain_node c) q) ∙ at-won l c h m p ns cm w g (uniques st) k (at_level l c h k e)
    unique (winner_stands l c h m p ns cm w g st q) k e =
        sym (lighter-first (scheme_node m c p ns) (plain_node c) q) ∙ at-won l c h m p ns cm w g (uniques st) k (at_level l c h k e)

    uniques : {l i : ℕ} {h : History} {j : ℕ} {cs : List Column} {ns : List Node} → StandAll o f l i h j cs ns
        → (ms : List Node) → kids_below (below o keep f l) i h f j cs ≡ Ok ms → ns ≡ ms
    uniques (none_left l i h j) ms e = let g : ◌≡◌ {A = List Node} [] ms = cc in g
    uniques (one_more l i h j c cs n ns s ss) ms e =
        kid-split n ns (below o keep f l c (h ++ ((i, j) ∷ [])) f) (kids_below (below o keep f l) i h f (suc j) cs) (unique s) (uniques ss) ms e

pub one-stands : OneStands
one-stands o d f l c h n k s e = unique o d f s k e
