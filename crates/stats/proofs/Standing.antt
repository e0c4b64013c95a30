-- The table ascends strictly, has each value with its number of occurrences and nothing else; the commonest and the ends are what
-- they are called.
use Rattle.std.proofs.Common.{◌≡◌, ℕ, suc, ◌+◌, ◌^◌, ◌<◌, ◌≤◌, Bool, true, false, cond, ◌&&◌, eqb, ltb, leb, ◌⊎◌, List, [], ◌∷◌, Some, None, sym, refl, ap, ◌∙◌, subst, inl, inr, true≢false, zero-add, arith}
use Rattle.std.specs.List.{AllByRecursion}
use Rattle.std.proofs.lemmas.Bool.{eqb-true, eqb-false, ltb-true, ltb-false, leb-true, leb-false, eq-eqb, ne_eqb, lt-ltb, cases_lt}
use Rattle.column.specs.Kinds.{key, key_by, signed, least, greatest, in_kind}
use Rattle.column.specs.Columns.{Row, Column, Clean, stray_by, stray_from, values_of, values}
use Rattle.column.proofs.RowLaws.{length-values}
use Rattle.stats.specs.Stats.{Stats, firsts, counted_by, counted, tally, commonest_after, commonest, distinct_of, distinct_part, least_of, greatest_of, stats}
use Rattle.stats.specs.Laws.{occurs, EachAfter, Ascends, Tallied, Commonest, Ends, PartRight, Right}
use Rattle.stats.proofs.Tops.{after-true, after-false}

abbrev Word : ℕ → Type 0
Word w = w < 2 ^ 64

-- v is one of the list
abbrev pub Mem : ℕ → List ℕ → Type 0
Mem v [] = ⊥
Mem v (w ∷ ws) = (v ≡ w) ⊎ Mem v ws

all_map : (P Q : ℕ → Type 0) → ((w : ℕ) → P w → Q w) → (xs : List ℕ) → AllByRecursion P xs → AllByRecursion Q xs
all_map P Q f [] a = tt
all_map P Q f (x ∷ xs) a = (f x a.0, all_map P Q f xs a.1)

key-same : (s : Bool) (a b : ℕ) → a < 2 ^ 64 → b < 2 ^ 64 → key_by s a ≡ key_by s b → a ≡ b
key-same true a b p q e = omega arith
key-same false a b p q e = e

-- ---- what stands in the table

counted-new : (k v : ℕ) (ps : List (ℕ × ℕ)) → Mem v (firsts (counted k v ps))
counted-new k v [] = inl refl
counted-new k v (p ∷ ps) = go (eqb v p.0) (ltb (key k v) (key k p.0)) (counted-new k v ps)
  where
    go : (q s : Bool) → Mem v (firsts (counted k v ps)) → Mem v (firsts (counted_by q s v p ps (counted k v ps)))
    go true s m = inl refl
    go false true m = inl refl
    go false false m = inr m

counted-old : (u k v : ℕ) (ps : List (ℕ × ℕ)) → Mem u (firsts ps) → Mem u (firsts (counted k v ps))
counted-old u k v [] m = absurd m
counted-old u k v (p ∷ ps) m = go (eqb v p.0) (ltb (key k v) (key k p.0)) refl m (counted-old u k v ps)
  where
    go : (q s : Bool) → eqb v p.0 ≡ q → (u ≡ p.0) ⊎ Mem u (firsts ps) → (Mem u (firsts ps) → Mem u (firsts (counted k v ps)))
        → Mem u (firsts (counted_by q s v p ps (counted k v ps)))
    go true s e (inl g) ih = inl (g ∙ sym (eqb-true v p.0 e))
    go true s e (inr g) ih = inr g
    go false true e m ih = inr m
    go false false e (inl g) ih = inl g
    go false false e (inr g) ih = inr (ih g)

pub tally-mem : (k : ℕ) (vs : List ℕ) → AllByRecursion (λ v. Mem v (firsts (tally k vs))) vs
tally-mem k [] = tt
tally-mem k (v ∷ vs) = (
  counted-new k v (tally k vs),
  all_map (λ u. Mem u (firsts (tally k vs))) (λ u. Mem u (firsts (counted k v (tally k vs)))) (λ u m. counted-old u k v (tally k vs) m) vs (tally-mem k vs),
)

counted-all : (P : ℕ → Type 0) (k v : ℕ) (ps : List (ℕ × ℕ)) → P v → AllByRecursion P (firsts ps) → AllByRecursion P (firsts (counted k v ps))
counted-all P k v [] h a = (h, tt)
counted-all P k v (p ∷ ps) h a = go (eqb v p.0) (ltb (key k v) (key k p.0)) (counted-all P k v ps h a.1)
  where
    go : (q s : Bool) → AllByRecursion P (firsts (counted k v ps)) → AllByRecursion P (firsts (counted_by q s v p ps (counted k v ps)))
    go true s m = (h, a.1)
    go false true m = (h, a)
    go false false m = (a.0, m)

pub tally-all : (P : ℕ → Type 0) (k : ℕ) (vs : List ℕ) → AllByRecursion P vs → AllByRecursion P (firsts (tally k vs))
tally-all P k [] a = tt
tally-all P k (v ∷ vs) a = counted-all P k v (tally k vs) a.0 (tally-all P k vs a.1)

-- ---- ascending

after-trans : (k u v : ℕ) (ws : List ℕ) → key k u < key k v → EachAfter k v ws → EachAfter k u ws
after-trans k u v [] h a = tt
after-trans k u v (w ∷ ws) h a = (omega (arith, h, a.0), after-trans k u v ws h a.1)

counted-after : (k u v : ℕ) (ps : List (ℕ × ℕ)) → key k u < key k v → EachAfter k u (firsts ps) → EachAfter k u (firsts (counted k v ps))
counted-after k u v [] h a = (h, tt)
counted-after k u v (p ∷ ps) h a = go (eqb v p.0) (ltb (key k v) (key k p.0)) (counted-after k u v ps h a.1)
  where
    go : (q s : Bool) → EachAfter k u (firsts (counted k v ps)) → EachAfter k u (firsts (counted_by q s v p ps (counted k v ps)))
    go true s r = (h, a.1)
    go false true r = (h, a)
    go false false r = (a.0, r)

-- where v comes later, the first pair's key is less
later : (k v w : ℕ) → Word v → Word w → eqb v w ≡ false → ltb (key k v) (key k w) ≡ false → key k w < key k v
later k v w a b e f =
    let l = ltb-false (key k v) (key k w) f in
    let n : key k v ≡ key k w → ⊥ = λ g. eqb-false v w e (key-same (signed k) v w a b g) in
    omega arith

counted-ascends : (k v : ℕ) (ps : List (ℕ × ℕ)) → Word v → AllByRecursion Word (firsts ps) → Ascends k (firsts ps) → Ascends k (firsts (counted k v ps))
counted-ascends k v [] w ws a = (tt, tt)
counted-ascends k v (p ∷ ps) w ws a = go (eqb v p.0) (ltb (key k v) (key k p.0)) refl refl (counted-ascends k v ps w ws.1 a.1)
  where
    go : (q s : Bool) → eqb v p.0 ≡ q → ltb (key k v) (key k p.0) ≡ s → Ascends k (firsts (counted k v ps)) → Ascends k (firsts (counted_by q s v p ps (counted k v ps)))
    go true s e f r = (subst (λ x. EachAfter k x (firsts ps)) (sym (eqb-true v p.0 e)) a.0, a.1)
    go false true e f r = let l = ltb-true (key k v) (key k p.0) f in ((l, after-trans k v p.0 (firsts ps) l a.0), a)
    go false false e f r = (counted-after k p.0 v ps (later k v p.0 w ws.0 e f) a.0, r)

pub tally-ascends : (k : ℕ) (vs : List ℕ) → AllByRecursion Word vs → Ascends k (firsts (tally k vs))
tally-ascends k [] a = tt
tally-ascends k (v ∷ vs) a = counted-ascends k v (tally k vs) a.0 (tally-all Word k vs a.1) (tally-ascends k vs a.1)

-- ---- counts

not_after : (k v : ℕ) (ds : List ℕ) → EachAfter k v ds → Mem v ds → ⊥
not_after k v [] a m = m
not_after k v (d ∷ ds) a (inl e) = let l = a.0 in let g : key k v ≡ key k d = ap (key k) e in omega arith
not_after k v (d ∷ ds) a (inr m) = not_after k v ds a.1 m

abbrev Counts : (ℕ → ℕ) → ℕ × ℕ → Type 0
Counts F p = p.1 ≡ F p.0

abbrev more : (ℕ → ℕ) → ℕ → ℕ → ℕ
more F v u = cond (eqb u v) 1 0 + F u

here : (F : ℕ → ℕ) (v : ℕ) → more F v v ≡ 1 + F v
here F v = ap (λ q. cond q 1 0 + F v) (eq-eqb v v refl)

elsewhere : (F : ℕ → ℕ) (u v : ℕ) → (u ≡ v → ⊥) → more F v u ≡ F u
elsewhere F u v n = ap (λ q. cond q 1 0 + F u) (ne_eqb u v n) ∙ zero-add (F u)

untouched : (k v : ℕ) (F : ℕ → ℕ) (ps : List (ℕ × ℕ)) → EachAfter k v (firsts ps) → AllByRecursion (Counts F) ps → AllByRecursion (Counts (more F v)) ps
untouched k v F [] a c = tt
untouched k v F (p ∷ ps) a c =
    let l = a.0 in
    let n : p.0 ≡ v → ⊥ = λ e. let g : key k p.0 ≡ key k v = ap (key k) e in omega arith in
    (c.0 ∙ sym (elsewhere F p.0 v n), untouched k v F ps a.1 c.1)

counted-counts : (k v : ℕ) (F : ℕ → ℕ) (ps : List (ℕ × ℕ)) → Ascends k (firsts ps) → (1 ≤ F v → Mem v (firsts ps)) → AllByRecursion (Counts F) ps → AllByRecursion (Counts (more F v)) (counted k v ps)
counted-counts k v F [] a m c =
    let z : 1 ≤ F v → ⊥ = m in
    let h = here F v in
    let n : F v ≡ 0 = omega arith in
    (omega arith, tt)
counted-counts k v F (p ∷ ps) a m c = go (eqb v p.0) (ltb (key k v) (key k p.0)) refl refl (counted-counts k v F ps a.1)
  where
    go : (q s : Bool) → eqb v p.0 ≡ q → ltb (key k v) (key k p.0) ≡ s
        → ((1 ≤ F v → Mem v (firsts ps)) → AllByRecursion (Counts F) ps → AllByRecursion (Counts (more F v)) (counted k v ps))
        → AllByRecursion (Counts (more F v)) (counted_by q s v p ps (counted k v ps))
    go true s e f ih =
        let g = eqb-true v p.0 e in
        let h = here F v in
        let cv : p.1 ≡ F v = c.0 ∙ ap F (sym g) in
        (omega arith, untouched k v F ps (subst (λ x. EachAfter k x (firsts ps)) (sym g) a.0) c.1)
    go false true e f ih =
        let l = ltb-true (key k v) (key k p.0) f in
        let after : EachAfter k v (firsts (p ∷ ps)) = (l, after-trans k v p.0 (firsts ps) l a.0) in
        let z : 1 ≤ F v → ⊥ = λ o. not_after k v (firsts (p ∷ ps)) after (m o) in
        let h = here F v in
        (omega arith, untouched k v F (p ∷ ps) after c)
    go false false e f ih =
        let n : p.0 ≡ v → ⊥ = λ g. eqb-false v p.0 e (sym g) in
        let m' : 1 ≤ F v → Mem v (firsts ps) = λ o. tail (m o) in
        (c.0 ∙ sym (elsewhere F p.0 v n), ih m' c.1)
      where
        tail : (v ≡ p.0) ⊎ Mem v (firsts ps) → Mem v (firsts ps)
        tail (inl g) = absurd (eqb-false v p.0 e g)
        tail (inr g) = g

-- a value that occurs has what all have
-- a value that stands in the list has what all have
pub occurs-all : (P : ℕ → Type 0) (v : ℕ) (vs : List ℕ) → AllByRecursion P vs → 1 ≤ occurs v vs → P v
occurs-all P v [] a h = absurd (omega arith)
occurs-all P v (w ∷ ws) a h = go (eqb v w) refl h (occurs-all P v ws a.1)
  where
    go : (q : Bool) → eqb v w ≡ q → 1 ≤ cond q 1 0 + occurs v ws → (1 ≤ occurs v ws → P v) → P v
    go true e g ih = subst P (sym (eqb-true v w e)) a.0
    go false e g ih = ih (omega arith)

mem-occurs : (v : ℕ) (vs : List ℕ) → Mem v vs → 1 ≤ occurs v vs
mem-occurs v [] m = absurd m
mem-occurs v (w ∷ ws) (inl e) = let g : ◌≡◌ {A = ℕ} (cond (eqb v w) 1 0) 1 = ap (λ q. cond q 1 0) (eq-eqb v w e) in omega arith
mem-occurs v (w ∷ ws) (inr m) = let g = mem-occurs v ws m in omega arith

occurs-self : (vs : List ℕ) → AllByRecursion (λ w. 1 ≤ occurs w vs) vs
occurs-self [] = tt
occurs-self (v ∷ vs) = (
  mem-occurs v (v ∷ vs) (inl refl),
  all_map (λ w. 1 ≤ occurs w vs) (λ w. 1 ≤ occurs w (v ∷ vs)) (λ w h. omega arith) vs (occurs-self vs),
)

tally-counts : (k : ℕ) (vs : List ℕ) → AllByRecursion Word vs → AllByRecursion (Counts (λ u. occurs u vs)) (tally k vs)
tally-counts k [] a = tt
tally-counts k (v ∷ vs) a =
    counted-counts k v (λ u. occurs u vs) (tally k vs) (tally-ascends k vs a.1)
    (λ h. occurs-all (λ u. Mem u (firsts (tally k vs))) v vs (tally-mem k vs) h) (tally-counts k vs a.1)

pub tallied : (k : ℕ) (vs : List ℕ) → AllByRecursion Word vs → Tallied k vs (tally k vs)
tallied k vs a =
    record {
      ascends = tally-ascends k vs a;
      counts = tally-counts k vs a;
      all = λ v h. mem-occurs v (firsts (tally k vs)) (occurs-all (λ u. Mem u (firsts (tally k vs))) v vs (tally-mem k vs) h);
      only = λ v h. occurs-all (λ u. 1 ≤ occurs u vs) v (firsts (tally k vs)) (tally-all (λ u. 1 ≤ occurs u vs) k vs (occurs-self vs)) h;
    }

-- ---- the commonest

-- the first pair with the greatest count, of b and the pairs after it
record Best (k : ℕ) (P : ℕ × ℕ → Type 0) (b q : ℕ × ℕ) (ps : List (ℕ × ℕ)) : Type 0 where
  pub has : P q
  pub over : b.1 ≤ q.1
  pub most : AllByRecursion (λ (p : ℕ × ℕ). p.1 ≤ q.1) ps
  pub tie : b.1 ≡ q.1 → key k q.0 ≤ key k b.0
  pub least : AllByRecursion (λ (p : ℕ × ℕ). p.1 ≡ q.1 → key k q.0 ≤ key k p.0) ps

best : (k : ℕ) (P : ℕ × ℕ → Type 0) (b : ℕ × ℕ) (ps : List (ℕ × ℕ)) → EachAfter k b.0 (firsts ps) → Ascends k (firsts ps) → P b → AllByRecursion P ps → Best k P b (commonest_after b ps) ps
best k P b [] f a h hs = record { has = h; over = omega arith; most = tt; tie = λ e. omega arith; least = tt }
best k P b (p ∷ ps) f a h hs = go (ltb b.1 p.1) refl (best k P p ps a.0 a.1 hs.0 hs.1) (best k P b ps f.1 a.1 h hs.1)
  where
    go : (t : Bool) → ltb b.1 p.1 ≡ t → Best k P p (commonest_after p ps) ps → Best k P b (commonest_after b ps) ps → Best k P b (commonest_after b (p ∷ ps)) (p ∷ ps)
    go true e r s =
        let l = ltb-true b.1 p.1 e in
        subst (λ q. Best k P b q (p ∷ ps)) (sym (after-true b p ps e))
        (record {
          has = r.has;
          over = omega (arith, r.over);
          most = (r.over, r.most);
          tie = λ g. absurd (omega (arith, r.over, g));
          least = (r.tie, r.least);
        })
    go false e r s =
        let l = ltb-false b.1 p.1 e in
        let n = f.0 in
        subst (λ q. Best k P b q (p ∷ ps)) (sym (after-false b p ps e))
        (record {
          has = s.has;
          over = s.over;
          most = (omega (arith, s.over), s.most);
          tie = s.tie;
          least = ((λ g. let u : key k (commonest_after b ps).0 ≤ key k b.0 = s.tie (omega (arith, s.over, g)) in omega arith), s.least);
        })

all_firsts : (P : ℕ → Type 0) (Q : ℕ × ℕ → Type 0) (ps : List (ℕ × ℕ)) → ((p : ℕ × ℕ) → Q p → P p.0) → AllByRecursion Q ps → AllByRecursion P (firsts ps)
all_firsts P Q [] f a = tt
all_firsts P Q (p ∷ ps) f a = (f p a.0, all_firsts P Q ps f a.1)

all_both : (P Q : ℕ × ℕ → Type 0) (ps : List (ℕ × ℕ)) → AllByRecursion P ps → AllByRecursion Q ps → AllByRecursion (λ (p : ℕ × ℕ). P p × Q p) ps
all_both P Q [] a b = tt
all_both P Q (p ∷ ps) a b = ((a.0, b.0), all_both P Q ps a.1 b.1)

pub commonest-stands : (k : ℕ) (vs : List ℕ) (ps : List (ℕ × ℕ)) → Tallied k vs ps → Commonest k vs (commonest ps).0 (commonest ps).1
commonest-stands k vs [] t =
    let none : (v : ℕ) → occurs v vs ≡ 0 = λ v. let n : 1 ≤ occurs v vs → ⊥ = λ h. let z = t.all v h in omega arith in omega arith in
    record { count = sym (none 0); most = λ v. omega (arith, none v); least = λ v h e. absurd (omega (arith, none v)) }
commonest-stands k vs (p ∷ ps) t =
    let F : ℕ → ℕ = λ u. occurs u vs in
    let some : 1 ≤ p.1 = omega (arith, t.counts.0, t.only p.0 (mem-occurs p.0 (firsts (p ∷ ps)) (inl refl))) in
    let start : commonest (p ∷ ps) ≡ commonest_after p ps = after-true (0, 0) p ps (lt-ltb 0 p.1 some) in
    let q = commonest_after p ps in
    let r = best k (Counts F) p ps t.ascends.0 t.ascends.1 t.counts.0 t.counts.1 in
    let both = all_both (Counts F) (λ (u : ℕ × ℕ). (u.1 ≤ q.1) × (u.1 ≡ q.1 → key k q.0 ≤ key k u.0)) (p ∷ ps) t.counts
    (all_both (λ (u : ℕ × ℕ). u.1 ≤ q.1) (λ (u : ℕ × ℕ). u.1 ≡ q.1 → key k q.0 ≤ key k u.0) (p ∷ ps) (r.over, r.most) (r.tie, r.least)) in
    let each : AllByRecursion (λ v. (F v ≤ q.1) × (F v ≡ q.1 → key k q.0 ≤ key k v)) (firsts (p ∷ ps)) =
    all_firsts _ _ (p ∷ ps) (λ u a. (omega (arith, a.0, a.1.0), λ e. a.1.1 (a.0 ∙ e))) both in
    subst (λ (z : ℕ × ℕ). Commonest k vs z.0 z.1) (sym start)
    (record {
      count = r.has;
      most = λ v. go v q.1 (cases_lt 0 (F v)) (λ h. (occurs-all _ v (firsts (p ∷ ps)) each h).0);
      least = λ v h e. (occurs-all _ v (firsts (p ∷ ps)) each (t.all v h)).1 e;
    })
  where
    go : (v n : ℕ) → (0 < occurs v vs) ⊎ (occurs v vs ≤ 0) → (1 ≤ occurs v (firsts (p ∷ ps)) → occurs v vs ≤ n) → occurs v vs ≤ n
    go v n (inl h) f = f (t.all v h)
    go v n (inr h) f = omega arith

-- ---- the ends

least-mem : (k v : ℕ) (vs : List ℕ) → key k v ≤ key k (greatest k) → AllByRecursion (λ w. key k w ≤ key k (greatest k)) vs → Mem (least_of k (v ∷ vs)) (v ∷ vs)
least-mem k v [] h a = go (leb (key k v) (key k (greatest k))) refl
  where
    go : (b : Bool) → leb (key k v) (key k (greatest k)) ≡ b → Mem (cond b v (greatest k)) (v ∷ [])
    go true e = inl refl
    go false e = absurd (omega (arith, leb-false _ _ e))
least-mem k v (w ∷ ws) h a = go (leb (key k v) (key k (least_of k (w ∷ ws)))) (least-mem k w ws a.0 a.1)
  where
    go : (b : Bool) → Mem (least_of k (w ∷ ws)) (w ∷ ws) → Mem (cond b v (least_of k (w ∷ ws))) (v ∷ w ∷ ws)
    go true m = inl refl
    go false m = inr m

greatest-mem : (k v : ℕ) (vs : List ℕ) → key k (least k) ≤ key k v → AllByRecursion (λ w. key k (least k) ≤ key k w) vs → Mem (greatest_of k (v ∷ vs)) (v ∷ vs)
greatest-mem k v [] h a = go (leb (key k (least k)) (key k v)) refl
  where
    go : (b : Bool) → leb (key k (least k)) (key k v) ≡ b → Mem (cond b v (least k)) (v ∷ [])
    go true e = inl refl
    go false e = absurd (omega (arith, leb-false _ _ e))
greatest-mem k v (w ∷ ws) h a = go (leb (key k (greatest_of k (w ∷ ws))) (key k v)) (greatest-mem k w ws a.0 a.1)
  where
    go : (b : Bool) → Mem (greatest_of k (w ∷ ws)) (w ∷ ws) → Mem (cond b v (greatest_of k (w ∷ ws))) (v ∷ w ∷ ws)
    go true m = inl refl
    go false m = inr m

-- what bounds the rest, and v, bounds all
least-low : (k : ℕ) (vs : List ℕ) → AllByRecursion (λ v. key k (least_of k vs) ≤ key k v) vs
least-low k [] = tt
least-low k (v ∷ vs) = go (leb (key k v) (key k (least_of k vs))) refl (least-low k vs)
  where
    go : (b : Bool) → leb (key k v) (key k (least_of k vs)) ≡ b → AllByRecursion (λ w. key k (least_of k vs) ≤ key k w) vs → AllByRecursion (λ w. key k (cond b v (least_of k vs)) ≤ key k w) (v ∷ vs)
    go true e a = let l = leb-true _ _ e in (omega arith, all_map (λ w. key k (least_of k vs) ≤ key k w) (λ w. key k v ≤ key k w) (λ w h. omega arith) vs a)
    go false e a = let l = leb-false _ _ e in (omega arith, a)

greatest-high : (k : ℕ) (vs : List ℕ) → AllByRecursion (λ v. key k v ≤ key k (greatest_of k vs)) vs
greatest-high k [] = tt
greatest-high k (v ∷ vs) = go (leb (key k (greatest_of k vs)) (key k v)) refl (greatest-high k vs)
  where
    go : (b : Bool) → leb (key k (greatest_of k vs)) (key k v) ≡ b → AllByRecursion (λ w. key k w ≤ key k (greatest_of k vs)) vs → AllByRecursion (λ w. key k w ≤ key k (cond b v (greatest_of k vs))) (v ∷ vs)
    go true e a = let l = leb-true _ _ e in (omega arith, all_map (λ w. key k w ≤ key k (greatest_of k vs)) (λ w. key k w ≤ key k v) (λ w h. omega arith) vs a)
    go false e a = let l = leb-false _ _ e in (omega arith, a)

all_two : (P Q : ℕ → Type 0) (xs : List ℕ) → AllByRecursion P xs → AllByRecursion Q xs → AllByRecursion (λ x. P x × Q x) xs
all_two P Q [] a b = tt
all_two P Q (x ∷ xs) a b = ((a.0, b.0), all_two P Q xs a.1 b.1)

-- a value of the kind
record Fits (k w : ℕ) : Type 0 where
  pub word : Word w
  pub low : key k (least k) ≤ key k w
  pub high : key k w ≤ key k (greatest k)

parts : (a b c : Bool) → (a && (b && c)) ≡ true → (a ≡ true) × (b ≡ true) × (c ≡ true)
parts true true true e = (refl, refl, refl)
parts true true false e = absurd (true≢false (sym e))
parts true false c e = absurd (true≢false (sym e))
parts false b c e = absurd (true≢false (sym e))

fits : (k w : ℕ) → in_kind k w ≡ true → Fits k w
fits k w e =
    let p = parts _ _ _ e in
    record { word = ltb-true _ _ p.0; low = leb-true _ _ p.1; high = leb-true _ _ p.2 }

clean-fits : (k i : ℕ) (rs : List Row) → stray_from k i rs ≡ None → AllByRecursion (Fits k) (values_of rs)
clean-fits k i [] e = tt
clean-fits k i (None ∷ rs) e = clean-fits k (suc i) rs e
clean-fits k i (Some w ∷ rs) e = go (in_kind k w) refl e (clean-fits k (suc i) rs)
  where
    go : (b : Bool) → in_kind k w ≡ b → stray_by b i (stray_from k (suc i) rs) ≡ None → (stray_from k (suc i) rs ≡ None → AllByRecursion (Fits k) (values_of rs)) → AllByRecursion (Fits k) (w ∷ values_of rs)
    go true f g ih = (fits k w f, ih g)
    go false f g ih = absurd (let z : ◌≡◌ {A = ℕ} 0 1 = cc in omega arith)

ends-stand : (k : ℕ) (vs : List ℕ) → AllByRecursion (Fits k) vs → (vs ≡ [] → ⊥) → Ends k vs (least_of k vs) (greatest_of k vs)
ends-stand k [] a n = absurd (n refl)
ends-stand k (v ∷ vs) a n =
    record {
      least = mem-occurs _ (v ∷ vs) (least-mem k v vs a.0.high (all_map (Fits k) (λ w. key k w ≤ key k (greatest k)) (λ w f. f.high) vs a.1));
      greatest = mem-occurs _ (v ∷ vs) (greatest-mem k v vs a.0.low (all_map (Fits k) (λ w. key k (least k) ≤ key k w) (λ w f. f.low) vs a.1));
      between = all_two _ _ (v ∷ vs) (least-low k (v ∷ vs)) (greatest-high k (v ∷ vs));
    }

-- ---- all of it

info-right : (k : ℕ) (vs : List ℕ) → AllByRecursion Word vs → PartRight k vs (Some (distinct_of (tally k vs)))
info-right k vs a = let t = tallied k vs a in (t, commonest-stands k vs (tally k vs) t)

part_right : (want : Bool) (k : ℕ) (rs : List Row) (vs : List ℕ) → AllByRecursion Word vs → PartRight k vs (distinct_part want k rs vs)
part_right want k [] vs a = tt
part_right want k (r ∷ rs) [] a = info-right k [] a
part_right true k (r ∷ rs) (v ∷ vs) a = info-right k (v ∷ vs) a
part_right false k (r ∷ rs) (v ∷ vs) a = tt

pub right_of : (want : Bool) (c : Column) (s : Stats) → s ≡ stats want c → Clean c → Right c s
right_of want c s e cl =
    let vs = values c in
    let a = clean-fits c.kind 0 c.rows cl.2 in
    subst (Right c) (sym e)
    (record {
      count = refl;
      rows = omega (arith, length-values c.rows);
      ends = ends-stand c.kind vs a;
      distinct = part_right want c.kind c.rows vs (all_map (Fits c.kind) Word (λ w f. f.word) vs a);
    })
