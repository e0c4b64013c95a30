-- A refusal of the levels comes from the parts of a clean column.
use Rattle.std.proofs.Common.{◌≡◌, ℕ, zero, suc, ◌+◌, ◌≤◌, Bool, true, false, List, [], ◌∷◌, ◌++◌, length, Some, None, Ok, Err, Option, Result, refl, subst, inl, inr, le_refl, arith, length-append}
use Rattle.column.specs.declared.refusals.Refusal.{Refusal}
use Rattle.column.specs.Columns.{Row, Column, Clean, values}
use Rattle.node.specs.Nodes.{Node}
use Rattle.sample.specs.Draws.{Source, Within}
use Rattle.sample.specs.Samples.{sample_of}
use Rattle.sample.proofs.SampleLaws.{sample-clean, sample-length}
use Rattle.scheme.specs.declared.estimate.DeferredEstimate.{DeferredEstimate}
use Rattle.scheme.specs.declared.estimate.DeferredEstimate.TheVariants.{Sample, Callback}
use Rattle.scheme.specs.declared.estimate.EstimateScore.{EstimateScore}
use Rattle.scheme.specs.Meaning.{Meaning, Parts, AllClean, RefusalKeeps, PartedKeeps, History}
use Rattle.scheme.specs.Banks.{AllKeep, at}
use Rattle.levels.specs.Choice.{Chosen}
use Rattle.levels.specs.Levels.{Bound, Below, Kids, kid_step, kids_below, over_kids, bound_by, scheme_bound, score_by, late, stats_at, choice, or_plain, won, competed, taken_constant, constant_by, leveled, levels}
use Rattle.levels.specs.NodesOf.{Able}
use Rattle.holds.specs.Refusing.{Among, Reached, itself, sampled, child, Refuses, LevelsRefuse, LevelsTake}
use Rattle.holds.proofs.Choosing.{bank-at, In, VerdictOk, ChosenOk, choice-ok, all-eligible}
use Rattle.holds.proofs.Sizes.{kids-clean}

-- ---- samples and refused parts

pub sample-kind : (d : Source) (f : Bool) (c : Column) → (sample_of d f c).kind ≡ c.kind
sample-kind d true c = refl
sample-kind d false c = refl

pub sample-able : (ms : List Meaning) (d : Source) (f : Bool) (c : Column) (i : ℕ) → Able ms c.kind i → Able ms (sample_of d f c).kind i
sample-able ms d true c i a = a
sample-able ms d false c i a = a

pub sample-short : (d : Source) → Within d → (f : Bool) (c : Column) → length (sample_of d f c).rows ≤ length c.rows
sample-short d w true c = le_refl (length c.rows)
sample-short d w false c = let l = sample-length d w c.rows in omega arith

refused-by : (m : Meaning) (c : Column) (r : ℕ) (q : Result Parts ℕ) → q ≡ Err r → PartedKeeps m c q → RefusalKeeps m c r
refused-by m c r q e k = subst (PartedKeeps m c) e k

pub refusal-keeps : (ms : List Meaning) → AllKeep ms → (i : ℕ) (c : Column) → Clean c → Able ms c.kind i → (r : ℕ) → (at ms i).parts c ≡ Err r → RefusalKeeps (at ms i) c r
refusal-keeps ms kp i c cl ab r e = refused-by (at ms i) c r ((at ms i).parts c) e ((bank-at ms i kp ab.within).parted c cl ab.takes)

-- ---- the levels

-- the column c0 is bound at history h0 with l0 levels
module _ (ms : List Meaning) (kp : AllKeep ms) (d : Source) (w : Within d) (l0 : ℕ) (c0 : Column) (h0 : History) (f0 : Bool) where
  abbrev Comes : ℕ → Bool → Column → Type 0
  Comes v f c = Reached ms d (length h0) f0 c0 v f c

  abbrev Due : Refusal → Type 0
  Due e = Refuses ms d l0 c0 h0 f0 e

  abbrev Fine : Bound → Type 0
  Fine (Ok n) = Unit {0}
  Fine (Err e) = Due e

  abbrev KidsFine : Kids → Type 0
  KidsFine (Ok ns) = Unit {0}
  KidsFine (Err e) = Due e

  kid-fine : (b : Bound) (ks : Kids) → Fine b → KidsFine ks → KidsFine (kid_step b ks)
  kid-fine (Err e) ks p q = p
  kid-fine (Ok n) (Err e) p q = q
  kid-fine (Ok n) (Ok ns) p q = tt

  over-fine : (m : Meaning) (c : Column) (p : Parts) (ks : Kids) → KidsFine ks → Fine (over_kids m c p ks)
  over-fine m c p (Ok ns) q = tt
  over-fine m c p (Err e) q = q

  plain-fine : (c : Column) (b : Bound) → Fine b → Fine (or_plain c b)
  plain-fine c (Ok n) q = tt
  plain-fine c (Err e) q = q

  score-fine : (k : ℕ) (c : Column) (b : Bound) → Fine b → VerdictOk (In ms k) Due (score_by c b)
  score-fine k c (Ok n) q = tt
  score-fine k c (Err e) q = q

  module _ (l : ℕ) (below : Below) (bf : (c : Column) (h : History) (f : Bool) → Clean c → Comes (length h) f c → length h + l ≤ length h0 + l0 → Fine (below c h f))
      (h : History) (fit : length h + suc l ≤ length h0 + l0) where
    kids-fine : (i : ℕ) (f : Bool) (k : ℕ) (cs : List Column) → AllClean cs → ((x : Column) → Among x cs → Comes (suc (length h)) f x) → KidsFine (kids_below below i h f k cs)
    kids-fine i f k [] a g = tt
    kids-fine i f k (c ∷ cs) a g =
        let g' : (x : Column) → Among x cs → Comes (suc (length h)) f x = λ x y. g x (inr y) in
        let la = length-append h ((i, k) ∷ []) in
        let e : suc (length h) ≡ length (h ++ ((i, k) ∷ [])) = omega arith in
        let r : Comes (length (h ++ ((i, k) ∷ []))) f c = subst (λ v. Comes v f c) e (g c (inl refl)) in
        kid-fine (below c (h ++ ((i, k) ∷ [])) f) (kids_below below i h f (suc k) cs) (bf c (h ++ ((i, k) ∷ [])) f a.0 r (omega arith)) (kids-fine i f (suc k) cs a.1 g')

    by-fine : (i : ℕ) (c : Column) → Clean c → Able ms c.kind i → (f : Bool) → Comes (length h) f c → (q : Result Parts ℕ) → (at ms i).parts c ≡ q → Fine (bound_by below (at ms i) c h f q)
    by-fine i c cl ab f r (Ok p) e =
        over-fine (at ms i) c p (kids_below below (at ms i).id h f 0 p.children)
        (kids-fine (at ms i).id f 0 p.children (kids-clean ms kp i c cl ab p e) (λ x y. child (length h) f c i p x r ab e y))
    by-fine i c cl ab f r (Err x) e =
        let k = refusal-keeps ms kp i c cl ab x e in
        record {
          row = x;
          by = i;
          level = length h;
          sample = f;
          column = c;
          says = refl;
          reached = r;
          clean = cl;
          able = ab;
          refuses = e;
          stated = k.stated;
          inside = k.inside;
          above = omega arith;
        }

    scheme-fine : (m : Meaning) (c : Column) → Clean c → In ms c.kind m → (f : Bool) → Comes (length h) f c → Fine (scheme_bound below m c h f)
    unfolding scheme_bound
    scheme-fine m c cl (i, (ab, e)) f r =
        let S : Meaning → Type 0 = λ y. Fine (bound_by below y c h f (y.parts c)) in
        subst S e (by-fine i c cl ab f r ((at ms i).parts c) refl)

    late-fine : (c : Column) → Clean c → (f : Bool) → Comes (length h) f c → (m : Meaning) (e : DeferredEstimate) (s : Option EstimateScore)
        → In ms c.kind m → VerdictOk (In ms c.kind) Due (late d below c (stats_at ms c h) h f m e s)
    late-fine c cl f r m Callback s g = tt
    late-fine c cl f r m Sample s (i, (ab, e)) =
        let x = sample_of d f c in
        score-fine c.kind x (scheme_bound below m x h true)
        (scheme-fine m x (sample-clean d w f c cl) (i, (sample-able ms d f c i ab, e)) true (sampled (length h) f c r))

    won-fine : (c : Column) → Clean c → (f : Bool) → Comes (length h) f c → (x : Chosen) → ChosenOk (In ms c.kind) Due x → Fine (won below c h f x)
    won-fine c cl f r (Err e) g = g
    won-fine c cl f r (Ok None) g = tt
    won-fine c cl f r (Ok (Some m)) g = plain-fine c (scheme_bound below m c h f) (scheme-fine m c cl g f r)

    competed-fine : (c : Column) → Clean c → (f : Bool) → Comes (length h) f c → Fine (competed ms d below c h f)
    competed-fine c cl f r =
        won-fine c cl f r (choice ms d below c h f) (choice-ok (In ms c.kind) Due ms d below c h f (all-eligible ms c.kind h) (late-fine c cl f r))

    constant-fine : (c : Column) → Clean c → (f : Bool) → Comes (length h) f c → (q : Bool) → Fine (constant_by q ms d below c h f)
    constant-fine c cl f r true = tt
    constant-fine c cl f r false = competed-fine c cl f r

    leveled-fine : (c : Column) → Clean c → (f : Bool) → Comes (length h) f c → (rs : List Row) (vs : List ℕ) → Fine (leveled ms d below c h f rs vs)
    leveled-fine c cl f r [] vs = tt
    leveled-fine c cl f r (x ∷ rs) [] = tt
    leveled-fine c cl f r (x ∷ rs) (v ∷ vs) = constant-fine c cl f r (taken_constant f c)

  levels-fine : (l : ℕ) (c : Column) (h : History) (f : Bool) → Clean c → Comes (length h) f c → length h + l ≤ length h0 + l0 → Fine (levels ms d l c h f)
  unfolding levels
  levels-fine zero c h f cl r b = tt
  levels-fine (suc l) c h f cl r b = leveled-fine l (levels ms d l) (λ x y z p q u. levels-fine l x y z p q u) h b c cl f r c.rows (values c)

-- ---- the laws

pub levels-refuse : LevelsRefuse
levels-refuse ms kp d w l c cl h f e q =
    subst (Fine ms kp d w l c h f) q (levels-fine ms kp d w l c h f l c h f cl itself (le_refl (length h + l)))

not-both : {X : Type 0} (r : ℕ) (o : Option ℕ) → o ≡ Some r → o ≡ None → X
not-both r o p q = absurd (let z : ◌≡◌ {A = ℕ} 0 1 = cc in omega arith)

pub levels-take : LevelsTake
levels-take ms kp nr d w l c cl h f = go (levels ms d l c h f) refl
  where
    go : (b : Bound) → levels ms d l c h f ≡ b → (n : Node) × (b ≡ Ok n)
    go (Ok n) e = (n, refl)
    go (Err x) e =
        let g = levels-refuse ms kp d w l c cl h f x e in
        not-both g.row ((at ms g.by).refuses g.column) g.stated (nr g.by g.column g.clean g.able)
