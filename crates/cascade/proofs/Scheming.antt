-- A scheme's node: its size and its part of the plan.
use Rattle.std.proofs.Common.{◌≡◌, ℕ, zero, suc, ◌+◌, ◌-◌, ◌*◌, ◌≤◌, Bool, List, [], ◌∷◌, ◌++◌, length, take, drop, Ok, Err, Result, sym, refl, ap, ◌∙◌, subst, arith, length-append, length-take, ap₂, slice_set}
use Rattle.std.proofs.lemmas.List.{take-append-le, take_rest, length-drop}
use Rattle.column.specs.declared.refusals.Refusal.{Refusal}
use Rattle.column.specs.Columns.{Column, Clean}
use Rattle.node.specs.Nodes.{Node, leaf, over, fork, head_size, weight, whole}
use Rattle.sample.specs.Draws.{Source}
use Rattle.scheme.specs.Meaning.{Meaning, Parts, History}
use Rattle.scheme.specs.Banks.{AllKeep}
use Rattle.levels.specs.Levels.{Bound, Below, kid_step, kids_below, over_kids, bound_by, scheme_bound, refused_at, levels}
use Rattle.levels.specs.Plans.{node_count, forms, places}
use Rattle.holds.specs.Holding.{own_most}
use Rattle.holds.proofs.HoldLaws.{levels-hold}
use Rattle.holds.proofs.Sizes.{weight-whole, places-most}
use Rattle.cascade.specs.declared.size.Size.{Size}
use Rattle.cascade.specs.Sizes.{size_of, sized, Planned}
use Rattle.cascade.proofs.Levelling.{Ends, as_bound}

-- ---- the plan

pub length-forms : (n : Node) → length (forms n) ≡ node_count n
length-forms (leaf h p) = refl
length-forms (over h p a) = let i = length-forms a in omega arith
length-forms (fork h p a b) = let i = length-forms a in let j = length-forms b in let k = length-append (forms a) (forms b) in omega arith

-- what lies from a place on
pub rest-length : (xs : List ℕ) (i : ℕ) → length (take (length xs - i) (drop i xs)) ≡ length xs - i
rest-length xs i = ap length (take_rest xs i) ∙ length-drop i xs

-- the front of the plan is long enough
fits-in : (n : Node) (plan : List ℕ) → take (node_count n) plan ≡ forms n → node_count n ≤ length plan
fits-in n plan e = let a = ap length e in let b = length-forms n in let k = length-take (node_count n) plan in omega arith

-- the first place is filled, and what follows is written behind it
pub placed : (plan new post : List ℕ) (v w : ℕ) → 1 ≤ length plan → v ≡ w → take 1 (slice_set plan 0 v) ++ (new ++ post) ≡ (w ∷ []) ++ (new ++ post)
placed [] new post v w h e = absurd (omega arith)
placed (x ∷ xs) new post v w h e = ap (λ k. k ∷ (new ++ post)) e

pub first-set : (plan : List ℕ) (v w : ℕ) → 1 ≤ length plan → v ≡ w → slice_set plan 0 v ≡ w ∷ drop 1 plan
first-set [] v w h e = absurd (omega arith)
first-set (x ∷ xs) v w h e = ap (λ k. k ∷ xs) e

-- ---- a child that was measured

pub record Kid (b : Bound) (s : Size) (plan : List ℕ) (l : ℕ) : Type 0 where
  pub node : Node
  pub is : b ≡ Ok node
  pub size : s ≡ size_of node
  pub spelt : take (node_count node) plan ≡ forms node
  pub light : s.weight ≤ s.whole
  pub short : s.whole ≤ 1023 * own_most
  pub few : s.nodes ≤ places l
  pub fewer : s.nodes ≤ 1023

-- the same levels, history and sample flag
levels-as : (ms : List Meaning) (d : Source) (c : Column) {l l2 : ℕ} {h h2 : History} {f f2 : Bool} → l2 ≡ l → h2 ≡ h → f2 ≡ f → levels ms d l2 c h2 f2 ≡ levels ms d l c h f
levels-as ms d c el eh ef = λ i. levels ms d (el i) c (eh i) (ef i)

module _ (ms : List Meaning) (d : Source) (c : Column) {l l2 : ℕ} {h h2 : History} {f f2 : Bool} (el : l2 ≡ l) (eh : h2 ≡ h) (ef : f2 ≡ f) where
  pub kid : AllKeep ms → l ≤ 8 → Clean c → (s : Size) (plan : List ℕ) → ◌≡◌ {A = Result Size Refusal} (Ok s) (sized (levels ms d l2 c h2 f2)) → Planned (levels ms d l2 c h2 f2) plan
      → Kid (levels ms d l c h f) s plan l
  kid kp le cl s plan es ep =
      let e = levels-as ms d c el eh ef in
      go (levels ms d l c h f) refl (es ∙ ap sized e) (subst (λ b. Planned b plan) e ep)
    where
      go : (b : Bound) → levels ms d l c h f ≡ b → ◌≡◌ {A = Result Size Refusal} (Ok s) (sized b) → Planned b plan → Kid (levels ms d l c h f) s plan l
      go (Ok n) eb x y =
          let z : s ≡ size_of n = cc in
          let o = levels-hold ms kp d l le c cl h f n eb in
          let w = ap (λ k. k.weight) z in
          let v = ap (λ k. k.whole) z in
          let u = ap (λ k. k.nodes) z in
          let lw = weight-whole n in
          let sh = o.short in
          let fw = o.few in
          let m = places-most l (omega arith) in
          record { node = n; is = eb; size = z; spelt = y; light = omega arith; short = omega arith; few = omega arith; fewer = omega arith }
      go (Err e) eb x y = absurd (let z : ◌≡◌ {A = ℕ} 0 1 = cc in omega arith)

  pub refused-as : (e : Refusal) → ◌≡◌ {A = Result Size Refusal} (Err e) (sized (levels ms d l2 c h2 f2)) → ◌≡◌ {A = Result Size Refusal} (Err e) (sized (levels ms d l c h f))
  refused-as e x = x ∙ ap sized (levels-as ms d c el eh ef)

pub kid-refused : (b : Bound) (e : Refusal) → ◌≡◌ {A = Result Size Refusal} (Err e) (sized b) → b ≡ Err e
kid-refused (Ok n) e x = absurd (let z : ◌≡◌ {A = ℕ} 0 1 = cc in omega arith)
kid-refused (Err y) e x = let z : e ≡ y = cc in ap Err (sym z)

-- ---- the scheme's node by its parts and its children

module _ (below : Below) (m : Meaning) (c : Column) (h : History) (f : Bool) where
  pub bound-refused : (r : ℕ) (e : Refusal) (plan : List ℕ) → m.parts c ≡ Err r → e ≡ refused_at m r h f → Ends (scheme_bound below m c h f) (Err e) plan
  unfolding scheme_bound
  bound-refused r e plan q ee = as_bound (ap (bound_by below m c h f) q) (record { size = ap Err ee; plan = tt })

  module _ (p : Parts) (given : m.parts c ≡ Ok p) where
    bound-parted : (cs : List Column) → cs ≡ p.children → scheme_bound below m c h f ≡ over_kids m c p (kids_below below m.id h f 0 cs)
    unfolding scheme_bound
    bound-parted cs e = ap (bound_by below m c h f) given ∙ ap (λ x. over_kids m c p (kids_below below m.id h f 0 x)) (sym e)

    under : (b : Bound) → scheme_bound below m c h f ≡ b → b ≡ scheme_bound below m c h f
    under b e = sym e

    -- no child
    pub none-ends : (s : Size) (plan rest : List ℕ) → [] ≡ p.children → s ≡ record { weight = length p.payload; whole = head_size + length p.payload; nodes = 1 } → plan ≡ m.id ∷ rest
        → Ends (scheme_bound below m c h f) (Ok s) plan
    none-ends s plan rest e es ep = as_bound (bound-parted [] e) (record { size = ap Ok es; plan = ap (take 1) ep })

    -- child 0 is refused, of one or of two
    pub first-refused : (c0 : Column) (cs : List Column) (e : Refusal) (plan : List ℕ) → (c0 ∷ cs) ≡ p.children
        → ◌≡◌ {A = Result Size Refusal} (Err e) (sized (below c0 (h ++ ((m.id, 0) ∷ [])) f)) → Ends (scheme_bound below m c h f) (Err e) plan
    first-refused c0 cs e plan ec x =
        as_bound (bound-parted (c0 ∷ cs) ec ∙ ap (λ b. over_kids m c p (kid_step b (kids_below below m.id h f 1 cs))) (kid-refused _ e x)) (record { size = refl; plan = tt })

    -- one child
    pub one-ends : {l : ℕ} (c0 : Column) (s o s0 : Size) (plan new post : List ℕ) → (c0 ∷ []) ≡ p.children → Kid (below c0 (h ++ ((m.id, 0) ∷ [])) f) s0 new l
        → o ≡ record { weight = length p.payload; whole = head_size + length p.payload; nodes = 1 }
        → s ≡ record { weight = o.weight + s0.weight; whole = o.whole + s0.whole; nodes = o.nodes + s0.nodes }
        → plan ≡ (m.id ∷ []) ++ (new ++ post) → Ends (scheme_bound below m c h f) (Ok s) plan
    one-ends c0 s o s0 plan new post ec k eo es ep =
        let n = k.node in
        let fit = fits-in n new k.spelt in
        let w : s.weight ≡ length p.payload + weight n = ap (λ x. x.weight) es ∙ ap₂ (λ x y. x.weight + y.weight) eo k.size in
        let v : s.whole ≡ head_size + length p.payload + whole n = ap (λ x. x.whole) es ∙ ap₂ (λ x y. x.whole + y.whole) eo k.size in
        let u : s.nodes ≡ 1 + node_count n = ap (λ x. x.nodes) es ∙ ap₂ (λ x y. x.nodes + y.nodes) eo k.size in
        let one : 1 + node_count n ≡ suc (node_count n) = omega arith in
        let front : take (1 + node_count n) plan ≡ m.id ∷ forms n =
        ap₂ (λ a b. take a b) one ep ∙ ap (λ (x : List ℕ). m.id ∷ x) (take-append-le (node_count n) new post fit ∙ k.spelt) in
        as_bound (bound-parted (c0 ∷ []) ec ∙ ap (λ b. over_kids m c p (kid_step b (Ok []))) k.is)
        (record { size = λ i. Ok (record { weight = w i; whole = v i; nodes = u i }); plan = front })

    module _ {l : ℕ} (c0 c1 : Column) (ec : (c0 ∷ (c1 ∷ [])) ≡ p.children) (s0 : Size) (new0 : List ℕ) (k : Kid (below c0 (h ++ ((m.id, 0) ∷ [])) f) s0 new0 l) where
      after-first : (x : Bound) → below c1 (h ++ ((m.id, 1) ∷ [])) f ≡ x
          → scheme_bound below m c h f ≡ over_kids m c p (kid_step (Ok k.node) (kid_step x (Ok [])))
      after-first x e = bound-parted (c0 ∷ (c1 ∷ [])) ec ∙ ap₂ (λ y z. over_kids m c p (kid_step y (kid_step z (Ok [])))) k.is e

      -- child 1 is refused
      pub second-refused : (e : Refusal) (plan : List ℕ) → ◌≡◌ {A = Result Size Refusal} (Err e) (sized (below c1 (h ++ ((m.id, 1) ∷ [])) f)) → Ends (scheme_bound below m c h f) (Err e) plan
      second-refused e plan x = as_bound (after-first (Err e) (kid-refused _ e x)) (record { size = refl; plan = tt })

      -- two children
      pub two-ends : (s o o1 s1 : Size) (plan mid new1 post0 post1 : List ℕ) (at1 : ℕ) → Kid (below c1 (h ++ ((m.id, 1) ∷ [])) f) s1 new1 l
          → o ≡ record { weight = length p.payload; whole = head_size + length p.payload; nodes = 1 }
          → o1 ≡ record { weight = o.weight + s0.weight; whole = o.whole + s0.whole; nodes = o.nodes + s0.nodes }
          → s ≡ record { weight = o1.weight + s1.weight; whole = o1.whole + s1.whole; nodes = o1.nodes + s1.nodes }
          → mid ≡ (m.id ∷ []) ++ (new0 ++ post0) → at1 ≡ o1.nodes → plan ≡ take at1 mid ++ (new1 ++ post1) → Ends (scheme_bound below m c h f) (Ok s) plan
      two-ends s o o1 s1 plan mid new1 post0 post1 at1 k1 eo eo1 es em ea ep =
          let n = k.node in
          let n1 = k1.node in
          let fit = fits-in n new0 k.spelt in
          let fit1 = fits-in n1 new1 k1.spelt in
          let w1 : o1.weight ≡ length p.payload + weight n = ap (λ x. x.weight) eo1 ∙ ap₂ (λ x y. x.weight + y.weight) eo k.size in
          let v1 : o1.whole ≡ head_size + length p.payload + whole n = ap (λ x. x.whole) eo1 ∙ ap₂ (λ x y. x.whole + y.whole) eo k.size in
          let u1 : o1.nodes ≡ 1 + node_count n = ap (λ x. x.nodes) eo1 ∙ ap₂ (λ x y. x.nodes + y.nodes) eo k.size in
          let w : s.weight ≡ length p.payload + weight n + weight n1 = ap (λ x. x.weight) es ∙ ap₂ (λ x y. x + y.weight) w1 k1.size in
          let v : s.whole ≡ head_size + length p.payload + whole n + whole n1 = ap (λ x. x.whole) es ∙ ap₂ (λ x y. x + y.whole) v1 k1.size in
          let u : s.nodes ≡ 1 + node_count n + node_count n1 = ap (λ x. x.nodes) es ∙ ap₂ (λ x y. x + y.nodes) u1 k1.size in
          let one : 1 + node_count n ≡ suc (node_count n) = omega arith in
          let first : take at1 mid ≡ m.id ∷ forms n =
          ap₂ (λ x y. take x y) (ea ∙ u1 ∙ one) em ∙ ap (λ (x : List ℕ). m.id ∷ x) (take-append-le (node_count n) new0 post0 fit ∙ k.spelt) in
          let lf = length-forms n in
          let whole-plan : plan ≡ m.id ∷ (forms n ++ (new1 ++ post1)) = ep ∙ ap (λ (x : List ℕ). x ++ (new1 ++ post1)) first in
          let all : 1 + node_count n + node_count n1 ≡ suc (node_count n + node_count n1) = omega arith in
          let front : take (1 + node_count n + node_count n1) plan ≡ m.id ∷ (forms n ++ forms n1) =
          ap₂ (λ a b. take a b) all whole-plan ∙ ap (λ (x : List ℕ). m.id ∷ x) (spelt-two (forms n) new1 post1 (node_count n) (node_count n1) lf fit1 ∙ ap (λ (x : List ℕ). forms n ++ x) k1.spelt) in
          as_bound (after-first (Ok n1) k1.is) (record { size = λ i. Ok (record { weight = w i; whole = v i; nodes = u i }); plan = front })
        where
          spelt-two : (xs ys zs : List ℕ) (a b : ℕ) → length xs ≡ a → b ≤ length ys → take (a + b) (xs ++ (ys ++ zs)) ≡ xs ++ take b ys
          spelt-two [] ys zs a b e le = let k : a + b ≡ b = omega arith in ap (λ j. take j (ys ++ zs)) k ∙ take-append-le b ys zs le
          spelt-two (x ∷ xs) ys zs zero b e le = absurd (omega arith)
          spelt-two (x ∷ xs) ys zs (suc a) b e le = let k : suc a + b ≡ suc (a + b) = omega arith in ap (λ j. take j (x ∷ (xs ++ (ys ++ zs)))) k ∙ ap (λ (r : List ℕ). x ∷ r) (spelt-two xs ys zs a b (omega arith) le)
