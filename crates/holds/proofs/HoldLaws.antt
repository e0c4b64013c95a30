-- What the levels make holds the column and is no heavier than plain.
use Rattle.std.proofs.Common.{◌≡◌, ℕ, zero, suc, ◌≤◌, Bool, true, false, not, eqb, ltb, List, [], ◌∷◌, ◌++◌, length, Some, None, Ok, Err, Result, sym, refl, subst, inl, inr, le_refl, le_of_lt, arith}
use Rattle.std.specs.List.{AllByRecursion}
use Rattle.std.proofs.lemmas.Bool.{ltb-true, eqb-true, and_parts}
use Rattle.column.specs.Columns.{Row, Column, Clean, values}
use Rattle.node.specs.Nodes.{Node, weight, plain_node, constant_node, OneValue, Bare}
use Rattle.node.proofs.NodeBytes.{over-head, over-payload, over-children}
use Rattle.sample.specs.Draws.{Source}
use Rattle.scheme.specs.Meaning.{Meaning, Parts, AllClean, History}
use Rattle.scheme.specs.Banks.{AllKeep, at}
use Rattle.constant.specs.Constants.{all_equal_to, constantly}
use Rattle.levels.specs.Choice.{Chosen}
use Rattle.levels.specs.Levels.{Bound, Below, Kids, kid_step, kids_below, scheme_head, over_kids, bound_by, scheme_bound, choice, lighter_by, or_plain, won, competed, taken_constant, constant_by, leveled, levels}
use Rattle.levels.specs.NodesOf.{Each, Able, SchemeOf, NodeOf}
use Rattle.holds.specs.Holding.{LevelsHold, SchemesHold}
use Rattle.holds.proofs.Choosing.{In, ChosenOk, choice-in}
use Rattle.holds.proofs.Sizes.{node-sized, node-bytes, places-suc, kids-clean, kids-few, each-length}

-- ---- one value

equal-all : (v : ℕ) (vs : List ℕ) → all_equal_to v vs ≡ true → AllByRecursion (λ w. w ≡ v) vs
equal-all v [] e = tt
equal-all v (w ∷ ws) e = let p = and_parts (eqb v w) (all_equal_to v ws) e in (sym (eqb-true v w p.0), equal-all v ws p.1)

pub constant-one : (vs : List ℕ) → constantly vs ≡ true → OneValue vs
constant-one [] e = absurd (let z : ◌≡◌ {A = ℕ} 0 1 = cc in omega arith)
constant-one (v ∷ vs) e = equal-all v vs e

pub taken-one : (f : Bool) (c : Column) → taken_constant f c ≡ true → OneValue (values c)
taken-one f c e = constant-one (values c) (and_parts (not f) (constantly (values c)) e).1

-- ---- bare nodes at any level

pub bare_of : (ms : List Meaning) (l : ℕ) (c : Column) (n : Node) → Bare c n → NodeOf ms l c n
bare_of ms zero c n b = b
bare_of ms (suc l) c n b = inl b

-- ---- the levels

-- a node that holds the column and is no heavier than plain, if there is one
abbrev pub Held : List Meaning → ℕ → Column → Bound → Type 0
Held ms l c (Ok n) = NodeOf ms l c n × (weight n ≤ weight (plain_node c))
Held ms l c (Err e) = Unit {0}

-- a scheme's node, if there is one
abbrev pub HeldBy : List Meaning → ℕ → ℕ → Column → Bound → Type 0
HeldBy ms l i c (Ok n) = SchemeOf ms (NodeOf ms l) i c n
HeldBy ms l i c (Err e) = Unit {0}

abbrev KidsHeld : List Meaning → ℕ → List Column → Kids → Type 0
KidsHeld ms l cs (Ok ns) = Each (NodeOf ms l) cs ns
KidsHeld ms l cs (Err e) = Unit {0}

plain-held : (ms : List Meaning) (l : ℕ) (c : Column) → Held ms l c (Ok (plain_node c))
plain-held ms l c = (bare_of ms l c (plain_node c) (inl refl), le_refl (weight (plain_node c)))

-- the lighter of a node that holds the column, and plain
lighter-held : (ms : List Meaning) (l : ℕ) (c : Column) (n : Node) (q : Bool) → ltb (weight n) (weight (plain_node c)) ≡ q → NodeOf ms l c n → Held ms l c (Ok (lighter_by q n (plain_node c)))
lighter-held ms l c n true e o = (o, le_of_lt (ltb-true (weight n) (weight (plain_node c)) e))
lighter-held ms l c n false e o = plain-held ms l c

module _ (ms : List Meaning) (kp : AllKeep ms) (l : ℕ) (below : Below) (bh : (c : Column) (h : History) (f : Bool) → Clean c → Held ms l c (below c h f)) where
  kid-held : (c : Column) (cs : List Column) (b : Bound) (ks : Kids) → Held ms l c b → KidsHeld ms l cs ks → KidsHeld ms l (c ∷ cs) (kid_step b ks)
  kid-held c cs (Err e) ks p q = tt
  kid-held c cs (Ok n) (Err e) p q = tt
  kid-held c cs (Ok n) (Ok ns) p q = (p.0, q)

  kids-held : (i : ℕ) (h : History) (f : Bool) (k : ℕ) (cs : List Column) → AllClean cs → KidsHeld ms l cs (kids_below below i h f k cs)
  kids-held i h f k [] a = tt
  kids-held i h f k (c ∷ cs) a =
      kid-held c cs (below c (h ++ ((i, k) ∷ [])) f) (kids_below below i h f (suc k) cs) (bh c (h ++ ((i, k) ∷ [])) f a.0) (kids-held i h f (suc k) cs a.1)

  over-held : (i : ℕ) (c : Column) → Clean c → Able ms c.kind i → (p : Parts) → (at ms i).parts c ≡ Ok p
      → (ks : Kids) → KidsHeld ms l p.children ks → HeldBy ms l i c (over_kids (at ms i) c p ks)
  over-held i c cl ab p e (Err x) q = tt
  over-held i c cl ab p e (Ok ns) q =
      let s = kids-few ms kp i c cl ab p e in
      let t = each-length (NodeOf ms l) p.children ns q in
      let two : length ns ≤ 2 = omega arith in
      let hd = scheme_head (at ms i) c p in
      record {
        able = ab;
        parts = p;
        split = e;
        head = over-head hd p.payload ns;
        payload = over-payload hd p.payload ns;
        children = subst (Each (NodeOf ms l) p.children) (sym (over-children hd p.payload ns two)) q;
      }

  by-held : (i : ℕ) (c : Column) → Clean c → Able ms c.kind i → (h : History) (f : Bool) (q : Result Parts ℕ) → (at ms i).parts c ≡ q → HeldBy ms l i c (bound_by below (at ms i) c h f q)
  by-held i c cl ab h f (Ok p) e =
      over-held i c cl ab p e (kids_below below (at ms i).id h f 0 p.children) (kids-held (at ms i).id h f 0 p.children (kids-clean ms kp i c cl ab p e))
  by-held i c cl ab h f (Err r) e = tt

  pub scheme-held : (i : ℕ) (c : Column) → Clean c → Able ms c.kind i → (h : History) (f : Bool) → HeldBy ms l i c (scheme_bound below (at ms i) c h f)
  unfolding scheme_bound
  scheme-held i c cl ab h f = by-held i c cl ab h f ((at ms i).parts c) refl

  or-held : (i : ℕ) (c : Column) (b : Bound) → HeldBy ms l i c b → Held ms (suc l) c (or_plain c b)
  or-held i c (Err e) s = tt
  or-held i c (Ok n) s = lighter-held ms (suc l) c n (ltb (weight n) (weight (plain_node c))) refl (inr (i, s))

  won-held : (c : Column) → Clean c → (h : History) (f : Bool) (x : Chosen) → ChosenOk (In ms c.kind) (λ _. Unit {0}) x → Held ms (suc l) c (won below c h f x)
  won-held c cl h f (Err e) g = tt
  won-held c cl h f (Ok None) g = plain-held ms (suc l) c
  won-held c cl h f (Ok (Some m)) (i, (ab, e)) =
      let Q : Meaning → Type 0 = λ y. Held ms (suc l) c (or_plain c (scheme_bound below y c h f)) in
      subst Q e (or-held i c (scheme_bound below (at ms i) c h f) (scheme-held i c cl ab h f))

  competed-held : (d : Source) (c : Column) → Clean c → (h : History) (f : Bool) → Held ms (suc l) c (competed ms d below c h f)
  competed-held d c cl h f =
      won-held c cl h f (choice ms d below c h f) (choice-in ms d below c h f)

  constant-held : (d : Source) (c : Column) → Clean c → (h : History) (f q : Bool) → taken_constant f c ≡ q → Held ms (suc l) c (constant_by q ms d below c h f)
  constant-held d c cl h f true e =
      lighter-held ms (suc l) c (constant_node c) (ltb (weight (constant_node c)) (weight (plain_node c))) refl (inl (inr (inl (taken-one f c e, refl))))
  constant-held d c cl h f false e = competed-held d c cl h f

  leveled-held : (d : Source) (c : Column) → Clean c → (h : History) (f : Bool) (rs : List Row) (vs : List ℕ) → values c ≡ vs → Held ms (suc l) c (leveled ms d below c h f rs vs)
  leveled-held d c cl h f [] vs e = plain-held ms (suc l) c
  leveled-held d c cl h f (r ∷ rs) [] e = (inl (inr (inr (e, refl))), omega arith)
  leveled-held d c cl h f (r ∷ rs) (v ∷ vs) e = constant-held d c cl h f (taken_constant f c) refl

pub levels-held : (ms : List Meaning) → AllKeep ms → (d : Source) (l : ℕ) (c : Column) (h : History) (f : Bool) → Clean c → Held ms l c (levels ms d l c h f)
unfolding levels
levels-held ms kp d zero c h f cl = plain-held ms zero c
levels-held ms kp d (suc l) c h f cl = leveled-held ms kp l (levels ms d l) (λ x y z w. levels-held ms kp d l x y z w) d c cl h f c.rows (values c) refl

-- ---- the laws

held_by : (ms : List Meaning) (l : ℕ) (c : Column) (b : Bound) (n : Node) → b ≡ Ok n → Held ms l c b → NodeOf ms l c n × (weight n ≤ weight (plain_node c))
held_by ms l c b n e h = subst (Held ms l c) e h

pub levels-hold : LevelsHold
levels-hold ms kp d l b c cl h f n e =
    let o = held_by ms l c (levels ms d l c h f) n e (levels-held ms kp d l c h f cl) in
    let s = node-sized ms kp l (omega arith) c n cl o.0 in
    record { of = o.0; fit = s.fit; bytes = node-bytes ms kp l (omega arith) c n cl o.0; light = o.1; few = s.few; short = s.short; low = s.low }

pub scheme-holds : SchemesHold
scheme-holds ms kp d l b c cl i ab h f n e =
    let o : SchemeOf ms (NodeOf ms l) i c n = subst (HeldBy ms l i c) e (scheme-held ms kp l (levels ms d l) (λ x y z w. levels-held ms kp d l x y z w) i c cl ab h f) in
    let s = node-sized ms kp (suc l) (omega arith) c n cl (inr (i, o)) in
    let q = places-suc l in
    let w1 = s.few in let w2 = s.short in
    record { of = o; fit = s.fit; bytes = node-bytes ms kp (suc l) (omega arith) c n cl (inr (i, o)); few = omega arith; short = omega arith; low = s.low }
