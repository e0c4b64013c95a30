-- What a planned node is by its form.
use Rattle.std.proofs.Common.{◌≡◌, ℕ, zero, suc, ◌+◌, ◌<◌, ◌≤◌, Bool, true, false, eqb, cond, ◌⊎◌, List, [], ◌∷◌, length, Some, None, Option, get_or, sym, refl, ap, ◌∙◌, subst, inl, inr, arith}
use Rattle.std.proofs.lemmas.Bool.{eqb-true, eq-eqb}
use Rattle.column.specs.Columns.{Column, values}
use Rattle.node.specs.Nodes.{Node, head_of, plain_node, constant_node, blank_node, whole, OneValue, Bare}
use Rattle.node.proofs.NodeBytes.{fit-head}
use Rattle.scheme.specs.Meaning.{Meaning}
use Rattle.scheme.specs.Banks.{at, find_from}
use Rattle.levels.specs.NodesOf.{SchemeOf, NodeOf}
use Rattle.levels.specs.Plans.{room}
use Rattle.levels.specs.Openings.{Opened}
use Rattle.emit.specs.Emitted.{Planned, PlannedBy}
use Rattle.emit.proofs.Plan.{named-first}

-- ---- a scheme by its id

pub record Found (i : ℕ) (ms : List Meaning) (k j : ℕ) : Type 0 where
  pub place : ℕ
  pub is : j ≡ i + place
  pub within : place < length ms
  pub id : (at ms place).id ≡ k

none-some : {X : Type 0} {j : ℕ} → ◌≡◌ {A = Option ℕ} None (Some j) → X
none-some e = absurd (let z : ◌≡◌ {A = ℕ} 0 1 = cc in omega arith)

found_from : (i : ℕ) (ms : List Meaning) (k j : ℕ) → find_from i ms k ≡ Some j → Found i ms k j
unfolding find_from
found_from i [] k j e = none-some e
found_from i (m ∷ ms) k j e = go (eqb m.id k) refl (λ h. found_from (suc i) ms k j h) e
  where
    go : (b : Bool) → eqb m.id k ≡ b → (find_from (suc i) ms k ≡ Some j → Found (suc i) ms k j) → cond b (Some i) (find_from (suc i) ms k) ≡ Some j → Found i (m ∷ ms) k j
    go true t s h = record { place = 0; is = (let z : i ≡ j = cc in omega arith); within = omega arith; id = eqb-true m.id k t }
    go false t s h =
        let f = s h in
        let q = f.is in
        let w = f.within in
        record { place = suc f.place; is = omega arith; within = omega arith; id = f.id }

none_from : (i : ℕ) (ms : List Meaning) (k : ℕ) → find_from i ms k ≡ None → (d : ℕ) → d < length ms → (at ms d).id ≡ k → ⊥
unfolding find_from
none_from i [] k e d w q = omega arith
none_from i (m ∷ ms) k e zero w q = none-some (sym e ∙ ap (λ b. cond b (Some i) (find_from (suc i) ms k)) (eq-eqb m.id k q))
none_from i (m ∷ ms) k e (suc d) w q = go (eqb m.id k) (λ h. none_from (suc i) ms k h d (omega arith) q) e
  where
    go : (b : Bool) → (find_from (suc i) ms k ≡ None → ⊥) → cond b (Some i) (find_from (suc i) ms k) ≡ None → ⊥
    go true s h = none-some (sym h)
    go false s h = s h

-- ---- bare, or of a scheme

record Built (ms : List Meaning) (l : ℕ) (c : Column) (n : Node) : Type 0 where
  pub below : ℕ
  pub levels : l ≡ suc below
  pub number : ℕ
  pub of : SchemeOf ms (NodeOf ms below) number c n

bare-or-built : (ms : List Meaning) (l : ℕ) (c : Column) (n : Node) → NodeOf ms l c n → Bare c n ⊎ Built ms l c n
bare-or-built ms zero c n o = inl o
bare-or-built ms (suc l) c n (inl b) = inl b
bare-or-built ms (suc l) c n (inr s) = inr (record { below = l; levels = refl; number = s.0; of = s.1 })

-- a scheme's id is none of the three
built-high : (ms : List Meaning) (l : ℕ) (c : Column) (n : Node) → Opened ms → Built ms l c n → 16 ≤ (head_of n).form
built-high ms l c n o b =
    let e : (head_of n).form ≡ (at ms b.number).id = ap (λ x. x.form) b.of.head in
    let h = o.high b.number b.of.able.within in
    omega arith

module _ (ms : List Meaning) (o : Opened ms) (c : Column) (n : Node) where
  form-of : (m : Node) → n ≡ m → (head_of n).form ≡ (head_of m).form
  form-of m e = ap (λ x. (head_of x).form) e

  plain-by : (l : ℕ) → Bare c n ⊎ Built ms l c n → (head_of n).form ≡ 0 → n ≡ plain_node c
  plain-by l (inl (inl e)) z = e
  plain-by l (inl (inr (inl e))) z = let q = form-of (constant_node c) e.1 in absurd (omega arith)
  plain-by l (inl (inr (inr e))) z = let q = form-of (blank_node c) e.1 in absurd (omega arith)
  plain-by l (inr b) z = let h = built-high ms l c n o b in absurd (omega arith)

  constant-by : (l : ℕ) → Bare c n ⊎ Built ms l c n → (head_of n).form ≡ 1 → OneValue (values c) × (n ≡ constant_node c)
  constant-by l (inl (inl e)) z = let q = form-of (plain_node c) e in absurd (omega arith)
  constant-by l (inl (inr (inl e))) z = e
  constant-by l (inl (inr (inr e))) z = let q = form-of (blank_node c) e.1 in absurd (omega arith)
  constant-by l (inr b) z = let h = built-high ms l c n o b in absurd (omega arith)

  blank-by : (l : ℕ) → Bare c n ⊎ Built ms l c n → (head_of n).form ≡ 2 → n ≡ blank_node c
  blank-by l (inl (inl e)) z = let q = form-of (plain_node c) e in absurd (omega arith)
  blank-by l (inl (inr (inl e))) z = let q = form-of (constant_node c) e.1 in absurd (omega arith)
  blank-by l (inl (inr (inr e))) z = e.1
  blank-by l (inr b) z = let h = built-high ms l c n o b in absurd (omega arith)

  built-by : (l : ℕ) → Bare c n ⊎ Built ms l c n → ((head_of n).form ≡ 0 → ⊥) → ((head_of n).form ≡ 1 → ⊥) → ((head_of n).form ≡ 2 → ⊥) → Built ms l c n
  built-by l (inl (inl e)) x y z = absurd (x (form-of (plain_node c) e))
  built-by l (inl (inr (inl e))) x y z = absurd (y (form-of (constant_node c) e.1))
  built-by l (inl (inr (inr e))) x y z = absurd (z (form-of (blank_node c) e.1))
  built-by l (inr b) x y z = b

-- ---- by the first place of the plan

module _ {ms : List Meaning} (o : Opened ms) {c : Column} {pl : List ℕ} {m z : ℕ} {n : Node} (p : Planned ms c pl m z n) where
  cases : Bare c n ⊎ Built ms p.levels c n
  cases = bare-or-built ms p.levels c n p.of

  first-is : get_or pl 0 0 ≡ (head_of n).form
  first-is = named-first n pl p.named

  pub form-byte : get_or pl 0 0 < 256
  form-byte = let f = (fit-head n p.fit).form in let e = first-is in omega arith

  pub plain-is : get_or pl 0 0 ≡ 0 → n ≡ plain_node c
  plain-is e = plain-by ms o c n p.levels cases (sym first-is ∙ e)

  pub constant-is : get_or pl 0 0 ≡ 1 → OneValue (values c) × (n ≡ constant_node c)
  constant-is e = constant-by ms o c n p.levels cases (sym first-is ∙ e)

  pub blank-is : get_or pl 0 0 ≡ 2 → n ≡ blank_node c
  blank-is e = blank-by ms o c n p.levels cases (sym first-is ∙ e)

  pub plain-room : get_or pl 0 0 ≡ 0 → whole (plain_node c) ≤ z
  plain-room e = subst (λ x. whole x ≤ z) (plain-is e) p.bytes

  pub constant-room : get_or pl 0 0 ≡ 1 → whole (constant_node c) ≤ z
  constant-room e = subst (λ x. whole x ≤ z) (constant-is e).1 p.bytes

  pub blank-room : get_or pl 0 0 ≡ 2 → whole (blank_node c) ≤ z
  blank-room e = subst (λ x. whole x ≤ z) (blank-is e) p.bytes

  module _ (n0 : get_or pl 0 0 ≡ 0 → ⊥) (n1 : get_or pl 0 0 ≡ 1 → ⊥) (n2 : get_or pl 0 0 ≡ 2 → ⊥) where
    built : Built ms p.levels c n
    built = built-by ms o c n p.levels cases (λ e. n0 (first-is ∙ e)) (λ e. n1 (first-is ∙ e)) (λ e. n2 (first-is ∙ e))

    id-is : (at ms built.number).id ≡ get_or pl 0 0
    id-is = sym (first-is ∙ ap (λ x. x.form) built.of.head)

    pub scheme-there : find_from 0 ms (get_or pl 0 0) ≡ None → ⊥
    scheme-there e = none_from 0 ms (get_or pl 0 0) e built.number built.of.able.within id-is

    -- the scheme found is the one that made the node
    pub scheme-is : (i : ℕ) → find_from 0 ms (get_or pl 0 0) ≡ Some i → PlannedBy ms i c pl m z n
    scheme-is i e =
        let f = found_from 0 ms (get_or pl 0 0) i e in
        let q = f.is in
        let a : built.number ≡ f.place = o.apart built.number f.place built.of.able.within f.within (id-is ∙ sym f.id) in
        let b : built.number ≡ i = omega arith in
        record {
          levels = built.below;
          of = subst (λ x. SchemeOf ms (NodeOf ms built.below) x c n) b built.of;
          fit = p.fit;
          named = p.named;
          words = subst (λ l. room l (length c.rows) ≤ m) built.levels p.words;
          bytes = p.bytes;
        }
