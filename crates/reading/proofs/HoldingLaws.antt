-- Nodes that hold a column: their heads, and of which form they are.
use Rattle.std.proofs.Common.{◌≡◌, ℕ, zero, suc, ◌-◌, ◌<◌, ◌≤◌, List, ◌++◌, length, Some, None, Option, Result, sym, ap, ◌∙◌, subst, inl, inr, arith}
use Rattle.std.specs.Result.{result_ok}
use Rattle.column.specs.declared.kinds.Kind.{Kind}
use Rattle.column.specs.declared.refusals.Refusal.{Refusal}
use Rattle.column.specs.Kinds.{number_of, kind_of, known_kind}
use Rattle.column.specs.Columns.{Column}
use Rattle.column.proofs.InspectLaws.{known-ok}
use Rattle.node.specs.declared.heads.Head.{Head}
use Rattle.node.specs.declared.heads.Header.{Header}
use Rattle.node.specs.Nodes.{Node, leaf, head_of, payload_of, children_of, flats, Bare}
use Rattle.node.specs.Reading.{header_of}
use Rattle.scheme.specs.Meaning.{Meaning}
use Rattle.scheme.specs.Banks.{find_from}
use Rattle.levels.specs.NodesOf.{SchemeOf, NodeOf}
use Rattle.levels.specs.Openings.{Opened}
use Rattle.reading.specs.declared.nodes.Own.{Own}
use Rattle.reading.specs.Reads.{Begins}
use Rattle.reading.specs.Places.{OwnOf}
use Rattle.reading.proofs.FindLaws.{finds}

-- ---- heads

pub record HeadOf (c : Column) (h : Head) : Type 0 where
  pub kind : h.kind ≡ c.kind
  pub rows : h.rows ≡ length c.rows

bare-head : (c : Column) (n : Node) → Bare c n → HeadOf c (head_of n)
bare-head c n (inl e) = record { kind = ap (λ m. (head_of m).kind) e; rows = ap (λ m. (head_of m).rows) e }
bare-head c n (inr (inl e)) = record { kind = ap (λ m. (head_of m).kind) e.1; rows = ap (λ m. (head_of m).rows) e.1 }
bare-head c n (inr (inr e)) = record { kind = ap (λ m. (head_of m).kind) e.1; rows = ap (λ m. (head_of m).rows) e.1 }

node-head : (ms : List Meaning) (l : ℕ) (c : Column) (n : Node) → NodeOf ms l c n → HeadOf c (head_of n)
node-head ms zero c n b = bare-head c n b
node-head ms (suc l) c n (inl b) = bare-head c n b
node-head ms (suc l) c n (inr s) = record { kind = ap (λ (h : Head). h.kind) s.1.head; rows = ap (λ (h : Head). h.rows) s.1.head }

-- ---- by form

bare-leaf : (c : Column) (n : Node) → Bare c n → n ≡ leaf (head_of n) (payload_of n)
bare-leaf c n (inl e) = e ∙ ap (λ m. leaf (head_of m) (payload_of m)) (sym e)
bare-leaf c n (inr (inl e)) = e.1 ∙ ap (λ m. leaf (head_of m) (payload_of m)) (sym e.1)
bare-leaf c n (inr (inr e)) = e.1 ∙ ap (λ m. leaf (head_of m) (payload_of m)) (sym e.1)

bare-low : (c : Column) (n : Node) → Bare c n → (head_of n).form < 16
bare-low c n (inl e) = let f = ap (λ m. (head_of m).form) e in omega arith
bare-low c n (inr (inl e)) = let f = ap (λ m. (head_of m).form) e.1 in omega arith
bare-low c n (inr (inr e)) = let f = ap (λ m. (head_of m).form) e.1 in omega arith

-- below 16 it is bare
is-bare : (ms : List Meaning) (l : ℕ) (c : Column) (n : Node) → Opened ms → NodeOf ms l c n → (head_of n).form < 16 → Bare c (leaf (head_of n) (payload_of n))
is-bare ms zero c n o b h = subst (Bare c) (bare-leaf c n b) b
is-bare ms (suc l) c n o (inl b) h = subst (Bare c) (bare-leaf c n b) b
is-bare ms (suc l) c n o (inr s) h =
    absurd (let i = o.high s.0 s.1.able.within in let e = ap (λ (x : Head). x.form) s.1.head in omega arith)

some-is : {A : Type 0} {a b : A} → ◌≡◌ {A = Option A} (Some a) (Some b) → a ≡ b
some-is e = cc

-- from 16 on it is of a scheme, over a level less
record SchemeAt (ms : List Meaning) (l i : ℕ) (c : Column) (n : Node) : Type 0 where
  pub below : 0 < l
  pub found : find_from 0 ms (head_of n).form ≡ Some i
  pub of : SchemeOf ms (NodeOf ms (l - 1)) i c n

is-scheme : (ms : List Meaning) (l : ℕ) (c : Column) (n : Node) → Opened ms → NodeOf ms l c n → 16 ≤ (head_of n).form → (i : ℕ) × SchemeAt ms l i c n
is-scheme ms zero c n o b h = absurd (let l = bare-low c n b in omega arith)
is-scheme ms (suc l) c n o (inl b) h = absurd (let l = bare-low c n b in omega arith)
is-scheme ms (suc l) c n o (inr s) h =
    let one : l ≡ suc l - 1 = omega arith in (
      s.0,
      record {
        below = omega arith;
        found = ap (λ (x : Head). find_from 0 ms x.form) s.1.head ∙ finds ms s.0 o s.1.able.within;
        of = subst (λ k. SchemeOf ms (NodeOf ms k) s.0 c n) one s.1;
      },
    )

-- ---- a node that bytes begin with

-- the kind that was read
pub read-kind : (n : ℕ) (r : Result Kind Refusal) (o : Option Kind) → r ≡ known_kind n → o ≡ result_ok r → o ≡ kind_of n
read-kind n r o e f = f ∙ ap result_ok e ∙ known-ok (kind_of n)

-- the head that was read
head-is : (h : Header) (n : Node) → ◌≡◌ {A = Option Header} (Some h) (Some (header_of n)) → h.head ≡ head_of n
head-is h n e = let z : h ≡ header_of n = cc in ap (λ (x : Header). x.head) z

module _ {ms : List Meaning} {l : ℕ} {c : Column} {bytes : List ℕ} (b : Begins ms l c bytes) {h : Header} (e : ◌≡◌ {A = Option Header} (Some h) (Some (header_of b.node))) where
  pub read-head : HeadOf c h.head
  read-head = subst (HeadOf c) (sym (head-is h b.node e)) (node-head ms l c b.node b.of)

  pub read-bare : (p : List ℕ) → Opened ms → p ≡ payload_of b.node → h.head.form < 16 → Bare c (leaf h.head p)
  read-bare p o q low =
      let s = head-is h b.node e in
      let f = ap (λ (x : Head). x.form) s in
      subst (Bare c) (λ i. leaf (sym s i) (sym q i)) (is-bare ms l c b.node o b.of (omega arith))

  read-scheme : Opened ms → 16 ≤ h.head.form → (i : ℕ) × SchemeAt ms l i c b.node
  read-scheme o high = let f = ap (λ (x : Head). x.form) (head-is h b.node e) in is-scheme ms l c b.node o b.of (omega arith)

  pub never-lost : Opened ms → 16 ≤ h.head.form → ◌≡◌ {A = Option ℕ} None (find_from 0 ms h.head.form) → ⊥
  never-lost o high f =
      let s = read-scheme o high in
      let z : ◌≡◌ {A = Option ℕ} None (Some s.0) = f ∙ ap (λ (x : Head). find_from 0 ms x.form) (head-is h b.node e) ∙ s.1.found in
      cc

  pub read-own : (i : ℕ) (o : Own) → Opened ms → 16 ≤ h.head.form → Some i ≡ find_from 0 ms h.head.form → number_of o.read.kind ≡ o.head.kind → o.read.rows ≡ o.head.rows → o.head ≡ h.head
      → (o.body.payload.now ≡ payload_of b.node) × (o.body.children.now ≡ flats (children_of b.node) ++ b.rest) → (0 < l) × OwnOf ms (l - 1) i c o
  read-own i o op high f ek er eh body =
      let s = head-is h b.node e in
      let w = read-scheme op high in
      let same : w.0 ≡ i = some-is (sym (f ∙ ap (λ (x : Head). find_from 0 ms x.form) s ∙ w.1.found)) in (
        w.1.below,
        record {
          node = b.node;
          rest = b.rest;
          of = subst (λ j. SchemeOf ms (NodeOf ms (l - 1)) j c b.node) same w.1.of;
          fit = b.fit;
          kind = ek;
          rows = er;
          head = eh ∙ s;
          payload = body.0;
          children = body.1;
        },
      )
