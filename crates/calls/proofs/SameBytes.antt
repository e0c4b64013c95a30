-- Bytes that begin with the nodes of columns fix those columns.
use Rattle.std.proofs.Common.{◌≡◌, ℕ, zero, suc, List, [], ◌∷◌, ◌++◌, length, sym, refl, ap, ◌∙◌, subst, inl, inr, append_assoc, arith}
use Rattle.column.specs.Columns.{Column, Clean}
use Rattle.node.specs.declared.heads.Head.{Head}
use Rattle.node.specs.Nodes.{Node, leaf, over, fork, head_of, payload_of, children_of, flat, flats, Bare, Fit}
use Rattle.node.specs.Reading.{head_read, payload_read, after_payload, after_node, leaf_read}
use Rattle.node.proofs.NodeBytes.{head-back, payload-back, children-back, after-back}
use Rattle.node.proofs.LeafLaws.{bare-back, bare-head}
use Rattle.scheme.specs.Meaning.{Meaning, AllClean}
use Rattle.scheme.specs.Banks.{AllKeep, at}
use Rattle.levels.specs.Openings.{Opened}
use Rattle.levels.specs.NodesOf.{Each, SchemeOf, NodeOf}
use Rattle.holds.proofs.Sizes.{parts-keep}
use Rattle.std.specs.List.{AllByRecursion}

-- a node that holds a column, and that bytes give back
pub record Readable (ms : List Meaning) (l : ℕ) (c : Column) (n : Node) : Type 0 where
  pub of : NodeOf ms l c n
  pub clean : Clean c
  pub fit : Fit n

fit-children : (n : Node) → Fit n → AllByRecursion Fit (children_of n)
fit-children (leaf h p) f = tt
fit-children (over h p a) f = (f.2, tt)
fit-children (fork h p a b) f = (f.2, (f.3, tt))

all-readable : (ms : List Meaning) (l : ℕ) (cs : List Column) (ns : List Node) → Each (NodeOf ms l) cs ns → AllClean cs → AllByRecursion Fit ns → Each (Readable ms l) cs ns
all-readable ms l [] [] e a f = tt
all-readable ms l [] (n ∷ ns) e a f = absurd e
all-readable ms l (c ∷ cs) [] e a f = absurd e
all-readable ms l (c ∷ cs) (n ∷ ns) e a f = (record { of = e.0; clean = a.0; fit = f.0 }, all-readable ms l cs ns e.1 a.1 f.1)

-- what two nodes at the front of the same bytes share
record Shared (n k : Node) (x y : List ℕ) : Type 0 where
  pub head : head_of n ≡ head_of k
  pub payload : payload_of n ≡ payload_of k
  pub children : flats (children_of n) ++ x ≡ flats (children_of k) ++ y

shared : (n k : Node) (x y : List ℕ) → Fit n → Fit k → flat n ++ x ≡ flat k ++ y → Shared n k x y
shared n k x y f g e = record {
  head = sym (head-back n x f) ∙ ap head_read e ∙ head-back k y g;
  payload = sym (payload-back n x f) ∙ ap payload_read e ∙ payload-back k y g;
  children = sym (children-back n x f) ∙ ap after_payload e ∙ children-back k y g;
}

module _ (ms : List Meaning) (kp : AllKeep ms) (op : Opened ms) where
  -- bytes with l levels of schemes fix the column
  abbrev Fixed : ℕ → Type 0
  Fixed l = (c d : Column) (n k : Node) (x y : List ℕ) → Readable ms l c n → Readable ms l d k → flat n ++ x ≡ flat k ++ y → c ≡ d

  pub columns-same : (l : ℕ) → Fixed l → (cs ds : List Column) (ns ks : List Node) (x y : List ℕ) → Each (Readable ms l) cs ns → Each (Readable ms l) ds ks
      → length cs ≡ length ds → flats ns ++ x ≡ flats ks ++ y → cs ≡ ds
  columns-same l f [] [] ns ks x y a b n e = refl
  columns-same l f [] (d ∷ ds) ns ks x y a b n e = absurd (omega arith)
  columns-same l f (c ∷ cs) [] ns ks x y a b n e = absurd (omega arith)
  columns-same l f (c ∷ cs) (d ∷ ds) [] ks x y a b n e = absurd a
  columns-same l f (c ∷ cs) (d ∷ ds) (h ∷ ns) [] x y a b n e = absurd b
  columns-same l f (c ∷ cs) (d ∷ ds) (h ∷ ns) (k ∷ ks) x y a b n e =
      let s : flat h ++ (flats ns ++ x) ≡ flat k ++ (flats ks ++ y) = sym (append_assoc (flat h) (flats ns) x) ∙ e ∙ append_assoc (flat k) (flats ks) y in
      let first = f c d h k (flats ns ++ x) (flats ks ++ y) a.0 b.0 s in
      let later = columns-same l f cs ds ns ks x y a.1 b.1 (omega arith) (sym (after-back h (flats ns ++ x) a.0.fit) ∙ ap after_node s ∙ after-back k (flats ks ++ y) b.0.fit) in
      λ i. first i ∷ later i

  bare-same : (c d : Column) (n k : Node) (x y : List ℕ) → Clean c → Clean d → Bare c n → Bare d k → Shared n k x y → c ≡ d
  bare-same c d n k x y cl dl a b s = sym (bare-back c n cl a) ∙ (λ i. leaf_read (s.head i) (s.payload i)) ∙ bare-back d k dl b

  -- a form without a scheme is no scheme's id
  bare-apart : (l : ℕ) (c d : Column) (n k : Node) (i : ℕ) → Clean c → Bare c n → SchemeOf ms (NodeOf ms l) i d k → head_of n ≡ head_of k → ⊥
  bare-apart l c d n k i cl b s e =
      let low = (bare-head c n cl b).0 in
      let id = ap (λ (h : Head). h.form) (e ∙ s.head) in
      let high = op.high i s.able.within in
      omega arith

  scheme-same : (l : ℕ) → Fixed l → (i : ℕ) (c d : Column) (n k : Node) (x y : List ℕ) → Clean c → Clean d → Fit n → Fit k
      → SchemeOf ms (NodeOf ms l) i c n → SchemeOf ms (NodeOf ms l) i d k → Shared n k x y → c ≡ d
  scheme-same l f i c d n k x y cl dl fn fk a b s =
      let p = parts-keep ms kp i c cl a.able a.parts a.split in
      let q = parts-keep ms kp i d dl b.able b.parts b.split in
      let h = sym a.head ∙ s.head ∙ b.head in
      let kids = columns-same l f a.parts.children b.parts.children (children_of n) (children_of k) x y
      (all-readable ms l a.parts.children (children_of n) a.children p.kids_clean (fit-children n fn))
      (all-readable ms l b.parts.children (children_of k) b.children q.kids_clean (fit-children k fk)) (p.kids ∙ sym q.kids) s.children in
      let body = sym a.payload ∙ s.payload ∙ b.payload in
      sym p.joins
      ∙ (λ j. (at ms i).join (h j).kind (h j).rows (record { payload = body j; cell_bits = (h j).cell_bits; flag = (h j).flag; children = kids j }))
      ∙ q.joins

  level-same : (l : ℕ) → Fixed l → (c d : Column) (n k : Node) (x y : List ℕ) → Clean c → Clean d → Fit n → Fit k → Shared n k x y
      → NodeOf ms (suc l) c n → NodeOf ms (suc l) d k → c ≡ d
  level-same l f c d n k x y cl dl fn fk s (inl p) (inl q) = bare-same c d n k x y cl dl p q s
  level-same l f c d n k x y cl dl fn fk s (inl p) (inr (j, q)) = absurd (bare-apart l c d n k j cl p q s.head)
  level-same l f c d n k x y cl dl fn fk s (inr (i, p)) (inl q) = absurd (bare-apart l d c k n i dl q p (sym s.head))
  level-same l f c d n k x y cl dl fn fk s (inr (i, p)) (inr (j, q)) =
      let h = sym p.head ∙ s.head ∙ q.head in
      let same = op.apart i j p.able.within q.able.within (ap (λ (z : Head). z.form) h) in
      scheme-same l f i c d n k x y cl dl fn fk p (subst (λ z. SchemeOf ms (NodeOf ms l) z d k) (sym same) q) s

  pub column-same : (l : ℕ) → Fixed l
  column-same zero c d n k x y a b e = bare-same c d n k x y a.clean b.clean a.of b.of (shared n k x y a.fit b.fit e)
  column-same (suc l) c d n k x y a b e =
      level-same l (column-same l) c d n k x y a.clean b.clean a.fit b.fit (shared n k x y a.fit b.fit e) a.of b.of
