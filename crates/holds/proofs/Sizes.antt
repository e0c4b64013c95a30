-- A node that holds a clean column fits its bytes and is as small as its levels allow.
use Rattle.std.proofs.Common.{◌≡◌, ℕ, zero, suc, ◌+◌, ◌*◌, ◌≤◌, List, [], ◌∷◌, length, Ok, Result, sym, refl, ap, subst, inl, inr, arith}
use Rattle.std.specs.List.{AllByRecursion}
use Rattle.packing.specs.Packing.{Below}
use Rattle.packing.proofs.Below.{below-append}
use Rattle.column.specs.Columns.{Column, Clean, values, has_blank}
use Rattle.column.proofs.RowLaws.{clean-kind, clean-short}
use Rattle.node.specs.declared.heads.Head.{Head}
use Rattle.node.specs.Payloads.{plain_payload, constant_payload}
use Rattle.node.specs.Nodes.{Node, leaf, over, fork, head_of, payload_of, children_of, weight, whole, flat, flats, height, plain_node, constant_node, blank_node, Bare, FitHead, Fit}
use Rattle.node.proofs.LeafLaws.{length-plain, plain-small, below_plain, length-constant, constant-small, below-constant, some-value, bare-fit}
use Rattle.node.proofs.NodeBytes.{below-flat}
use Rattle.scheme.specs.Meaning.{Meaning, Parts, AllClean, PartsKeep, PartedKeeps}
use Rattle.scheme.specs.Banks.{AllKeep, at}
use Rattle.levels.specs.Levels.{scheme_head}
use Rattle.levels.specs.NodesOf.{Each, Able, SchemeOf, NodeOf}
use Rattle.levels.specs.Plans.{node_count, places}
use Rattle.holds.specs.Holding.{own_most}
use Rattle.holds.proofs.Choosing.{bank-at}

-- ---- how many places levels have

pub places-some : (l : ℕ) → 1 ≤ places l
unfolding places
places-some zero = omega arith
places-some (suc l) = let h = places-some l in omega arith

pub places-suc : (l : ℕ) → places (suc l) ≡ 2 * places l + 1
unfolding places
places-suc l = refl

pub places-more : (l k : ℕ) → l ≤ k → places l ≤ places k
unfolding places
places-more zero k h = places-some k
places-more (suc l) zero h = absurd (omega arith)
places-more (suc l) (suc k) h = let i = places-more l k (omega arith) in omega arith

nine : places 9 ≡ 1023
unfolding places
nine = refl

pub places-most : (l : ℕ) → l ≤ 9 → places l ≤ 1023
places-most l h = let m = places-more l 9 h in let e = nine in omega arith

-- ---- sizes

pub record Sized (l : ℕ) (n : Node) : Type 0 where
  pub fit : Fit n
  pub few : node_count n ≤ places l
  pub short : whole n ≤ places l * own_most
  pub low : height n ≤ l

pub weight-whole : (n : Node) → weight n ≤ whole n
weight-whole (leaf h p) = omega arith
weight-whole (over h p a) = let i = weight-whole a in omega arith
weight-whole (fork h p a b) = let i = weight-whole a in let j = weight-whole b in omega arith

pub count-some : (n : Node) → 1 ≤ node_count n
count-some (leaf h p) = omega arith
count-some (over h p a) = omega arith
count-some (fork h p a b) = omega arith

leaf-sized : (l : ℕ) (h : Head) (p : List ℕ) → Fit (leaf h p) → length p ≤ 9 * 131072 + 16 → Sized l (leaf h p)
leaf-sized l h p f s = let o = places-some l in record { fit = f; few = omega arith; short = omega arith; low = omega arith }

pub bare-sized : (l : ℕ) (c : Column) (n : Node) → Clean c → Bare c n → Sized l n
bare-sized l c n cl (inl e) =
    let k = plain-small c.kind (length c.rows) (has_blank c.rows) (clean-kind c cl) in
    let q = length-plain c in
    let r = clean-short c cl in
    subst (Sized l) (sym e) (leaf-sized l (head_of (plain_node c)) (plain_payload c) (bare-fit c (plain_node c) cl (inl refl)) (omega arith))
bare-sized l c n cl (inr (inl e)) =
    let k = constant-small c.kind (length c.rows) (has_blank c.rows) (clean-kind c cl) in
    let q = length-constant c (some-value (values c) e.0) in
    let r = clean-short c cl in
    subst (Sized l) (sym e.1) (leaf-sized l (head_of (constant_node c)) (constant_payload c) (bare-fit c (constant_node c) cl (inr (inl (e.0, refl)))) (omega arith))
bare-sized l c n cl (inr (inr e)) =
    subst (Sized l) (sym e.1) (leaf-sized l (head_of (blank_node c)) [] (bare-fit c (blank_node c) cl (inr (inr (e.0, refl)))) (omega arith))

-- ---- a node over sized children

over_sized : (l : ℕ) → suc l ≤ 9 → (n : Node) → FitHead (head_of n) → length (payload_of n) ≤ 9 * 131072 + 16 → AllByRecursion (Sized l) (children_of n) → Sized (suc l) n
over_sized l b (leaf h p) f s k =
    let o = places-suc l in
    let m = places-most (suc l) b in
    record { fit = (f, omega arith); few = omega arith; short = omega arith; low = omega arith }
over_sized l b (over h p a) f s k =
    let o = places-suc l in
    let m = places-most (suc l) b in
    let a1 = k.0.few in let a2 = k.0.short in let a3 = k.0.low in
    record { fit = (f, omega arith, k.0.fit); few = omega arith; short = omega arith; low = omega arith }
over_sized l b (fork h p a d) f s k =
    let o = places-suc l in
    let m = places-most (suc l) b in
    let a1 = k.0.few in let a2 = k.0.short in let a3 = k.0.low in
    let d1 = k.1.0.few in let d2 = k.1.0.short in let d3 = k.1.0.low in
    record { fit = (f, omega arith, k.0.fit, k.1.0.fit); few = omega arith; short = omega arith; low = omega arith }

-- ---- the parts that a scheme of the bank gives

parts-by : (m : Meaning) (c : Column) (p : Parts) (q : Result Parts ℕ) → q ≡ Ok p → PartedKeeps m c q → PartsKeep m c p
parts-by m c p q e k = (subst (PartedKeeps m c) e k).0

pub parts-keep : (ms : List Meaning) → AllKeep ms → (i : ℕ) (c : Column) → Clean c → Able ms c.kind i → (p : Parts) → (at ms i).parts c ≡ Ok p → PartsKeep (at ms i) c p
parts-keep ms kp i c cl ab p e = parts-by (at ms i) c p ((at ms i).parts c) e ((bank-at ms i kp ab.within).parted c cl ab.takes)

pub kids-clean : (ms : List Meaning) → AllKeep ms → (i : ℕ) (c : Column) → Clean c → Able ms c.kind i → (p : Parts) → (at ms i).parts c ≡ Ok p → AllClean p.children
kids-clean ms kp i c cl ab p e = (parts-keep ms kp i c cl ab p e).kids_clean

pub kids-few : (ms : List Meaning) → AllKeep ms → (i : ℕ) (c : Column) → Clean c → Able ms c.kind i → (p : Parts) → (at ms i).parts c ≡ Ok p → length p.children ≤ 2
kids-few ms kp i c cl ab p e =
    let k = (parts-keep ms kp i c cl ab p e).kids in
    let f = (bank-at ms i kp ab.within).few in
    omega arith

pub each-length : (P : Column → Node → Type 0) (cs : List Column) (ns : List Node) → Each P cs ns → length ns ≡ length cs
each-length P [] [] e = refl
each-length P [] (n ∷ ns) e = absurd e
each-length P (c ∷ cs) [] e = absurd e
each-length P (c ∷ cs) (n ∷ ns) e = ap suc (each-length P cs ns e.1)

pub each_all : (P : Column → Node → Type 0) (R : Node → Type 0) → ((c : Column) (n : Node) → Clean c → P c n → R n)
    → (cs : List Column) (ns : List Node) → AllClean cs → Each P cs ns → AllByRecursion R ns
each_all P R f [] [] a e = tt
each_all P R f [] (n ∷ ns) a e = absurd e
each_all P R f (c ∷ cs) [] a e = absurd e
each_all P R f (c ∷ cs) (n ∷ ns) a e = (f c n a.0 e.0, each_all P R f cs ns a.1 e.1)

scheme-head-fit : (ms : List Meaning) → AllKeep ms → (i : ℕ) (c : Column) → Clean c → Able ms c.kind i → (p : Parts) → (at ms i).parts c ≡ Ok p → FitHead (scheme_head (at ms i) c p)
scheme-head-fit ms kp i c cl ab p e =
    let k = parts-keep ms kp i c cl ab p e in
    let d = clean-kind c cl in
    let r = clean-short c cl in
    record { form = (bank-at ms i kp ab.within).id_byte; kind = omega arith; bits = k.bits_byte; flag = k.flag_byte; rows = omega arith }

scheme-sized : (ms : List Meaning) → AllKeep ms → (l : ℕ) → suc l ≤ 9 → ((c : Column) (n : Node) → Clean c → NodeOf ms l c n → Sized l n)
    → (i : ℕ) (c : Column) (n : Node) → Clean c → SchemeOf ms (NodeOf ms l) i c n → Sized (suc l) n
scheme-sized ms kp l b ih i c n cl s =
    let k = parts-keep ms kp i c cl s.able s.parts s.split in
    let r = clean-short c cl in
    let z = k.small in
    let e = ap length s.payload in
    over_sized l b n (subst FitHead (sym s.head) (scheme-head-fit ms kp i c cl s.able s.parts s.split)) (omega arith)
    (each_all (NodeOf ms l) (Sized l) ih s.parts.children (children_of n) k.kids_clean s.children)

-- whatever holds a clean column fits its bytes
pub node-sized : (ms : List Meaning) → AllKeep ms → (l : ℕ) → l ≤ 9 → (c : Column) (n : Node) → Clean c → NodeOf ms l c n → Sized l n
node-sized ms kp zero b c n cl o = bare-sized zero c n cl o
node-sized ms kp (suc l) b c n cl (inl o) = bare-sized (suc l) c n cl o
node-sized ms kp (suc l) b c n cl (inr s) = scheme-sized ms kp l b (λ x y q w. node-sized ms kp l (omega arith) x y q w) s.0 c n cl s.1

-- ---- every byte of such a node is a byte

bare-bytes : (c : Column) (n : Node) → Clean c → Bare c n → Below 256 (flat n)
bare-bytes c n cl (inl e) =
    subst (λ m. Below 256 (flat m)) (sym e) (below-flat (plain_node c) (bare-fit c (plain_node c) cl (inl refl)) (below_plain c) tt)
bare-bytes c n cl (inr (inl e)) =
    subst (λ m. Below 256 (flat m)) (sym e.1) (below-flat (constant_node c) (bare-fit c (constant_node c) cl (inr (inl (e.0, refl)))) (below-constant c) tt)
bare-bytes c n cl (inr (inr e)) =
    subst (λ m. Below 256 (flat m)) (sym e.1) (below-flat (blank_node c) (bare-fit c (blank_node c) cl (inr (inr (e.0, refl)))) tt tt)

flats-bytes : (ns : List Node) → AllByRecursion (λ n. Below 256 (flat n)) ns → Below 256 (flats ns)
flats-bytes [] a = tt
flats-bytes (n ∷ ns) a = below-append 256 (flat n) (flats ns) a.0 (flats-bytes ns a.1)

scheme-bytes : (ms : List Meaning) → AllKeep ms → (l : ℕ) → ((c : Column) (n : Node) → Clean c → NodeOf ms l c n → Below 256 (flat n))
    → (i : ℕ) (c : Column) (n : Node) → Clean c → Fit n → SchemeOf ms (NodeOf ms l) i c n → Below 256 (flat n)
scheme-bytes ms kp l ih i c n cl f s =
    let k = parts-keep ms kp i c cl s.able s.parts s.split in
    below-flat n f (subst (Below 256) (sym s.payload) k.bytes)
    (flats-bytes (children_of n) (each_all (NodeOf ms l) (λ m. Below 256 (flat m)) ih s.parts.children (children_of n) k.kids_clean s.children))

pub node-bytes : (ms : List Meaning) → AllKeep ms → (l : ℕ) → l ≤ 9 → (c : Column) (n : Node) → Clean c → NodeOf ms l c n → Below 256 (flat n)
node-bytes ms kp zero b c n cl o = bare-bytes c n cl o
node-bytes ms kp (suc l) b c n cl (inl o) = bare-bytes c n cl o
node-bytes ms kp (suc l) b c n cl (inr s) =
    let z = node-sized ms kp (suc l) b c n cl (inr s) in
    scheme-bytes ms kp l (λ x y q w. node-bytes ms kp l (omega arith) x y q w) s.0 c n cl z.fit s.1
