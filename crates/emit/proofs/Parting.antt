-- From a planned node to its children, and from children to each.
use Rattle.std.proofs.Common.{◌≡◌, ℕ, ◌+◌, ◌-◌, ◌*◌, ◌^◌, ◌<◌, ◌≤◌, List, [], ◌∷◌, ◌++◌, length, take, drop, Ok, Result, sym, refl, ap, ◌∙◌, subst, le_refl, arith, length-append}
use Rattle.std.specs.List.{AllByRecursion}
use Rattle.std.proofs.Math.Nat.{mul-le-mul_left}
use Rattle.std.proofs.lemmas.List.{take_rest, length-drop}
use Rattle.column.specs.declared.cleaned.Cleaned.{Cleaned}
use Rattle.column.specs.Columns.{Column, seen}
use Rattle.node.specs.Nodes.{Node, leaf, over, fork, head_of, payload_of, children_of, head_size, whole, flat, flats, Fit}
use Rattle.node.proofs.NodeBytes.{whole_is, length-flat, length-flats, fit-whole}
use Rattle.scheme.specs.Meaning.{Meaning, NoLonger}
use Rattle.scheme.specs.Memory.{payload_in}
use Rattle.scheme.specs.Banks.{at}
use Rattle.levels.specs.NodesOf.{Each, NodeOf}
use Rattle.levels.specs.Plans.{node_count, room}
use Rattle.children.specs.declared.Apart.{Apart}
use Rattle.children.specs.declared.Children.{Children}
use Rattle.children.specs.declared.Children.TheVariants.{One, Two}
use Rattle.children.specs.Apart.{places_for, children_seen}
use Rattle.children.proofs.Storing.{Parted, room-left}
use Rattle.emit.specs.declared.nodes.Written.{Written}
use Rattle.emit.specs.Emitted.{Planned, PlannedBy, AllPlanned, counts, all_forms}
use Rattle.emit.proofs.Plan.{named-rest, named-one, named-left, named-right, named-long, count-whole, counts-whole}

ok_ok : {A : Type 0} {a b : A} → ◌≡◌ {A = Result A ℕ} (Ok a) (Ok b) → a ≡ b
ok_ok e = cc

-- ---- a scheme's node

fit-children : (n : Node) → Fit n → AllByRecursion Fit (children_of n)
fit-children (leaf h p) f = tt
fit-children (over h p a) f = (f.2, tt)
fit-children (fork h p a b) f = (f.2, (f.3, tt))

module _ {ms : List Meaning} {i : ℕ} {c : Column} {pl : List ℕ} {m z : ℕ} {n : Node} (p : PlannedBy ms i c pl m z n) {a : Apart} (t : Parted (at ms i) c a) where
  same : t.parts ≡ p.of.parts
  same = ok_ok (sym t.given ∙ p.of.split)

  pub payload-is : a.payload ≡ length (payload_of n)
  payload-is = t.payload ∙ ap (λ x. length x.payload) same ∙ ap length (sym p.of.payload)

  pub payload-in : payload_in ((at ms i).parts c) ≡ payload_of n
  payload-in = ap payload_in p.of.split ∙ sym p.of.payload

  pub head-is : head_of n ≡ record { form = (at ms i).id; kind = c.kind; cell_bits = a.cell_bits; flag = a.flag; rows = length c.rows }
  head-is =
      let b = sym (t.bits ∙ ap (λ x. x.cell_bits) same) in
      let f = sym (t.flag ∙ ap (λ x. x.flag) same) in
      p.of.head ∙ (λ j. record { form = (at ms i).id; kind = c.kind; cell_bits = b j; flag = f j; rows = length c.rows })

  -- payload and children have room behind the head
  pub ends : head_size + a.payload + length (flats (children_of n)) ≡ whole n
  ends = let w = whole_is n in let l = length-flats (children_of n) in let q = payload-is in omega arith

  pub few : counts (children_of n) < 2 ^ 32
  few = let w = ends in let f = fit-whole n p.fit in let k = counts-whole (children_of n) in omega arith

  pub children-planned : (pl1 : List ℕ) (m1 z1 : ℕ) → pl1 ≡ drop 1 pl → m - places_for (length c.rows) ≤ m1 → z ≤ z1 + (head_size + a.payload)
      → AllPlanned ms (children_seen a.children) pl1 m1 z1 (children_of n)
  children-planned pl1 m1 z1 ep em ez =
      let w = ends in
      let b = p.bytes in
      let r = room-left p.levels (length c.rows) (length c.rows) m (le_refl (length c.rows)) p.words in
      let k : children_seen a.children ≡ p.of.parts.children = t.children ∙ ap (λ x. x.children) same in
      record {
        levels = p.levels;
        of = subst (λ cs. Each (NodeOf ms p.levels) cs (children_of n)) (sym k) p.of.children;
        fit = fit-children n p.fit;
        named = subst (λ xs. take (counts (children_of n)) xs ≡ all_forms (children_of n)) (sym ep) (named-rest n pl p.named);
        rows = length c.rows;
        short = subst (NoLonger (length c.rows)) (sym t.children) t.keep.kids_short;
        words = omega arith;
        bytes = omega arith;
      }

-- ---- one child, or two

room-less : (l k n m : ℕ) → k ≤ n → room l n ≤ m → room l k ≤ m
room-less l k n m le h =
    let s : 12 * k + 512 ≤ 12 * n + 512 = omega arith in
    let a : l * (12 * k + 512) ≤ l * (12 * n + 512) = mul-le-mul_left l s in
    omega arith

pub record Only (ms : List Meaning) (c : Column) (pl : List ℕ) (m z : ℕ) (ns : List Node) : Type 0 where
  pub node : Node
  pub is : ns ≡ (node ∷ [])
  pub planned : Planned ms c pl m z node

only_by : {ms : List Meaning} {c : Column} {pl : List ℕ} {m z : ℕ} (l r : ℕ) (ns : List Node) → Each (NodeOf ms l) (c ∷ []) ns → AllByRecursion Fit ns
    → take (counts ns) pl ≡ all_forms ns → length c.rows ≤ r → room l r ≤ m → length (flats ns) ≤ z → Only ms c pl m z ns
only_by l r [] e f k s w b = absurd e
only_by {pl = pl} {m = m} {z = z} l r (n ∷ []) e f k s w b =
    let q = length-append (flat n) [] in
    let o = length-flat n in
    record {
      node = n;
      is = refl;
      planned = record { levels = l; of = e.0; fit = f.0; named = named-one n pl k; words = room-less l _ r m s w; bytes = omega arith };
    }
only_by l r (n ∷ (x ∷ ns)) e f k s w b = absurd e.1

pub only : {ms : List Meaning} {c : Column} {pl : List ℕ} {m z : ℕ} (ns : List Node) → AllPlanned ms (c ∷ []) pl m z ns → Only ms c pl m z ns
only ns p = only_by p.levels p.rows ns p.of p.fit p.named p.short.0 p.words p.bytes

pub record Both (ms : List Meaning) (c d : Column) (pl : List ℕ) (m z : ℕ) (ns : List Node) : Type 0 where
  pub left : Node
  pub right : Node
  pub is : ns ≡ (left ∷ (right ∷ []))
  pub first : Planned ms c pl m z left
  -- in what child 0 leaves of plan and bytes
  pub second : (k w : ℕ) → k ≡ node_count left → w ≡ whole left → (pl1 : List ℕ) (m1 z1 : ℕ) → pl1 ≡ drop k pl → m ≤ m1 → z ≤ z1 + w → Planned ms d pl1 m1 z1 right
  pub plan : node_count left ≤ length pl
  pub bytes : whole left + whole right ≤ z
  pub small : (whole left < 2 ^ 32) × (whole right < 2 ^ 32) × (node_count left ≤ whole left) × (node_count right ≤ whole right)

both_by : {ms : List Meaning} {c d : Column} {pl : List ℕ} {m z : ℕ} (l r : ℕ) (ns : List Node) → Each (NodeOf ms l) (c ∷ (d ∷ [])) ns → AllByRecursion Fit ns
    → take (counts ns) pl ≡ all_forms ns → length c.rows ≤ r → length d.rows ≤ r → room l r ≤ m → length (flats ns) ≤ z → Both ms c d pl m z ns
both_by l r [] e f k s t w b = absurd e
both_by l r (n ∷ []) e f k s t w b = absurd e.1
both_by {d = d} {pl = pl} {m = m} {z = z} l r (n ∷ (x ∷ [])) e f k s t w b =
    let q = length-append (flat n) (flat x ++ []) in
    let q1 = length-append (flat x) [] in
    let o = length-flat n in
    let o1 = length-flat x in
    let g = named-long (n ∷ (x ∷ [])) pl k in
    record {
      left = n;
      right = x;
      is = refl;
      first = record { levels = l; of = e.0; fit = f.0; named = named-left n x pl k; words = room-less l _ r m s w; bytes = omega arith };
      second = λ j v ej ev pl1 m1 z1 ep em ez. record {
        levels = l;
        of = e.1.0;
        fit = f.1.0;
        named = ap (take (node_count x)) (ep ∙ ap (λ i. drop i pl) ej) ∙ named-right n x pl k;
        words = (let h = room-less l (length d.rows) r m t w in omega arith);
        bytes = omega arith;
      };
      plan = omega arith;
      bytes = omega arith;
      small = (fit-whole n f.0, fit-whole x f.1.0, count-whole n, count-whole x);
    }
both_by l r (n ∷ (x ∷ (y ∷ ns))) e f k s t w b = absurd e.1.1

pub both : {ms : List Meaning} {c d : Column} {pl : List ℕ} {m z : ℕ} (ns : List Node) → AllPlanned ms (c ∷ (d ∷ [])) pl m z ns → Both ms c d pl m z ns
both ns p = both_by p.levels p.rows ns p.of p.fit p.named p.short.0 p.short.1.0 p.words p.bytes

-- ---- the same of the code's children and slices

pub only-in : {ms : List Meaning} {pl : List ℕ} {m z : ℕ} {ks : Children} {x : Cleaned} → ks ≡ One x → (ns : List Node) → AllPlanned ms (children_seen ks) pl m z ns
    → Only ms (seen x.view) pl m z ns
only-in {ms = ms} {pl = pl} {m = m} {z = z} e ns p = only ns (subst (λ k. AllPlanned ms (children_seen k) pl m z ns) e p)

pub both-in : {ms : List Meaning} {pl : List ℕ} {m z : ℕ} {ks : Children} {x y : Cleaned} → ks ≡ Two x y → (ns : List Node) → AllPlanned ms (children_seen ks) pl m z ns
    → Both ms (seen x.view) (seen y.view) pl m z ns
both-in {ms = ms} {pl = pl} {m = m} {z = z} e ns p = both ns (subst (λ k. AllPlanned ms (children_seen k) pl m z ns) e p)

-- child 1, after child 0 was written
pub second-planned : {ms : List Meaning} {c d : Column} {pl : List ℕ} {m z : ℕ} {ns : List Node} (b : Both ms c d pl m z ns) (r : Written) (o1 : List ℕ) (m1 : ℕ)
    → r.nodes ≡ node_count b.left → r.whole ≡ whole b.left → length o1 ≡ z → m1 ≡ m
    → Planned ms d (take (length pl - r.nodes) (drop r.nodes pl)) m1 (length (take (length o1 - r.whole) (drop r.whole o1))) b.right
second-planned {pl = pl} b r o1 m1 k w lo lm =
    let q = ap length (take_rest o1 r.whole) in
    let l = length-drop r.whole o1 in
    let f = b.bytes in
    b.second r.nodes r.whole k w _ _ _ (take_rest pl r.nodes) (omega arith) (omega arith)

-- the children behind the payload
pub behind : {ms : List Meaning} {i : ℕ} {c : Column} {pl : List ℕ} {m z : ℕ} {n : Node} (p : PlannedBy ms i c pl m z n) {a : Apart} (t : Parted (at ms i) c a) (o1 : List ℕ) (m1 : ℕ)
    → length o1 ≡ z → m - places_for (length c.rows) ≤ m1
    → AllPlanned ms (children_seen a.children) (take (length pl - 1) (drop 1 pl)) m1 (length (take (length o1 - (head_size + a.payload)) (drop (head_size + a.payload) o1))) (children_of n)
behind {pl = pl} p {a = a} t o1 m1 lo lm =
    let q = ap length (take_rest o1 (head_size + a.payload)) in
    let l = length-drop (head_size + a.payload) o1 in
    let e = ends p t in
    let b = p.bytes in
    children-planned p t _ _ _ (take_rest pl 1) lm (omega arith)
