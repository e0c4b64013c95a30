-- Children in lent places: what a shape's answer says of them.
use Rattle.std.proofs.Common.{◌≡◌, ℕ, suc, ◌+◌, ◌-◌, ◌*◌, ◌≤◌, List, [], ◌∷◌, map, length, take, Ok, Err, Result, sym, refl, ap, ◌∙◌, subst, ap₂, arith}
use Rattle.std.proofs.lemmas.List.{length-take}
use Rattle.std.proofs.Math.Nat.{mul-le-mul_left, suc-mul}
use Rattle.column.specs.Columns.{Column, Clean, Offer, cells, presence, words_for, cleaned}
use Rattle.column.proofs.RowLaws.{length-cells, clean-short, length_digits}
use Rattle.column.proofs.WordLaws.{cleaned-stored}
use Rattle.scheme.specs.declared.scheme.ChildShape.{ChildShape}
use Rattle.scheme.specs.declared.scheme.Shape.{Shape}
use Rattle.scheme.specs.Meaning.{Meaning, Parts, PartsKeep, PartedKeeps, AllClean}
use Rattle.scheme.specs.Memory.{Outline, outline, spare, stored_child, child_seen, shape_seen}
use Rattle.scheme.specs.Banks.{AllKeep, at}
use Rattle.levels.specs.NodesOf.{Able}
use Rattle.holds.proofs.Choosing.{bank-at}
use Rattle.levels.specs.Plans.{share, room}
use Rattle.children.specs.declared.Apart.{Apart}
use Rattle.children.specs.Apart.{places_for, Pieces, apart_of, children_seen, pieces_seen, child_column, ChildStored}

-- ---- one child

-- places that hold what a clean column is stored as
pub child-stored : (s : ChildShape) (cs ws : List ℕ) (d : Column) → Clean d → child_seen s cs ws ≡ stored_child d → ChildStored s cs ws × (child_column s cs ws ≡ d)
child-stored s cs ws d cl e =
    let c : child_column s cs ws ≡ d = ap (λ x. cleaned x.1) e ∙ cleaned-stored d in
    (record { clean = subst Clean (sym c) cl; stored = e ∙ ap stored_child (sym c) }, c)

pub record Lengths (s : ChildShape) (cs ws : List ℕ) : Type 0 where
  pub cells : s.rows ≤ length cs
  pub words : words_for s.rows ≤ length ws
  pub few : s.rows ≤ 131072

long : (n : ℕ) (xs : List ℕ) → length (take n xs) ≡ n → n ≤ length xs
long n xs e = let m = length-take n xs in omega arith

pub child-lengths : (s : ChildShape) (cs ws : List ℕ) → ChildStored s cs ws → Lengths s cs ws
child-lengths s cs ws h =
    let d = child_column s cs ws in
    let r : s.rows ≡ length d.rows = ap (λ x. x.0) h.stored in
    let kc : length (take s.rows cs) ≡ length (cells d.rows) = ap (λ x. length (x.1).cells) h.stored in
    let kw : length (take (words_for s.rows) ws) ≡ length (presence d.rows) = ap (λ x. length (x.1).words) h.stored in
    let lc = length-cells d.rows in
    let lw : length (presence d.rows) ≡ words_for (length d.rows) = length_digits _ _ _ in
    let lr : words_for s.rows ≡ words_for (length d.rows) = ap words_for r in
    let q = clean-short d h.clean in
    record { cells = long s.rows cs (omega arith); words = long (words_for s.rows) ws (omega arith); few = omega arith }

-- ---- what an answer says of the parts

-- the parts that a shape belongs to
pub record Laid (m : Meaning) (c : Column) (s : Shape) (c0 w0 c1 w1 : List ℕ) : Type 0 where
  pub parts : Parts
  pub given : m.parts c ≡ Ok parts
  pub keep : PartsKeep m c parts
  pub payload : s.payload ≡ length parts.payload
  pub bits : s.cell_bits ≡ parts.cell_bits
  pub flag : s.flag ≡ parts.flag
  pub few : m.child_count ≤ 2
  pub kids : take m.child_count (child_seen s.child0 c0 w0 ∷ (child_seen s.child1 c1 w1 ∷ [])) ≡ map stored_child parts.children

ok-err : {X : Type 0} {A : Type 0} {a : A} {e : ℕ} → ◌≡◌ {A = Result A ℕ} (Ok a) (Err e) → X
ok-err e = absurd (let z : ◌≡◌ {A = ℕ} 0 1 = cc in omega arith)

ok_ok : {A : Type 0} {a b : A} → ◌≡◌ {A = Result A ℕ} (Ok a) (Ok b) → a ≡ b
ok_ok e = cc

laid_by : (m : Meaning) (c : Column) (s : Shape) (c0 w0 c1 w1 : List ℕ) → m.child_count ≤ 2 → (r : Result Parts ℕ) → m.parts c ≡ r → PartedKeeps m c r
    → shape_seen m.child_count (Ok s) c0 w0 c1 w1 ≡ outline r → Laid m c s c0 w0 c1 w1
laid_by m c s c0 w0 c1 w1 f (Ok p) e k h =
    let o = ok_ok h in
    record {
      parts = p;
      given = e;
      keep = k.0;
      payload = ap (λ x. x.payload) o;
      bits = ap (λ x. x.cell_bits) o;
      flag = ap (λ x. x.flag) o;
      few = f;
      kids = ap (λ x. x.children) o;
    }
laid_by m c s c0 w0 c1 w1 f (Err r) e k h = ok-err h

pub laid : (ms : List Meaning) → AllKeep ms → (c : Column) → Clean c → (i : ℕ) → Able ms c.kind i → (s : Shape) (c0 w0 c1 w1 : List ℕ)
    → shape_seen (at ms i).child_count (Ok s) c0 w0 c1 w1 ≡ outline ((at ms i).parts c) → Laid (at ms i) c s c0 w0 c1 w1
laid ms kp c cl i ab s c0 w0 c1 w1 h =
    let k = bank-at ms i kp ab.within in
    laid_by (at ms i) c s c0 w0 c1 w1 k.few ((at ms i).parts c) refl (k.parted c cl ab.takes) h

refused_by : (r : Result Parts ℕ) (e : ℕ) → ◌≡◌ {A = Result Outline ℕ} (Err e) (outline r) → ◌≡◌ {A = Result Pieces ℕ} (Err e) (apart_of r)
refused_by (Ok p) e h = ok-err (sym h)
refused_by (Err r) e h = let q : e ≡ r = cc in ap Err q

pub refused : (m : Meaning) (c : Column) (e : ℕ) → ◌≡◌ {A = Result Outline ℕ} (Err e) (outline (m.parts c)) → ◌≡◌ {A = Result Pieces ℕ} (Err e) (apart_of (m.parts c))
refused m c e h = refused_by (m.parts c) e h

-- ---- the children by how many the scheme has

head-is : {A : Type 0} {a b : A} {xs ys : List A} → (a ∷ xs) ≡ (b ∷ ys) → a ≡ b
head-is e = cc

tail-is : {A : Type 0} {a b : A} {xs ys : List A} → (a ∷ xs) ≡ (b ∷ ys) → xs ≡ ys
tail-is e = cc

cons-nil : {X : Type 0} {A : Type 0} {a : A} {xs : List A} → ◌≡◌ {A = List A} (a ∷ xs) [] → X
cons-nil e = absurd (let z : ◌≡◌ {A = ℕ} 0 1 = cc in omega arith)

pub record One (s : ChildShape) (cs ws : List ℕ) (ks : List Column) : Type 0 where
  pub stored : ChildStored s cs ws
  pub is : (child_column s cs ws ∷ []) ≡ ks

pub record Two (s t : ChildShape) (cs ws xs ys : List ℕ) (ks : List Column) : Type 0 where
  pub stored0 : ChildStored s cs ws
  pub stored1 : ChildStored t xs ys
  pub is : (child_column s cs ws ∷ (child_column t xs ys ∷ [])) ≡ ks

none_by : (ks : List Column) → ◌≡◌ {A = List (ℕ × Offer)} [] (map stored_child ks) → ◌≡◌ {A = List Column} [] ks
none_by [] e = refl
none_by (k ∷ ks) e = cons-nil (sym e)

one_by : (s : ChildShape) (cs ws : List ℕ) (ks : List Column) → AllClean ks → (child_seen s cs ws ∷ []) ≡ map stored_child ks → One s cs ws ks
one_by s cs ws [] a e = cons-nil e
one_by s cs ws (k ∷ []) a e = let h = child-stored s cs ws k a.0 (head-is e) in record { stored = h.0; is = ap (λ x. x ∷ []) h.1 }
one_by s cs ws (k ∷ (q ∷ ks)) a e = cons-nil (sym (tail-is e))

two_by : (s t : ChildShape) (cs ws xs ys : List ℕ) (ks : List Column) → AllClean ks → (child_seen s cs ws ∷ (child_seen t xs ys ∷ [])) ≡ map stored_child ks → Two s t cs ws xs ys ks
two_by s t cs ws xs ys [] a e = cons-nil e
two_by s t cs ws xs ys (k ∷ []) a e = cons-nil (tail-is e)
two_by s t cs ws xs ys (k ∷ (q ∷ [])) a e =
    let h = child-stored s cs ws k a.0 (head-is e) in
    let i = child-stored t xs ys q a.1.0 (head-is (tail-is e)) in
    record { stored0 = h.0; stored1 = i.0; is = ap₂ (λ u v. u ∷ (v ∷ [])) h.1 i.1 }
two_by s t cs ws xs ys (k ∷ (q ∷ (x ∷ ks))) a e = cons-nil (sym (tail-is (tail-is e)))

module _ {m : Meaning} {c : Column} {s : Shape} {c0 w0 c1 w1 : List ℕ} (l : Laid m c s c0 w0 c1 w1) where
  pub no-child : m.child_count ≡ 0 → ◌≡◌ {A = List Column} [] l.parts.children
  no-child e = none_by l.parts.children (ap (λ n. take n (child_seen s.child0 c0 w0 ∷ (child_seen s.child1 c1 w1 ∷ []))) (sym e) ∙ l.kids)

  pub one-child : m.child_count ≡ 1 → One s.child0 c0 w0 l.parts.children
  one-child e = one_by s.child0 c0 w0 l.parts.children l.keep.kids_clean (ap (λ n. take n (child_seen s.child0 c0 w0 ∷ (child_seen s.child1 c1 w1 ∷ []))) (sym e) ∙ l.kids)

  pub two-children : (m.child_count ≡ 0 → ⊥) → (m.child_count ≡ 1 → ⊥) → Two s.child0 s.child1 c0 w0 c1 w1 l.parts.children
  two-children n0 n1 =
      let f = l.few in
      let e : m.child_count ≡ 2 = omega arith in
      two_by s.child0 s.child1 c0 w0 c1 w1 l.parts.children l.keep.kids_clean (ap (λ n. take n (child_seen s.child0 c0 w0 ∷ (child_seen s.child1 c1 w1 ∷ []))) (sym e) ∙ l.kids)

  pub apart : (ks : List Column) → ks ≡ l.parts.children
      → ◌≡◌ {A = Result Pieces ℕ} (Ok (record { payload = s.payload; cell_bits = s.cell_bits; flag = s.flag; children = ks })) (apart_of (m.parts c))
  apart ks e =
      let p = l.payload in let b = l.bits in let f = l.flag in
      (λ t. Ok (record { payload = p t; cell_bits = b t; flag = f t; children = e t })) ∙ ap apart_of (sym l.given)

-- ---- what the answer says

-- the parts that a column was taken apart into
pub record Parted (m : Meaning) (c : Column) (a : Apart) : Type 0 where
  pub parts : Parts
  pub given : m.parts c ≡ Ok parts
  pub keep : PartsKeep m c parts
  pub payload : a.payload ≡ length parts.payload
  pub bits : a.cell_bits ≡ parts.cell_bits
  pub flag : a.flag ≡ parts.flag
  pub children : children_seen a.children ≡ parts.children

parted_by : (m : Meaning) (c : Column) (a : Apart) (r : Result Parts ℕ) → m.parts c ≡ r → PartedKeeps m c r
    → ◌≡◌ {A = Result Pieces ℕ} (Ok (pieces_seen a)) (apart_of r) → Parted m c a
parted_by m c a (Ok p) e k h =
    let o = ok_ok h in
    record {
      parts = p;
      given = e;
      keep = k.0;
      payload = ap (λ x. x.payload) o;
      bits = ap (λ x. x.cell_bits) o;
      flag = ap (λ x. x.flag) o;
      children = ap (λ x. x.children) o;
    }
parted_by m c a (Err r) e k h = ok-err h

pub parted : (ms : List Meaning) → AllKeep ms → (c : Column) → Clean c → (i : ℕ) → Able ms c.kind i → (a : Apart)
    → ◌≡◌ {A = Result Pieces ℕ} (Ok (pieces_seen a)) (apart_of ((at ms i).parts c)) → Parted (at ms i) c a
parted ms kp c cl i ab a h = parted_by (at ms i) c a ((at ms i).parts c) refl ((bank-at ms i kp ab.within).parted c cl ab.takes) h

not-parted_by : (r : Result Parts ℕ) (e : ℕ) → ◌≡◌ {A = Result Pieces ℕ} (Err e) (apart_of r) → r ≡ Err e
not-parted_by (Ok p) e h = ok-err (sym h)
not-parted_by (Err r) e h = let q : e ≡ r = cc in ap Err (sym q)

pub not-parted : (m : Meaning) (c : Column) (e : ℕ) → ◌≡◌ {A = Result Pieces ℕ} (Err e) (apart_of (m.parts c)) → m.parts c ≡ Err e
not-parted m c e h = not-parted_by (m.parts c) e h

-- ---- memory

-- what the places leave of a level's words serves the scheme
pub spare-left : (n m : ℕ) → share n ≤ m → spare n ≤ m - places_for n
spare-left n m h = omega arith

pub places-in : (n m : ℕ) → share n ≤ m → places_for n ≤ m
places-in n m h = omega arith

-- and the levels below, for no more rows
pub room-left : (l n k m : ℕ) → k ≤ n → room (suc l) n ≤ m → room l k ≤ m - places_for n
room-left l n k m le h =
    let s : 12 * k + 512 ≤ 12 * n + 512 = omega arith in
    let a : l * (12 * k + 512) ≤ l * (12 * n + 512) = mul-le-mul_left l s in
    let b = suc-mul l (12 * n + 512) in
    omega arith

pub share-here : (l n m : ℕ) → room (suc l) n ≤ m → share n ≤ m
share-here l n m h = omega arith
