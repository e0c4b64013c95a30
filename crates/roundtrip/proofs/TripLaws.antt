-- The two halves of a scheme together.
use Rattle.std.proofs.Common.{◌≡◌, ℕ, zero, suc, ◌+◌, ◌*◌, ◌<◌, ◌≤◌, Bool, true, false, ltb, List, [], ◌∷◌, map, length, take, drop, Option, Ok, Err, Result, sym, refl, ap, ◌∙◌, subst, ap₂, zero-le, le_refl, arith, lit<}
use Rattle.std.specs.Bool.{then_some}
use Rattle.std.proofs.lemmas.List.{take-append-le, take_all}
use Rattle.std.proofs.lemmas.Bool.{lt-ltb, ltb-true}
use Rattle.packing.specs.Packing.{written}
use Rattle.column.specs.Columns.{Column, Clean, Offer, cleaned}
use Rattle.column.proofs.WordLaws.{cleaned-stored}
use Rattle.scheme.specs.declared.scheme.ChildShape.{ChildShape}
use Rattle.scheme.specs.declared.scheme.Shape.{Shape}
use Rattle.scheme.specs.Meaning.{Meaning, Parts, Keeps, PartsKeep, PartedKeeps, NoLonger}
use Rattle.scheme.specs.Memory.{outline, stored_child, child_seen, shape_seen, payload_in}
use Rattle.roundtrip.specs.Trips.{child_rows, child_offer, gathered, Returned}

-- ---- what a shape says

-- the parts that an accepted shape belongs to
pub record Laid (m : Meaning) (c : Column) (s : Shape) (c0 w0 c1 w1 : List ℕ) : Type 0 where
  pub parts : Parts
  pub given : m.parts c ≡ Ok parts
  pub keep : PartsKeep m c parts
  pub payload : s.payload ≡ length parts.payload
  pub bits : s.cell_bits ≡ parts.cell_bits
  pub flag : s.flag ≡ parts.flag
  pub few : m.child_count ≤ 2
  pub kids : take m.child_count (child_seen s.child0 c0 w0 ∷ (child_seen s.child1 c1 w1 ∷ [])) ≡ map stored_child parts.children

ok-err : {X : Type 0} {A : Type 0} {a : A} {e : ℕ} → ◌≡◌ {A = Result A ℕ} (Ok a) (Err e) → X
ok-err e = absurd (let z : ◌≡◌ {A = ℕ} 0 1 = cc in omega arith)

ok_ok : {A : Type 0} {a b : A} → ◌≡◌ {A = Result A ℕ} (Ok a) (Ok b) → a ≡ b
ok_ok e = cc

laid_by : (m : Meaning) (c : Column) (s : Shape) (c0 w0 c1 w1 : List ℕ) → m.child_count ≤ 2 → (r : Result Parts ℕ) → m.parts c ≡ r → PartedKeeps m c r
    → shape_seen m.child_count (Ok s) c0 w0 c1 w1 ≡ outline r → Laid m c s c0 w0 c1 w1
laid_by m c s c0 w0 c1 w1 f (Ok p) e k h =
    let o = ok_ok h in
    record {
      parts = p;
      given = e;
      keep = k.0;
      payload = ap (λ x. x.payload) o;
      bits = ap (λ x. x.cell_bits) o;
      flag = ap (λ x. x.flag) o;
      few = f;
      kids = ap (λ x. x.children) o;
    }
laid_by m c s c0 w0 c1 w1 f (Err r) e k h = ok-err h

pub laid : (m : Meaning) (c : Column) (s : Shape) (c0 w0 c1 w1 : List ℕ) → Keeps m → Clean c → m.takes c.kind ≡ true
    → shape_seen m.child_count (Ok s) c0 w0 c1 w1 ≡ outline (m.parts c) → Laid m c s c0 w0 c1 w1
laid m c s c0 w0 c1 w1 keeps clean takes h = laid_by m c s c0 w0 c1 w1 keeps.few (m.parts c) refl (keeps.parted c clean takes) h

-- ---- the children

head-is : {A : Type 0} {a b : A} {xs ys : List A} → (a ∷ xs) ≡ (b ∷ ys) → a ≡ b
head-is e = cc

tail-is : {A : Type 0} {a b : A} {xs ys : List A} → (a ∷ xs) ≡ (b ∷ ys) → xs ≡ ys
tail-is e = cc

cons-nil : {X : Type 0} {A : Type 0} {a : A} {xs : List A} → ◌≡◌ {A = List A} (a ∷ xs) [] → X
cons-nil e = absurd (let z : ◌≡◌ {A = ℕ} 0 1 = cc in omega arith)

-- the rows of a child that is there are no more than the column's
first_short : (N n : ℕ) (a b : ℕ × Offer) (ks : List Column) → take n (a ∷ (b ∷ [])) ≡ map stored_child ks → NoLonger N ks → 0 < n → a.0 ≤ N
first_short N zero a b ks e l h = absurd (omega arith)
first_short N (suc n) a b [] e l h = cons-nil e
first_short N (suc n) a b (k ∷ ks) e l h = subst (λ x. x.0 ≤ N) (sym (head-is e)) l.0

second_short : (N n : ℕ) (a b : ℕ × Offer) (ks : List Column) → take n (a ∷ (b ∷ [])) ≡ map stored_child ks → NoLonger N ks → 1 < n → b.0 ≤ N
second_short N zero a b ks e l h = absurd (omega arith)
second_short N (suc zero) a b ks e l h = absurd (omega arith)
second_short N (suc (suc n)) a b [] e l h = cons-nil e
second_short N (suc (suc n)) a b (k ∷ []) e l h = cons-nil (tail-is e)
second_short N (suc (suc n)) a b (k ∷ (q ∷ ks)) e l h = subst (λ x. x.0 ≤ N) (sym (head-is (tail-is e))) l.1.0

-- and so are those that the code takes, none of a child that is not there
rows_short : (i count N : ℕ) (s : ChildShape) → (i < count → s.rows ≤ N) → child_rows (then_some (ltb i count) s) ≤ N
rows_short i count N s short = go (ltb i count) refl
  where
    go : (b : Bool) → ltb i count ≡ b → child_rows (then_some b s) ≤ N
    go true t = short (ltb-true i count t)
    go false t = zero-le

module _ {m : Meaning} {c : Column} {s : Shape} {c0 w0 c1 w1 : List ℕ} (l : Laid m c s c0 w0 c1 w1) {count : ℕ} (e : count ≡ m.child_count) where
  pub short0 : {o : Option ChildShape} → o ≡ then_some (ltb 0 count) s.child0 → child_rows o ≤ length c.rows
  short0 p =
      subst (λ x. child_rows x ≤ length c.rows) (sym p)
      (rows_short 0 count (length c.rows) s.child0 (λ h. first_short (length c.rows) m.child_count _ _ l.parts.children l.kids l.keep.kids_short (subst (λ k. 0 < k) e h)))

  pub short1 : {o : Option ChildShape} → o ≡ then_some (ltb 1 count) s.child1 → child_rows o ≤ length c.rows
  short1 p =
      subst (λ x. child_rows x ≤ length c.rows) (sym p)
      (rows_short 1 count (length c.rows) s.child1 (λ h. second_short (length c.rows) m.child_count _ _ l.parts.children l.kids l.keep.kids_short (subst (λ k. 1 < k) e h)))

-- children read back
kid-back : (a : ℕ × Offer) (o : Offer) (k : Column) → o ≡ a.1 → a ≡ stored_child k → cleaned o ≡ k
kid-back a o k p e = ap cleaned (p ∙ ap (λ x. x.1) e) ∙ cleaned-stored k

kids-back : (n : ℕ) (a b : ℕ × Offer) (o q : Offer) (ks : List Column) → n ≤ 2 → take n (a ∷ (b ∷ [])) ≡ map stored_child ks
    → (0 < n → o ≡ a.1) → (1 < n → q ≡ b.1) → take n (cleaned o ∷ (cleaned q ∷ [])) ≡ ks
kids-back zero a b o q [] f e p r = refl
kids-back zero a b o q (k ∷ ks) f e p r = cons-nil (sym e)
kids-back (suc n) a b o q [] f e p r = cons-nil e
kids-back (suc zero) a b o q (k ∷ []) f e p r = ap (λ x. x ∷ []) (kid-back a o k (p (lit< tt)) (head-is e))
kids-back (suc zero) a b o q (k ∷ (x ∷ ks)) f e p r = cons-nil (sym (tail-is e))
kids-back (suc (suc n)) a b o q (k ∷ []) f e p r = cons-nil (tail-is e)
kids-back (suc (suc zero)) a b o q (k ∷ (x ∷ [])) f e p r =
    ap₂ (λ u v. u ∷ (v ∷ [])) (kid-back a o k (p (lit< tt)) (head-is e)) (kid-back b q x (r (lit< tt)) (head-is (tail-is e)))
kids-back (suc (suc zero)) a b o q (k ∷ (x ∷ (y ∷ ks))) f e p r = cons-nil (sym (tail-is (tail-is e)))
kids-back (suc (suc (suc n))) a b o q (k ∷ (x ∷ ks)) f e p r = absurd (omega arith)

-- a child that is there, as the code takes it
offer-there : (i count : ℕ) (s : ChildShape) (o : Offer) (cs ws : List ℕ) → i < count → o ≡ child_offer (then_some (ltb i count) s) cs ws → o ≡ (child_seen s cs ws).1
offer-there i count s o cs ws h e = e ∙ ap (λ b. child_offer (then_some b s) cs ws) (lt-ltb i count h)

-- ---- the payload

payload-back : (new old : List ℕ) (n : ℕ) → n ≡ length new → take n (written new old) ≡ new
payload-back new old n e =
    ap (λ k. take k (written new old)) e ∙ take-append-le (length new) new (drop (length new) old) (le_refl (length new)) ∙ take_all (length new) new (le_refl (length new))

-- ---- all together

module _ {m : Meaning} {c : Column} {s : Shape} {c0 w0 c1 w1 : List ℕ} (l : Laid m c s c0 w0 c1 w1) where
  pub payload-fits : (z : ℕ) → 9 * length c.rows + 16 ≤ z → length (payload_in (m.parts c)) ≤ z
  payload-fits z h = let k = l.keep.small in subst (λ r. length (payload_in r) ≤ z) (sym l.given) (omega arith)

  pub payload-ends : (z : ℕ) → 9 * length c.rows + 16 ≤ z → s.payload ≤ z
  payload-ends z h = let k = l.keep.small in let e = l.payload in omega arith

  children-back : (count : ℕ) (o0 o1 : Offer) → count ≡ m.child_count → o0 ≡ child_offer (then_some (ltb 0 count) s.child0) c0 w0 → o1 ≡ child_offer (then_some (ltb 1 count) s.child1) c1 w1
      → take m.child_count (cleaned o0 ∷ (cleaned o1 ∷ [])) ≡ l.parts.children
  children-back count o0 o1 e p0 p1 =
      kids-back m.child_count _ _ o0 o1 l.parts.children l.few l.kids
      (λ h. offer-there 0 count s.child0 o0 c0 w0 (subst (λ k. 0 < k) (sym e) h) p0)
      (λ h. offer-there 1 count s.child1 o1 c1 w1 (subst (λ k. 1 < k) (sym e) h) p1)

  parts-back : (pay : List ℕ) (bits flag : ℕ) (kids : List Column) → pay ≡ l.parts.payload → bits ≡ s.cell_bits → flag ≡ s.flag → kids ≡ l.parts.children
      → ◌≡◌ {A = Parts} (record { payload = pay; cell_bits = bits; flag = flag; children = kids }) l.parts
  parts-back pay bits flag kids p b f k =
      ap₂ (λ x y. record { payload = x; cell_bits = bits; flag = flag; children = y }) p k
      ∙ ap₂ (λ x y. record { payload = l.parts.payload; cell_bits = x; flag = y; children = l.parts.children }) (b ∙ l.bits) (f ∙ l.flag)

  pub trip : (old : List ℕ) (count rows bits flag : ℕ) (o0 o1 : Offer) (before after : Column) → rows ≡ length c.rows → bits ≡ s.cell_bits → flag ≡ s.flag → count ≡ m.child_count
      → o0 ≡ child_offer (then_some (ltb 0 count) s.child0) c0 w0 → o1 ≡ child_offer (then_some (ltb 1 count) s.child1) c1 w1
      → (pay : List ℕ) → pay ≡ written (payload_in (m.parts c)) old
      → after ≡ m.join c.kind rows (gathered m.child_count (take s.payload pay) bits flag (cleaned o0) (cleaned o1))
      → Returned (m.parts c) c (Ok tt) before after
  trip old count rows bits flag o0 o1 before after r b f e p0 p1 pay w j =
      let p : take s.payload pay ≡ l.parts.payload =
      ap (take s.payload) (w ∙ ap (λ x. written (payload_in x) old) l.given) ∙ payload-back l.parts.payload old s.payload l.payload in
      subst (λ x. Returned x c (Ok tt) before after) (sym l.given) (
        refl,
        j ∙ ap₂ (λ a q. m.join c.kind a q) r (parts-back _ bits flag _ p b f (children-back count o0 o1 e p0 p1)) ∙ l.keep.joins,
      )
