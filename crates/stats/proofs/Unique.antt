-- An ascending list is known by how often each value stands in it: what a sort gives.
use Rattle.std.proofs.Common.{◌≡◌, ℕ, suc, ◌+◌, ◌<◌, ◌≤◌, Bool, true, false, cond, eqb, ltb, List, [], ◌∷◌, sum_by, sym, refl, ap, ◌∙◌, arith, ltb-false, ltb-true, eq-eqb, ne_eqb}
use Rattle.std.specs.List.{AllByRecursion}
use Rattle.std.proofs.ByRecursion.{All-from_get_or}
use Rattle.std.proofs.lemmas.List.Sums.{sum_by-cons}
use Rattle.std.proofs.lemmas.List.Sorted.{sum_by-IsPermutation}
use Rattle.std.specs.List.Sorted.{IsNonDecreasing, IsPermutation}
use Rattle.stats.specs.Table.{insert, ascending}
use Rattle.stats.specs.Laws.{occurs}

-- each element is at most those after it
abbrev pub Up : List ℕ → Type 0
Up [] = Unit {0}
Up (x ∷ xs) = AllByRecursion (λ y. x ≤ y) xs × Up xs

all_insert : (P : ℕ → Type 0) (x : ℕ) (ys : List ℕ) → P x → AllByRecursion P ys → AllByRecursion P (insert x ys)
all_insert P x [] p a = (p, tt)
all_insert P x (y ∷ ys) p a = go (ltb y x) (all_insert P x ys p a.1)
  where
    go : (b : Bool) → AllByRecursion P (insert x ys) → AllByRecursion P (cond b (y ∷ insert x ys) (x ∷ y ∷ ys))
    go true r = (a.0, r)
    go false r = (p, a)

all-le : (x y : ℕ) (ys : List ℕ) → x ≤ y → AllByRecursion (λ z. y ≤ z) ys → AllByRecursion (λ z. x ≤ z) ys
all-le x y [] h a = tt
all-le x y (z ∷ zs) h a = (omega (arith, h, a.0), all-le x y zs h a.1)

up-insert : (x : ℕ) (ys : List ℕ) → Up ys → Up (insert x ys)
up-insert x [] u = (tt, tt)
up-insert x (y ∷ ys) u = go (ltb y x) refl (up-insert x ys u.1)
  where
    go : (b : Bool) → ltb y x ≡ b → Up (insert x ys) → Up (cond b (y ∷ insert x ys) (x ∷ y ∷ ys))
    go true e r = (all_insert (λ z. y ≤ z) x ys (omega (arith, ltb-true y x e)) u.0, r)
    go false e r = let h : x ≤ y = ltb-false y x e in ((h, all-le x y ys h u.0), u)

pub up-ascending : (xs : List ℕ) → Up (ascending xs)
up-ascending [] = tt
up-ascending (x ∷ xs) = up-insert x (ascending xs) (up-ascending xs)

occurs-insert : (v x : ℕ) (ys : List ℕ) → occurs v (insert x ys) ≡ occurs v (x ∷ ys)
occurs-insert v x [] = refl
occurs-insert v x (y ∷ ys) = go (ltb y x) (occurs-insert v x ys)
  where
    go : (b : Bool) → occurs v (insert x ys) ≡ occurs v (x ∷ ys) → occurs v (cond b (y ∷ insert x ys) (x ∷ y ∷ ys)) ≡ occurs v (x ∷ y ∷ ys)
    go true r = omega (arith, r)
    go false r = refl

pub occurs-ascending : (v : ℕ) (xs : List ℕ) → occurs v (ascending xs) ≡ occurs v xs
occurs-ascending v [] = refl
occurs-ascending v (x ∷ xs) = occurs-insert v x (ascending xs) ∙ omega (arith, occurs-ascending v xs)

-- a value below all elements does not stand in the list
occurs-below : (v : ℕ) (xs : List ℕ) → AllByRecursion (λ y. v < y) xs → occurs v xs ≡ 0
occurs-below v [] a = refl
occurs-below v (x ∷ xs) a = let n : eqb v x ≡ false = ne_eqb v x (λ e. omega (arith, e, a.0)) in rw n (omega (arith, occurs-below v xs a.1))

occurs-self : (x : ℕ) (xs : List ℕ) → occurs x (x ∷ xs) ≡ 1 + occurs x xs
occurs-self x xs = let t : eqb x x ≡ true = eq-eqb x x refl in rw t

all-lt : (x y : ℕ) (ys : List ℕ) → x < y → AllByRecursion (λ z. y ≤ z) ys → AllByRecursion (λ z. x < z) (y ∷ ys)
all-lt x y ys h a = (h, weak ys a)
  where
    weak : (zs : List ℕ) → AllByRecursion (λ z. y ≤ z) zs → AllByRecursion (λ z. x < z) zs
    weak [] b = tt
    weak (z ∷ zs) b = (omega (arith, h, b.0), weak zs b.1)

not-below : (x y : ℕ) (xs ys : List ℕ) → AllByRecursion (λ z. y ≤ z) ys → ((v : ℕ) → occurs v (x ∷ xs) ≡ occurs v (y ∷ ys)) → x < y → ⊥
not-below x y xs ys a t h = omega (arith, t x, occurs-self x xs, occurs-below x (y ∷ ys) (all-lt x y ys h a))

-- an ascending list is known by how often each value stands in it
pub up-unique : (xs ys : List ℕ) → Up xs → Up ys → ((v : ℕ) → occurs v xs ≡ occurs v ys) → xs ≡ ys
up-unique [] [] u w t = refl
up-unique [] (y ∷ ys) u w t = absurd (omega (arith, t y, occurs-self y ys))
up-unique (x ∷ xs) [] u w t = absurd (omega (arith, t x, occurs-self x xs))
up-unique (x ∷ xs) (y ∷ ys) u w t =
    let a : x < y → ⊥ = not-below x y xs ys w.0 t in
    let b : y < x → ⊥ = not-below y x ys xs u.0 (λ v. sym (t v)) in
    let e : x ≡ y = omega (arith, a, b) in
    let r : xs ≡ ys = up-unique xs ys u.1 w.1 (λ v. let k = t v in let q : ◌≡◌ {A = ℕ} (cond (eqb v x) 1 0) (cond (eqb v y) 1 0) = ap {B = ℕ} (λ z. cond (eqb v z) 1 0) e in omega (arith, k, q)) in
    rw (e, r)

occurs-is : (v : ℕ) (xs : List ℕ) → sum_by (λ x. cond (eqb v x) 1 0) xs ≡ occurs v xs
occurs-is v [] = refl
occurs-is v (x ∷ xs) = sum_by-cons (λ x. cond (eqb v x) 1 0) x xs ∙ ap (λ n. cond (eqb v x) 1 0 + n) (occurs-is v xs)

up-rising : (xs : List ℕ) → IsNonDecreasing xs → Up xs
up-rising [] r = tt
up-rising (x ∷ xs) r =
    (All-from_get_or (λ y. x ≤ y) xs 0 (λ i h. r 0 (suc i) 0 (omega arith) (omega arith)), up-rising xs (λ i j d h l. r (suc i) (suc j) d (omega arith) (omega arith)))

-- what a sort gives
pub sorted-is : (xs ys : List ℕ) → IsPermutation xs ys → IsNonDecreasing ys → ys ≡ ascending xs
sorted-is xs ys s r =
    up-unique ys (ascending xs) (up-rising ys r) (up-ascending xs)
    (λ v. sym (occurs-is v ys) ∙ sum_by-IsPermutation (λ x. cond (eqb v x) 1 0) xs ys s ∙ occurs-is v xs ∙ sym (occurs-ascending v xs))
