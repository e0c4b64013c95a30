-- Least and greatest by keys, one value after another.
use Rattle.std.proofs.Common.{◌≡◌, ℕ, ◌^◌, ◌<◌, min, max, Bool, true, false, cond, eqb, ltb, leb, List, [], ◌∷◌, ◌++◌, refl, arith}
use Rattle.std.proofs.lemmas.Bool.{leb-true, leb-false, ltb-true, ltb-false}
use Rattle.std.specs.Ordering.{nat_cmp, is_lt, ord_min, ord_max}
use Rattle.std.specs.declared.cmp.Ordering.TheVariants.{Less, Equal, Greater}
use Rattle.std.specs.List.{AllByRecursion}
use Rattle.column.specs.Kinds.{key, signed, least, greatest}
use Rattle.stats.specs.Stats.{least_of, greatest_of, lesser, larger}
use Rattle.stats.proofs.Tallying.{key_back}

key-lesser : (k a b : ℕ) → key k (lesser k a b) ≡ min (key k a) (key k b)
key-lesser k a b = go (leb (key k a) (key k b)) refl
  where
    go : (t : Bool) → leb (key k a) (key k b) ≡ t → key k (cond t a b) ≡ min (key k a) (key k b)
    go true e = omega (arith, leb-true _ _ e)
    go false e = omega (arith, leb-false _ _ e)

key-larger : (k a b : ℕ) → key k (larger k a b) ≡ max (key k a) (key k b)
key-larger k a b = go (leb (key k b) (key k a)) refl
  where
    go : (t : Bool) → leb (key k b) (key k a) ≡ t → key k (cond t a b) ≡ max (key k a) (key k b)
    go true e = omega (arith, leb-true _ _ e)
    go false e = omega (arith, leb-false _ _ e)

-- std's `min` and `max` at numbers
pub ord-min-is : (a b : ℕ) → ord_min nat_cmp a b ≡ min a b
ord-min-is a b = go (ltb b a) (eqb b a) refl
  where
    go : (t q : Bool) → ltb b a ≡ t → cond (is_lt (cond t Less (cond q Equal Greater))) b a ≡ min a b
    go true q e = omega (arith, ltb-true b a e)
    go false true e = omega (arith, ltb-false b a e)
    go false false e = omega (arith, ltb-false b a e)

pub ord-max-is : (a b : ℕ) → ord_max nat_cmp a b ≡ max a b
ord-max-is a b = go (ltb b a) (eqb b a) refl
  where
    go : (t q : Bool) → ltb b a ≡ t → cond (is_lt (cond t Less (cond q Equal Greater))) a b ≡ max a b
    go true q e = omega (arith, ltb-true b a e)
    go false true e = omega (arith, ltb-false b a e)
    go false false e = omega (arith, ltb-false b a e)

-- one more value
pub least_more : (k : ℕ) (xs : List ℕ) (x : ℕ) → key k (least_of k (xs ++ (x ∷ []))) ≡ min (key k (least_of k xs)) (key k x)
least_more k [] x = omega (arith, key-lesser k x (greatest k))
least_more k (y ∷ ys) x = omega (arith, key-lesser k y (least_of k (ys ++ (x ∷ []))), key-lesser k y (least_of k ys), least_more k ys x)

pub greatest-more : (k : ℕ) (xs : List ℕ) (x : ℕ) → key k (greatest_of k (xs ++ (x ∷ []))) ≡ max (key k (greatest_of k xs)) (key k x)
greatest-more k [] x = omega (arith, key-larger k x (least k))
greatest-more k (y ∷ ys) x = omega (arith, key-larger k y (greatest_of k (ys ++ (x ∷ []))), key-larger k y (greatest_of k ys), greatest-more k ys x)

-- one of two words is a word
either-word : (b : Bool) (x y : ℕ) → x < 2 ^ 64 → y < 2 ^ 64 → cond b x y < 2 ^ 64
either-word true x y h l = h
either-word false x y h l = l

least-word : (k : ℕ) (xs : List ℕ) → greatest k < 2 ^ 64 → AllByRecursion (λ x. x < 2 ^ 64) xs → least_of k xs < 2 ^ 64
least-word k [] g a = g
least-word k (x ∷ xs) g a = either-word (leb (key k x) (key k (least_of k xs))) x (least_of k xs) a.0 (least-word k xs g a.1)

greatest-word : (k : ℕ) (xs : List ℕ) → least k < 2 ^ 64 → AllByRecursion (λ x. x < 2 ^ 64) xs → greatest_of k xs < 2 ^ 64
greatest-word k [] g a = g
greatest-word k (x ∷ xs) g a = either-word (leb (key k (greatest_of k xs)) (key k x)) x (greatest_of k xs) a.0 (greatest-word k xs g a.1)

-- the key of the least value's key is the value
pub least_back : (k : ℕ) (xs : List ℕ) → greatest k < 2 ^ 64 → AllByRecursion (λ x. x < 2 ^ 64) xs → key k (key k (least_of k xs)) ≡ least_of k xs
least_back k xs g a = key_back (signed k) (least_of k xs) (least-word k xs g a)

pub greatest-back : (k : ℕ) (xs : List ℕ) → least k < 2 ^ 64 → AllByRecursion (λ x. x < 2 ^ 64) xs → key k (key k (greatest_of k xs)) ≡ greatest_of k xs
greatest-back k xs g a = key_back (signed k) (greatest_of k xs) (greatest-word k xs g a)
