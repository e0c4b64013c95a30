-- The place of a value in an ascending list.
use Rattle.std.proofs.Common.{◌≡◌, ℕ, zero, suc, ◌<◌, ◌≤◌, Bool, true, false, eqb, ltb, ◌⊎◌, List, [], ◌∷◌, length, get_or, sym, refl, ap, inl, inr, zero-le, le_refl, ◌∙◌, arith}
use Rattle.std.specs.List.Sorted.{IsNonDecreasingBy, IsPartitionPoint}
use Rattle.std.proofs.lemmas.List.Sorted.{IsNonDecreasingBy-from_default}
use Rattle.std.proofs.lemmas.Bool.{cases_lt, eqb-true, ltb-true, ltb-false}
use Rattle.column.specs.Kinds.{key}
use Rattle.stats.specs.Laws.{EachAfter, Ascends}
use Rattle.dict.specs.Dict.{place_by, place_of}

after-at : (k v : ℕ) (ds : List ℕ) (j : ℕ) → EachAfter k v ds → j < length ds → key k v < key k (get_or ds j 0)
after-at k v [] j a l = absurd (omega arith)
after-at k v (d ∷ ds) zero a l = a.0
after-at k v (d ∷ ds) (suc j) a l = after-at k v ds j a.1 (omega arith)

ascends-at : (k : ℕ) (ds : List ℕ) (i j : ℕ) → Ascends k ds → i < j → j < length ds → key k (get_or ds i 0) < key k (get_or ds j 0)
ascends-at k [] i j a h l = absurd (omega arith)
ascends-at k (d ∷ ds) i zero a h l = absurd (omega arith)
ascends-at k (d ∷ ds) zero (suc j) a h l = after-at k d ds j a.0 (omega arith)
ascends-at k (d ∷ ds) (suc i) (suc j) a h l = ascends-at k ds i j a.1 (omega arith) (omega arith)

-- a value that stands in the list is at its place
place_at : (v : ℕ) (ds : List ℕ) → place_of v ds < length ds → get_or ds (place_of v ds) 0 ≡ v
place_at v [] l = absurd (omega arith)
place_at v (w ∷ ws) l = go (eqb v w) refl l (place_at v ws)
  where
    go : (q : Bool) → eqb v w ≡ q → place_by q (place_of v ws) < suc (length ws) → (place_of v ws < length ws → get_or ws (place_of v ws) 0 ≡ v) → get_or (w ∷ ws) (place_by q (place_of v ws)) 0 ≡ v
    go true e m ih = sym (eqb-true v w e)
    go false e m ih = ih (omega arith)

-- the keys do not fall
pub rises : (k : ℕ) (ds : List ℕ) → Ascends k ds → IsNonDecreasingBy (key k) ds
rises k ds a = IsNonDecreasingBy-from_default (key k) ds 0 (λ i j h l. go i j h l (cases_lt i j))
  where
    go : (i j : ℕ) → i ≤ j → j < length ds → (i < j) ⊎ (j ≤ i) → key k (get_or ds i 0) ≤ key k (get_or ds j 0)
    go i j h l (inl x) = let u = ascends-at k ds i j a x l in omega arith
    go i j h l (inr x) = let z : i ≡ j = omega arith in let e = ap (λ n. key k (get_or ds n 0)) z in omega arith

-- what comes before a value that stands in the list ends at its place
pub at-point : (k v : ℕ) (ds : List ℕ) (i : ℕ) → Ascends k ds → place_of v ds < length ds
    → IsPartitionPoint (λ y. ltb (key k y) (key k v) ≡ true) (λ y. ltb (key k y) (key k v) ≡ false) ds i → i ≡ place_of v ds
at-point k v ds i a l h = go (cases_lt i (place_of v ds)) (cases_lt (place_of v ds) i)
  where
    at : key k (get_or ds (place_of v ds) 0) ≡ key k v
    at = ap (key k) (place_at v ds l)

    go : (i < place_of v ds) ⊎ (place_of v ds ≤ i) → (place_of v ds < i) ⊎ (i ≤ place_of v ds) → i ≡ place_of v ds
    go (inl x) y =
        let u = ascends-at k ds i (place_of v ds) a x l in
        let e = at in
        let f : key k v ≤ key k (get_or ds i 0) = ltb-false _ _ (h.1 i 0 (le_refl i) (omega arith)) in
        absurd (omega arith)
    go (inr x) (inl y) =
        let e = at in
        let f : key k (get_or ds (place_of v ds) 0) < key k v = ltb-true _ _ (h.0 (place_of v ds) 0 zero-le y) in
        absurd (omega arith)
    go (inr x) (inr y) = omega arith

-- where a value stands in the list is its place
pub at-place : (k v : ℕ) (ds : List ℕ) (i : ℕ) → Ascends k ds → place_of v ds < length ds → i < length ds → get_or ds i 0 ≡ v → i ≡ place_of v ds
at-place k v ds i a l h e = go (cases_lt i (place_of v ds)) (cases_lt (place_of v ds) i)
  where
    same : key k (get_or ds i 0) ≡ key k (get_or ds (place_of v ds) 0)
    same = ap (key k) (e ∙ sym (place_at v ds l))

    go : (i < place_of v ds) ⊎ (place_of v ds ≤ i) → (place_of v ds < i) ⊎ (i ≤ place_of v ds) → i ≡ place_of v ds
    go (inl x) y =
        let u = ascends-at k ds i (place_of v ds) a x l in
        let f = same in
        absurd (omega arith)
    go (inr x) (inl y) =
        let u = ascends-at k ds (place_of v ds) i a y h in
        let f = same in
        absurd (omega arith)
    go (inr x) (inr y) = omega arith
