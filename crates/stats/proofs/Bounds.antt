-- Changes and the last value of a list, one value after another.
use Rattle.std.proofs.Common.{◌≡◌, ℕ, ◌+◌, ◌<◌, ◌≤◌, Bool, true, false, cond, eqb, List, [], ◌∷◌, ◌++◌, length, get_or, take, slice_get, Some, sym, refl, ap, ◌∙◌, arith, eq-eqb}
use Rattle.std.proofs.lemmas.Option.{none-some, same_Some}
use Rattle.std.proofs.lemmas.List.{take_more, length-take-le}
use Rattle.stats.specs.declared.runs.LoopState.{LoopState}
use Rattle.stats.specs.Blocks.{last_or, state_after}
use Rattle.stats.specs.Stats.{changes, runs}

pub same-state : (p q m n : ℕ) → p ≡ q → m ≡ n → ◌≡◌ {A = LoopState} (record { prev = p; runs = m }) (record { prev = q; runs = n })
same-state p q m n e f = rw (e, f)

pub state-none : (s : LoopState) → s ≡ state_after s []
state-none s = same-state s.prev s.prev s.runs (s.runs + 0) refl (omega arith)

pub changes-++ : (p : ℕ) (xs ys : List ℕ) → changes p (xs ++ ys) ≡ changes p xs + changes (last_or p xs) ys
changes-++ p [] ys = omega arith
changes-++ p (x ∷ xs) ys = omega (arith, changes-++ x xs ys)

pub last_or-++ : (p : ℕ) (xs ys : List ℕ) → last_or p (xs ++ ys) ≡ last_or (last_or p xs) ys
last_or-++ p [] ys = refl
last_or-++ p (x ∷ xs) ys = last_or-++ x xs ys

pub changes-more : (p : ℕ) (xs : List ℕ) (i : ℕ) → i < length xs → changes p (take (i + 1) xs) ≡ changes p (take i xs) + cond (eqb (last_or p (take i xs)) (get_or xs i 0)) 0 1
changes-more p xs i h = rw (take_more xs i 0 h, changes-++ p (take i xs)) (omega arith)

pub last_or-more : (p : ℕ) (xs : List ℕ) (i : ℕ) → i < length xs → last_or p (take (i + 1) xs) ≡ get_or xs i 0
last_or-more p xs i h = rw (take_more xs i 0 h, last_or-++ p (take i xs))

pub changes-le : (p : ℕ) (xs : List ℕ) → changes p xs ≤ length xs
changes-le p [] = omega arith
changes-le p (x ∷ xs) = omega (arith, changes-le x xs, step (eqb p x))
  where
    step : (b : Bool) → cond b 0 1 ≤ 1
    step true = omega arith
    step false = omega arith

-- one more value
pub counted : (p start : ℕ) (xs : List ℕ) (i before after prev value : ℕ) → i < length xs → before ≡ start + changes p (take i xs) → prev ≡ last_or p (take i xs) → value ≡ get_or xs i 0 → after ≡ before + cond (eqb prev value) 0 1 → after ≡ start + changes p (take (i + 1) xs)
counted p start xs i before after prev value h b l v a =
    let e : ◌≡◌ {A = ℕ} (cond (eqb prev value) 0 1) (cond (eqb (last_or p (take i xs)) (get_or xs i 0)) 0 1) = ap {B = ℕ} (λ z. cond (eqb z value) 0 1) l ∙ ap {B = ℕ} (λ z. cond (eqb (last_or p (take i xs)) z) 0 1) v in
    omega (arith, changes-more p xs i h, e, a, b)

pub counted-fits : (p : ℕ) (xs : List ℕ) (i : ℕ) → i < length xs → changes p (take i xs) < length xs
counted-fits p xs i h = omega (arith, changes-le p (take i xs), length-take-le i xs (omega arith))

-- the first value starts the first run
pub runs-first : (v p : ℕ) (vs : List ℕ) → p ≡ v → slice_get vs 0 ≡ Some v → 1 + changes p vs ≡ runs vs
runs-first v p [] e q = absurd (none-some v q)
runs-first v p (x ∷ vs) e q =
    let same : p ≡ x = e ∙ sym (same_Some x v q) in
    let t : eqb p x ≡ true = eq-eqb p x same in
    rw t (omega arith)
