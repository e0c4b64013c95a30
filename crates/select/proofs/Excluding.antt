-- What is asked of rules and entries, and the push rules of a scheme that was found by its id.
use Rattle.std.proofs.Common.{◌≡◌, ℕ, suc, ◌+◌, Bool, true, false, cond, ◌&&◌, ◌==◌, eqb, List, [], ◌∷◌, map, Some, None, Option, MatchOption, sym, refl, ap, ◌∙◌, arith}
use Rattle.scheme.specs.Rules.{Rule, contains, names}
use Rattle.scheme.specs.Meaning.{Meaning}
use Rattle.scheme.specs.Banks.{at, find_from}
use Rattle.scheme.specs.Exclusion.{in_history, push_of, pushed, pulled}
use Rattle.bank.proofs.Places.{Any}

-- a rule that the code reads by r
pub naming : {E : Type 0} (r : E → Rule) (i c : ℕ) → Any (λ es. names (map r es) i c) (λ e. (r e).scheme == i && contains (r e).children c)
naming r i c = record { none = refl; more = λ e es. refl }

pub own-entries : (i : ℕ) → Any (in_history i) (λ e. e.0 == i)
own-entries i = record { none = refl; more = λ e es. refl }

pub pushing-entries : (ms : List Meaning) (i : ℕ) → Any (pushed ms i) (λ e. names (push_of e.0 ms) i e.1)
pushing-entries ms i = record { none = refl; more = λ e es. refl }

pub pulling-entries : (rules : List Rule) → Any (pulled rules) (λ e. names rules e.0 e.1)
pulling-entries rules = record { none = refl; more = λ e es. refl }

-- ---- push rules by the number that the look-up gave

push-by : (m : Meaning) (ms : List Meaning) (k : ℕ) (b : Bool) → eqb m.id k ≡ b → push_of k (m ∷ ms) ≡ cond b m.push (push_of k ms)
push-by m ms k true t = ap (λ b. elim b as (λ _. List Rule) [ true ↦ m.push | false ↦ push_of k ms ]) t
push-by m ms k false t = ap (λ b. elim b as (λ _. List Rule) [ true ↦ m.push | false ↦ push_of k ms ]) t

find-by : (m : Meaning) (ms : List Meaning) (n k : ℕ) (b : Bool) → eqb m.id k ≡ b → find_from n (m ∷ ms) k ≡ cond b (Some n) (find_from (suc n) ms k)
unfolding find_from
find-by m ms n k b t = ap (λ b. cond b (Some n) (find_from (suc n) ms k)) t

none-some : {X : Type 0} {j : ℕ} → ◌≡◌ {A = Option ℕ} None (Some j) → X
none-some e = absurd (let z : ◌≡◌ {A = ℕ} 0 1 = cc in omega arith)

some-some : {i j : ℕ} → ◌≡◌ {A = Option ℕ} (Some i) (Some j) → i ≡ j
some-some e = cc

found_from : (ms : List Meaning) (n k j : ℕ) → find_from n ms k ≡ Some j → (d : ℕ) × (j ≡ n + d) × (push_of k ms ≡ (at ms d).push)
unfolding find_from
found_from [] n k j e = none-some e
found_from (m ∷ ms) n k j e = go (eqb m.id k) refl (λ h. found_from ms (suc n) k j h)
  where
    go : (b : Bool) → eqb m.id k ≡ b → (find_from (suc n) ms k ≡ Some j → (d : ℕ) × (j ≡ suc n + d) × (push_of k ms ≡ (at ms d).push))
        → (d : ℕ) × (j ≡ n + d) × (push_of k (m ∷ ms) ≡ (at (m ∷ ms) d).push)
    go true t later = let h = some-some (sym (find-by m ms n k true t) ∙ e) in (0, omega arith, push-by m ms k true t)
    go false t later =
        let r = later (sym (find-by m ms n k false t) ∙ e) in
        let h = r.1 in
        (suc r.0, omega arith, push-by m ms k false t ∙ r.2)

pub pushes-found : (ms : List Meaning) (k j : ℕ) → Some j ≡ find_from 0 ms k → push_of k ms ≡ (at ms j).push
pushes-found ms k j e =
    let r = found_from ms 0 k j (sym e) in
    let h = r.1 in
    let s : r.0 ≡ j = omega arith in
    r.2 ∙ ap (λ d. (at ms d).push) s

not_found : (ms : List Meaning) (n k : ℕ) → find_from n ms k ≡ None → push_of k ms ≡ []
not_found [] n k e = refl
not_found (m ∷ ms) n k e = go (eqb m.id k) refl (λ h. not_found ms (suc n) k h)
  where
    go : (b : Bool) → eqb m.id k ≡ b → (find_from (suc n) ms k ≡ None → push_of k ms ≡ []) → push_of k (m ∷ ms) ≡ []
    go true t later = none-some (sym e ∙ find-by m ms n k true t)
    go false t later = push-by m ms k false t ∙ later (sym (find-by m ms n k false t) ∙ e)

pub pushes-none : (ms : List Meaning) (k : ℕ) → None ≡ find_from 0 ms k → push_of k ms ≡ []
pushes-none ms k e = not_found ms 0 k (sym e)

-- by what the look-up gave
pub pushes-by : (ms : List Meaning) (k : ℕ) (o : Option ℕ) (r : List Rule) → o ≡ find_from 0 ms k → MatchOption o (r ≡ []) (λ j. r ≡ (at ms j).push) → r ≡ push_of k ms
pushes-by ms k None r e h = h ∙ sym (pushes-none ms k e)
pushes-by ms k (Some j) r e h = h ∙ sym (pushes-found ms k j e)
