-- The look-up by id in a bank whose ids stand once.
use Rattle.std.proofs.Common.{◌≡◌, ℕ, zero, suc, ◌+◌, ◌<◌, ◌==◌, List, [], ◌∷◌, length, Some, refl, ap, ◌∙◌, arith}
use Rattle.std.proofs.lemmas.Bool.{cond-true, cond-false, eq-eqb, ne_eqb}
use Rattle.scheme.specs.Meaning.{Meaning}
use Rattle.scheme.specs.Banks.{at, find_from}
use Rattle.levels.specs.Openings.{Opened}

first-with : (j k : ℕ) (ms : List Meaning) (i : ℕ) → i < length ms → ((x : ℕ) → x < i → (at ms x).id ≡ k → ⊥) → (at ms i).id ≡ k → find_from j ms k ≡ Some (j + i)
unfolding find_from
first-with j k [] i h f e = absurd (omega arith)
first-with j k (m ∷ ms) zero h f e =
    cond-true (m.id == k) (Some j) (find_from (suc j) ms k) (eq-eqb m.id k e) ∙ ap Some (omega arith)
first-with j k (m ∷ ms) (suc i) h f e =
    cond-false (m.id == k) (Some j) (find_from (suc j) ms k) (ne_eqb m.id k (f 0 (omega arith)))
    ∙ first-with (suc j) k ms i (omega arith) (λ x l. f (suc x) (omega arith)) e
    ∙ ap Some (omega arith)

-- a scheme is found by its id
pub finds : (ms : List Meaning) (i : ℕ) → Opened ms → i < length ms → find_from 0 ms (at ms i).id ≡ Some i
finds ms i o h =
    first-with 0 (at ms i).id ms i h (λ x l e. let z = o.apart x i (omega arith) h e in omega arith) refl ∙ ap Some (omega arith)
