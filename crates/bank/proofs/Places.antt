-- Chains that ask for each place of a list, or for each of its elements, whether one passes a test.
use Rattle.std.proofs.Common.{◌≡◌, ℕ, zero, suc, ◌+◌, ◌-◌, Bool, false, ◌||◌, List, [], ◌∷◌, length, get_or, drop, sym, ap, ◌∙◌, arith}
use Rattle.std.proofs.lemmas.List.{at_drop_all, at_drop_more}
use Rattle.std.specs.List.{list_any, range_with_len}

-- f says whether one of a list passes p
pub record Any {X : Type 0} (f : List X → Bool) (p : X → Bool) : Type 0 where
  pub none : f [] ≡ false
  pub more : (x : X) (xs : List X) → f (x ∷ xs) ≡ (p x || f xs)

pub of_elements : {X : Type 0} {f : List X → Bool} {p : X → Bool} → Any f p → (xs : List X) → list_any p xs ≡ f xs
of_elements a [] = sym a.none
of_elements {p = p} a (x ∷ xs) = ap (λ b. p x || b) (of_elements a xs) ∙ sym (a.more x xs)

-- from place i on
pub of_places : {X : Type 0} {f : List X → Bool} {p : X → Bool} → Any f p → (xs : List X) (d : X) (i n : ℕ) → length xs - i ≡ n
    → list_any (λ k. p (get_or xs k d)) (range_with_len i n) ≡ f (drop i xs)
of_places {f = f} a xs d i zero e = sym (at_drop_all f xs i (omega arith) ∙ a.none)
of_places {f = f} {p = p} a xs d i (suc n) e =
    ap (λ b. p (get_or xs i d) || b) (of_places a xs d (i + 1) n (omega arith)) ∙ sym (at_drop_more f xs i d (omega arith) ∙ a.more _ _)
