-- What tests of each row say of the values.
use Rattle.std.proofs.Common.{◌≡◌, ℕ, zero, suc, ◌<◌, Bool, true, false, not, ◌||◌, eqb, List, [], ◌∷◌, length, get_or, Some, None, Option, sym, refl, ap, ◌∙◌, true≢false, arith}
use Rattle.std.specs.Bool.{then_some}
use Rattle.std.proofs.lemmas.Bool.{eqb-true, eqb-false, eq-eqb, ne_eqb, and_from, and_left, and_right, or_parts, or_from, true_from_ne_false}
use Rattle.column.specs.Columns.{Row, Offer, rows_of, values_of, offered, word_bits}
use Rattle.column.specs.Views.{is_value}
use Rattle.column.proofs.RowLaws.{length_digits}
use Rattle.constant.specs.Constants.{all_equal_to, first_value}

no : {X : Type 0} → true ≡ false → X
no e = absurd (true≢false e)

-- the row is blank or its cell is v
abbrev pub alike : ℕ → List ℕ → List Row → ℕ → Bool
alike v cs rs k = eqb (get_or cs k 0) v || not (is_value (get_or rs k None))

each_alike : (v : ℕ) (bs cs : List ℕ) → length bs ≡ length cs → ((k : ℕ) → k < length cs → alike v cs (rows_of bs cs) k ≡ true) → all_equal_to v (values_of (rows_of bs cs)) ≡ true
each_alike v [] cs e h = refl
each_alike v (b ∷ bs) [] e h = absurd (omega arith)
each_alike v (zero ∷ bs) (c ∷ cs) e h = each_alike v bs cs (omega arith) (λ k l. h (suc k) (omega arith))
each_alike v (suc b ∷ bs) (c ∷ cs) e h =
    let same = true_from_ne_false (eqb c v) (λ f. no (sym (h 0 (omega arith)) ∙ or_from _ _ f refl)) in
    and_from _ _ (eq-eqb v c (sym (eqb-true c v same))) (each_alike v bs cs (omega arith) (λ k l. h (suc k) (omega arith)))

one-other : (v : ℕ) (bs cs : List ℕ) (k : ℕ) → length bs ≡ length cs → k < length cs → alike v cs (rows_of bs cs) k ≡ false → all_equal_to v (values_of (rows_of bs cs)) ≡ false
one-other v [] cs k e l h = absurd (omega arith)
one-other v (b ∷ bs) [] k e l h = absurd (omega arith)
one-other v (zero ∷ bs) (c ∷ cs) zero e l h = no (or_parts (eqb c v) true h).1
one-other v (suc b ∷ bs) (c ∷ cs) zero e l h = and_left _ _ (ne_eqb v c (λ q. eqb-false c v (or_parts (eqb c v) false h).0 (sym q)))
one-other v (zero ∷ bs) (c ∷ cs) (suc k) e l h = one-other v bs cs k (omega arith) (omega arith) h
one-other v (suc b ∷ bs) (c ∷ cs) (suc k) e l h = and_right _ _ (one-other v bs cs k (omega arith) (omega arith) h)

all_blank : (bs cs : List ℕ) → length bs ≡ length cs → ((k : ℕ) → k < length cs → is_value (get_or (rows_of bs cs) k None) ≡ false) → first_value (values_of (rows_of bs cs)) ≡ None
all_blank [] cs e h = refl
all_blank (b ∷ bs) [] e h = absurd (omega arith)
all_blank (zero ∷ bs) (c ∷ cs) e h = all_blank bs cs (omega arith) (λ k l. h (suc k) (omega arith))
all_blank (suc b ∷ bs) (c ∷ cs) e h = no (h 0 (omega arith))

first-at : (bs cs : List ℕ) (i : ℕ) → length bs ≡ length cs → i < length cs → is_value (get_or (rows_of bs cs) i None) ≡ true
    → ((k : ℕ) → k < i → is_value (get_or (rows_of bs cs) k None) ≡ false) → first_value (values_of (rows_of bs cs)) ≡ Some (get_or cs i 0)
first-at [] cs i e l t h = absurd (omega arith)
first-at (b ∷ bs) [] i e l t h = absurd (omega arith)
first-at (zero ∷ bs) (c ∷ cs) zero e l t h = no (sym t)
first-at (suc b ∷ bs) (c ∷ cs) zero e l t h = refl
first-at (zero ∷ bs) (c ∷ cs) (suc i) e l t h = first-at bs cs i (omega arith) (omega arith) t (λ k m. h (suc k) (omega arith))
first-at (suc b ∷ bs) (c ∷ cs) (suc i) e l t h = no (h 0 (omega arith))

none_some : {X : Type 0} {n : ℕ} → ◌≡◌ {A = Option ℕ} (Some n) None → X
none_some e = absurd (let z : ◌≡◌ {A = ℕ} 0 1 = cc in omega arith)

not_given : (b : Bool) (x : ℕ) → then_some b x ≡ None → b ≡ false
not_given true x e = none_some e
not_given false x e = refl

was_given : (b : Bool) (x v : ℕ) → then_some b x ≡ Some v → b ≡ true
was_given true x v e = refl
was_given false x v e = none_some (sym e)

-- ---- of a column as it is offered

module _ (o : Offer) where
  as-many : length (word_bits (length o.cells) o.words) ≡ length o.cells
  as-many = length_digits 2 (length o.cells) _

  pub all_alike : (v : ℕ) (r : Bool) → (r ≡ true → (k : ℕ) → k < length o.cells → alike v o.cells (offered o) k ≡ true)
      → (r ≡ false → (k : ℕ) × (k < length o.cells) × (alike v o.cells (offered o) k ≡ false)) → r ≡ all_equal_to v (values_of (offered o))
  all_alike v true p q = sym (each_alike v (word_bits (length o.cells) o.words) o.cells as-many (p refl))
  all_alike v false p q = let w = q refl in sym (one-other v (word_bits (length o.cells) o.words) o.cells w.0 as-many w.1 w.2)

  -- the cell of row k if it is a value
  abbrev pub given : ℕ → Option ℕ
  given k = then_some (is_value (get_or (offered o) k None)) (get_or o.cells k 0)

  -- the first of these, or none
  pub first_given : (cell : Option ℕ) → (cell ≡ None → (k : ℕ) → k < length o.cells → given k ≡ None)
      → ((v : ℕ) → cell ≡ Some v → (i : ℕ) × (i < length o.cells) × (given i ≡ Some v) × ((k : ℕ) → k < i → given k ≡ None)) → cell ≡ first_value (values_of (offered o))
  first_given None p q = sym (all_blank (word_bits (length o.cells) o.words) o.cells as-many (λ k l. not_given _ _ (p refl k l)))
  first_given (Some v) p q =
      let w = q v refl in
      sym (w.2) ∙ ap (λ b. then_some b (get_or o.cells w.0 0)) (was_given _ _ v w.2) ∙ sym (first-at (word_bits (length o.cells) o.words) o.cells w.0 as-many w.1 (was_given _ _ v w.2) (λ k m. not_given _ _ (w.3 k m)))
