-- The rows of a text are its commas.
use Rattle.std.proofs.Common.{◌≡◌, ℕ, ◌-◌, eqb, List, [], ◌∷◌, length, refl, arith}
use Rattle.std.specs.List.{count_by}
use Rattle.std.proofs.lemmas.List.Splits.{length-slice_split}
use Rattle.lines.specs.Lines.{comma, fields_of, row_fields, rows_in}

length-rows : (fs : List (List ℕ)) → length (row_fields fs) ≡ length fs - 1
length-rows [] = refl
length-rows (f ∷ fs) = omega arith

pub rows-counted : (t : List ℕ) → rows_in t ≡ count_by (λ c. eqb c comma) t
rows-counted t = omega (arith, length-rows (fields_of t), length-slice_split (λ c. eqb c comma) t)
