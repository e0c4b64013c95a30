-- The answers as they are printed, each with the end of its line.
use Rattle.std.specs.Prelude.{ℕ, Bool, true, false, List, [], ◌∷◌, ◌++◌, codes, decimal}
use Rattle.column.specs.Refusals.{Said}
use Rattle.calls.specs.declared.answers.Weighed.{Weighed}
use Rattle.listing.specs.Rows.{newline}
use Rattle.tree.specs.Texts.{comma}

-- numbers, each behind a comma, to the end of the line
abbrev pub numbers : List ℕ → List ℕ
numbers [] = newline ∷ []
numbers (n ∷ ns) = comma ∷ (decimal n ++ numbers ns)

abbrev pub bit : Bool → ℕ
bit true = 1
bit false = 0

abbrev pub opened_line : List ℕ
opened_line = codes "opened" ++ numbers []

abbrev pub refused_line : Said → List ℕ
refused_line r = codes "refused" ++ numbers (r.number ∷ (r.row ∷ (r.scheme ∷ (r.level ∷ (bit r.sample ∷ [])))))

-- the column's number, and how many bytes are in use
abbrev pub bound_line : ℕ → ℕ → List ℕ
bound_line i used = codes "bound" ++ numbers (i ∷ (used ∷ []))

abbrev pub weighed_line : Weighed → List ℕ
weighed_line w = codes "weighed" ++ numbers (w.weight ∷ (w.whole ∷ []))
