-- Columns with one value only.
use Rattle.std.specs.Prelude.{ℕ, Bool, true, false, ◌&&◌, List, [], ◌∷◌, Some, None, Option, ◌==◌}

abbrev pub all_equal_to : ℕ → List ℕ → Bool
all_equal_to v [] = true
all_equal_to v (w ∷ ws) = v == w && all_equal_to v ws

-- there is a value, and every other equals it
abbrev pub constantly : List ℕ → Bool
constantly [] = false
constantly (v ∷ vs) = all_equal_to v vs

-- the first of the values
abbrev pub first_value : List ℕ → Option ℕ
first_value [] = None
first_value (v ∷ vs) = Some v
