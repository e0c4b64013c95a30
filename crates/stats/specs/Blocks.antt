-- The values of a column by its presence words, and by blocks: a word for each 64 cells.
use Rattle.std.specs.Prelude.{ℕ, ◌+◌, cond, List, [], ◌∷◌, length}
use Rattle.column.specs.Columns.{rows_of, values_of, word_bits}
use Rattle.stats.specs.declared.runs.LoopState.{LoopState}
use Rattle.stats.specs.Stats.{changes}
pub use Rattle.column.specs.Words.{bit}

-- the values that the words leave of the cells, in row order
abbrev pub shown : List ℕ → List ℕ → List ℕ
shown words cells = values_of (rows_of (word_bits (length cells) words) cells)

-- the cells whose bit is set, where the first has bit j of the word w
abbrev pub kept_from : ℕ → ℕ → List ℕ → List ℕ
kept_from w j [] = []
kept_from w j (c ∷ cs) = cond (bit w j) (c ∷ kept_from w (j + 1) cs) (kept_from w (j + 1) cs)

-- the same cells with each blank replaced by the value before it, at first p
abbrev pub filled_from : ℕ → ℕ → ℕ → List ℕ → List ℕ
filled_from w j p [] = []
filled_from w j p (c ∷ cs) = cond (bit w j) c p ∷ filled_from w (j + 1) (cond (bit w j) c p) cs

-- the last value, or p
abbrev pub last_or : ℕ → List ℕ → ℕ
last_or p [] = p
last_or p (x ∷ xs) = last_or x xs

-- the count of runs after these values too
abbrev pub state_after : LoopState → List ℕ → LoopState
state_after s vs = record { prev = last_or s.prev vs; runs = s.runs + changes s.prev vs }
