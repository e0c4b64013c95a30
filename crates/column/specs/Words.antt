-- Presence words: one for each 64 rows, with a bit for each.
use Rattle.std.specs.Prelude.{ℕ, ◌+◌, ◌/◌, ◌%◌, ◌^◌, Bool, ◌==◌}

-- words for n rows
abbrev pub words_for : ℕ → ℕ
words_for n = (n + 63) / 64

-- whether bit j of a word is set
abbrev pub bit : ℕ → ℕ → Bool
bit w j = w / 2 ^ j % 2 == 1
