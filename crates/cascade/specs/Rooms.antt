-- How a level's share of the working memory is used. Each takes its own part from the front and hands the rest on.
use Rattle.std.specs.Prelude.{ℕ, ◌+◌, ◌*◌}
use Rattle.column.specs.Columns.{words_for}
use Rattle.scheme.specs.Memory.{spare}
use Rattle.children.specs.Apart.{places_for}
use Rattle.levels.specs.Plans.{room}

-- cells and presence words of two children, what a scheme may use, and the levels below; l levels are below
abbrev pub scheme_room : ℕ → ℕ → ℕ
scheme_room l n = places_for n + (spare n + room l n)

-- a sample, and a scheme's node of it
abbrev pub score_room : ℕ → ℕ → ℕ
score_room l n = n + words_for n + scheme_room l n

-- the table of distinct values, and a score
abbrev pub choice_room : ℕ → ℕ → ℕ
choice_room l n = 2 * n + 64 + score_room l n
