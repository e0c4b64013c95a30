-- Worked facts of Dict, on both sides of each edge.
use Rattle.std.specs.Prelude.{◌≡◌, ℕ, Bool, true, false, List, [], ◌∷◌, map, length, Some, None}
use Rattle.column.specs.Columns.{Column}
use Rattle.stats.specs.Stats.{stats}
use Rattle.scheme.specs.declared.estimate.CompressionEstimate.{CompressionEstimate}
use Rattle.scheme.specs.declared.estimate.CompressionEstimate.TheVariants.{Verdict}
use Rattle.scheme.specs.declared.estimate.EstimateVerdict.TheVariants.{Skip, Ratio}
use Rattle.scheme.specs.Children.{some_rows}
use Rattle.scheme.specs.Scores.{ratio_of}
use Rattle.dict.specs.Dict.{codes_size, distinct_values, code_row, dict_children, dict_rows, dict}

-- a column without a blank
abbrev pub column_of : ℕ → List ℕ → Column
column_of k vs = record { kind = k; rows = some_rows vs }

-- the answer by the column's own statistics, with or without distinct counts
abbrev pub answered_of : Bool → Column → CompressionEstimate
answered_of want c = dict.answer c (stats want c) [] false

abbrev pub answered : Bool → ℕ → List ℕ → CompressionEstimate
answered want k vs = answered_of want (column_of k vs)

abbrev pub second_kind : List Column → ℕ
second_kind [] = 0
second_kind (a ∷ []) = 0
second_kind (a ∷ (b ∷ cs)) = b.kind

-- the kind of the codes for so many distinct values is k
abbrev pub CodesKind : ℕ → ℕ → Type 0
CodesKind n k = (ds : List ℕ) → length ds ≡ n → second_kind (dict_children 7 ds []) ≡ k

-- 700 four times, 900 four times, 700 four times
abbrev pub twelve : List ℕ
twelve = 700 ∷ 700 ∷ 700 ∷ 700 ∷ 900 ∷ 900 ∷ 900 ∷ 900 ∷ 700 ∷ 700 ∷ 700 ∷ 700 ∷ []

pub record Cases : Type 0 where
  -- half of the values distinct, more than half, and half rounded down
  pub half : answered true 0 (1 ∷ 1 ∷ 2 ∷ 2 ∷ []) ≡ Verdict (Ratio (ratio_of 32 24))
  pub more : answered true 0 (1 ∷ 1 ∷ 2 ∷ 3 ∷ 3 ∷ []) ≡ Verdict Skip
  pub less : answered true 0 (1 ∷ 1 ∷ 2 ∷ 2 ∷ 2 ∷ []) ≡ Verdict (Ratio (ratio_of 40 26))
  -- no row, no value, and no distinct counts
  pub empty : answered true 0 [] ≡ Verdict Skip
  pub blank : answered_of true (record { kind = 0; rows = None ∷ [] }) ≡ Verdict Skip
  pub uncounted : answered false 0 (1 ∷ 1 ∷ 2 ∷ 2 ∷ []) ≡ Verdict Skip
  -- twice as wide, in three runs; one distinct value, and four
  pub wide : answered true 1 twelve ≡ Verdict (Ratio (ratio_of 192 56))
  pub one : answered true 0 (5 ∷ 5 ∷ []) ≡ Verdict (Ratio (ratio_of 16 10))
  pub four : answered true 0 (1 ∷ 2 ∷ 3 ∷ 4 ∷ 1 ∷ 2 ∷ 3 ∷ 4 ∷ []) ≡ Verdict (Ratio (ratio_of 64 56))
  -- codes one by one, and by runs where these take less
  pub singly : codes_size 2 32 16 ≡ 64
  pub by_runs : codes_size 2 36 18 ≡ 68
  -- the largest code is 255, 256, 65,535 and 65,536
  pub bytes : CodesKind 256 0
  pub past_bytes : CodesKind 257 1
  pub shorts : CodesKind 65536 1
  pub past-shorts : CodesKind 65537 2
  -- the parts: distinct values in the kind's order (-1 before 3), and the places
  pub distinct : distinct_values (column_of 7 (3 ∷ 18446744073709551615 ∷ 3 ∷ [])) ≡ 18446744073709551615 ∷ 3 ∷ []
  pub codes : map (code_row (2 ∷ 7 ∷ 9 ∷ [])) (Some 9 ∷ None ∷ Some 2 ∷ []) ≡ Some 2 ∷ None ∷ Some 0 ∷ []
  -- a code past the values, and codes that are not as many as the rows
  pub past : dict_rows 2 (2 ∷ 7 ∷ []) (Some 1 ∷ Some 2 ∷ []) ≡ Some 7 ∷ Some 0 ∷ []
  pub short : dict_rows 2 (2 ∷ 7 ∷ []) (Some 1 ∷ []) ≡ None ∷ None ∷ []
