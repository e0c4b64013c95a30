-- Worked facts of Runs, on both sides of each edge.
use Rattle.std.specs.Prelude.{◌≡◌, ℕ, Bool, true, false, List, [], ◌∷◌, length}
use Rattle.column.specs.Columns.{Column}
use Rattle.stats.specs.Stats.{stats}
use Rattle.scheme.specs.declared.estimate.CompressionEstimate.{CompressionEstimate}
use Rattle.scheme.specs.declared.estimate.CompressionEstimate.TheVariants.{Verdict, Deferred}
use Rattle.scheme.specs.declared.estimate.EstimateVerdict.TheVariants.{Skip}
use Rattle.scheme.specs.declared.estimate.DeferredEstimate.TheVariants.{Sample}
use Rattle.scheme.specs.Children.{some_rows}
use Rattle.scheme.specs.Rules.{names}
use Rattle.runs.specs.Runs.{heads, ends, unrun, runs_children, run_length}

-- a column of u8 without a blank
abbrev pub column_of : List ℕ → Column
column_of vs = record { kind = 0; rows = some_rows vs }

-- the answer by the column's own statistics
abbrev pub answered : List ℕ → CompressionEstimate
answered vs = run_length.answer (column_of vs) (stats false (column_of vs)) [] false

abbrev pub second_kind : List Column → ℕ
second_kind [] = 0
second_kind (a ∷ []) = 0
second_kind (a ∷ (b ∷ cs)) = b.kind

-- the kind of the ends of n values is k
abbrev pub EndsKind : ℕ → ℕ → Type 0
EndsKind n k = (vs : List ℕ) → length vs ≡ n → second_kind (runs_children 7 vs) ≡ k

-- scheme i is excluded below child c
abbrev pub excludes : ℕ → ℕ → Bool
excludes i c = names run_length.push i c

pub record Cases : Type 0 where
  -- an average run of 3 values, and of 4
  pub three : answered (7 ∷ 7 ∷ 7 ∷ []) ≡ Verdict Skip
  pub four : answered (7 ∷ 7 ∷ 7 ∷ 7 ∷ []) ≡ Deferred Sample
  -- 7 values in 2 runs, and 8
  pub seven : answered (7 ∷ 7 ∷ 7 ∷ 7 ∷ 9 ∷ 9 ∷ 9 ∷ []) ≡ Verdict Skip
  pub eight : answered (7 ∷ 7 ∷ 7 ∷ 7 ∷ 9 ∷ 9 ∷ 9 ∷ 9 ∷ []) ≡ Deferred Sample
  -- only the dictionary, and only below the ends
  pub ends-push : excludes 16 1 ≡ true
  pub firsts-push : excludes 16 0 ≡ false
  pub self-push : excludes 17 1 ≡ false
  pub above-push : excludes 18 1 ≡ false
  -- the parts; a value that comes again starts a run of its own
  pub firsts : heads (5 ∷ 5 ∷ 9 ∷ 5 ∷ []) ≡ 5 ∷ 9 ∷ 5 ∷ []
  pub lasts : ends (5 ∷ 5 ∷ 9 ∷ 5 ∷ []) ≡ 2 ∷ 3 ∷ 4 ∷ []
  -- the last end is 255, 256, 65,535 and 65,536
  pub bytes : EndsKind 255 0
  pub past_bytes : EndsKind 256 1
  pub shorts : EndsKind 65535 1
  pub past-shorts : EndsKind 65536 2
  -- ends that do not ascend, that are too few, and that are too many
  pub falling : unrun 0 (1 ∷ 2 ∷ 3 ∷ []) (3 ∷ 2 ∷ 4 ∷ []) ≡ 1 ∷ 1 ∷ 1 ∷ 3 ∷ 3 ∷ []
  pub fewer : unrun 0 (1 ∷ 2 ∷ 3 ∷ []) (2 ∷ []) ≡ 1 ∷ 1 ∷ []
  pub more : unrun 0 (1 ∷ []) (2 ∷ 5 ∷ []) ≡ 1 ∷ 1 ∷ []
