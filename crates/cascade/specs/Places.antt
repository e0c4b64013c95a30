-- What is bound where a context stands: with its levels, at its history, in a sample or not.
use Rattle.std.specs.Prelude.{ℕ, ◌-◌, List, Result}
use Rattle.column.specs.declared.refusals.Refusal.{Refusal}
use Rattle.column.specs.Columns.{Column, seen}
use Rattle.sample.specs.Draws.{Source}
use Rattle.sample.specs.Samples.{sample_of}
use Rattle.scheme.specs.declared.asked.ArrayAndStats.{ArrayAndStats}
use Rattle.scheme.specs.declared.ctx.CompressorContext.{CompressorContext}
use Rattle.scheme.specs.declared.estimate.EstimateVerdict.{EstimateVerdict}
use Rattle.scheme.specs.Banks.{at}
use Rattle.scheme.specs.Meaning.{Meaning}
use Rattle.scheme.specs.Memory.{history_of, stats_in}
use Rattle.levels.specs.Choice.{Chosen, Late}
use Rattle.levels.specs.Levels.{Below, Bound, choice, competed, late, levels, scheme_bound, scored}

-- a column
abbrev pub bound_at : List Meaning → Source → CompressorContext → Column → Bound
bound_at ms d x c = levels ms d x.allowed_cascading c (history_of x) x.is_sample

-- a child, one level further down
abbrev pub below_at : List Meaning → Source → CompressorContext → Below
below_at ms d x = levels ms d (x.allowed_cascading - 1)

-- a column by the scheme of number i
abbrev pub scheme_at : List Meaning → Source → CompressorContext → ℕ → Column → Bound
scheme_at ms d x i c = scheme_bound (below_at ms d x) (at ms i) c (history_of x) x.is_sample

-- a column for which the schemes compete, and which of them wins
abbrev pub competed_at : List Meaning → Source → CompressorContext → Column → Bound
competed_at ms d x c = competed ms d (below_at ms d x) c (history_of x) x.is_sample

abbrev pub choice_at : List Meaning → Source → CompressorContext → Column → Chosen
choice_at ms d x c = choice ms d (below_at ms d x) c (history_of x) x.is_sample

-- what a deferred scheme comes to, and how well the scheme of number i does on a sample
abbrev pub late_at : List Meaning → Source → CompressorContext → ArrayAndStats → Late
late_at ms d x a = late d (below_at ms d x) (seen a.array) (stats_in a) (history_of x) x.is_sample

abbrev pub score_at : List Meaning → Source → CompressorContext → ℕ → Column → Result EstimateVerdict Refusal
score_at ms d x i c = scored (below_at ms d x) (history_of x) (at ms i) (sample_of d x.is_sample c)
