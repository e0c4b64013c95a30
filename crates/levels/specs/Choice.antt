-- The choice among the eligible schemes: immediate answers first, then the deferred, each in bank order.
use Rattle.std.specs.Prelude.{Bool, true, false, ◌&&◌, List, [], ◌∷◌, Some, None, Ok, Err, Option, Result}
use Rattle.column.specs.declared.refusals.Refusal.{Refusal}
use Rattle.column.specs.Columns.{Column}
use Rattle.stats.specs.Stats.{Stats}
use Rattle.scheme.specs.declared.estimate.CompressionEstimate.{CompressionEstimate}
use Rattle.scheme.specs.declared.estimate.CompressionEstimate.TheVariants.{Verdict, Deferred}
use Rattle.scheme.specs.declared.estimate.EstimateVerdict.{EstimateVerdict}
use Rattle.scheme.specs.declared.estimate.EstimateVerdict.TheVariants.{Skip, AlwaysUse, Ratio}
use Rattle.scheme.specs.declared.estimate.DeferredEstimate.{DeferredEstimate}
use Rattle.scheme.specs.declared.estimate.EstimateScore.{EstimateScore}
use Rattle.scheme.specs.declared.estimate.EstimateScore.TheVariants.{FiniteCompression}
use Rattle.scheme.specs.Scores.{score_valid, beats_score}
use Rattle.scheme.specs.Meaning.{Meaning, History}

-- the best so far: no scheme, or one with its score
abbrev pub Best : Type 0
Best = Option (Meaning × EstimateScore)

-- the mark that a Callback is asked with
abbrev pub mark_of : Best → Option EstimateScore
mark_of None = None
mark_of (Some b) = Some b.1

-- a valid score that beats the best so far
abbrev pub is_better : EstimateScore → Option EstimateScore → Bool
is_better s None = score_valid s
is_better s (Some t) = score_valid s && beats_score s t

abbrev pub bested_by : Bool → Meaning → EstimateScore → Best → Best
bested_by true m s b = Some (m, s)
bested_by false m s b = b

-- it takes the place of the best
abbrev pub bested : Meaning → EstimateScore → Best → Best
bested m s b = bested_by (is_better s (mark_of b)) m s b

-- ---- immediate answers

-- AlwaysUse ended the choice; or the best so far, and who waits
pub data Asked : Type 0 where
  ended : Meaning → Asked
  waiting : Best → List (Meaning × DeferredEstimate) → Asked

abbrev pub wait : Meaning → DeferredEstimate → Asked → Asked
wait m d (ended n) = ended n
wait m d (waiting b ds) = waiting b ((m, d) ∷ ds)

-- each step is named, with what it decides on as an argument and the rest of the walk as a function
abbrev pub ask_step : Meaning → CompressionEstimate → Best → (Best → Asked) → Asked
ask_step m (Verdict Skip) b next = next b
ask_step m (Verdict AlwaysUse) b next = ended m
ask_step m (Verdict (Ratio x)) b next = next (bested m (FiniteCompression x) b)
ask_step m (Deferred d) b next = wait m d (next b)

unfoldable pub asked : Column → Stats → History → Bool → List Meaning → Best → Asked
asked c t h f [] b = waiting b []
asked c t h f (m ∷ ms) b = ask_step m (m.answer c t h f) b (asked c t h f ms)

-- ---- deferred answers

-- what a deferred scheme comes to, by the mark; or a refusal
abbrev pub Late : Type 0
Late = Meaning → DeferredEstimate → Option EstimateScore → Result EstimateVerdict Refusal

-- no scheme, the scheme that won, or a refusal
abbrev pub Chosen : Type 0
Chosen = Result (Option Meaning) Refusal

abbrev pub winner : Best → Option Meaning
winner None = None
winner (Some b) = Some b.0

abbrev pub late_step : Meaning → Result EstimateVerdict Refusal → Best → (Best → Chosen) → Chosen
late_step m (Err e) b next = Err e
late_step m (Ok Skip) b next = next b
late_step m (Ok AlwaysUse) b next = Ok (Some m)
late_step m (Ok (Ratio x)) b next = next (bested m (FiniteCompression x) b)

unfoldable pub decided : Late → List (Meaning × DeferredEstimate) → Best → Chosen
decided late [] b = Ok (winner b)
decided late (d ∷ ds) b = late_step d.0 (late d.0 d.1 (mark_of b)) b (decided late ds)

abbrev pub chosen_by : Late → Asked → Chosen
chosen_by late (ended m) = Ok (Some m)
chosen_by late (waiting b ds) = decided late ds b
