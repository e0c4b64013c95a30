-- Which scheme wins: columns of 4 bytes, which each scheme stores in 2.
use Rattle.std.specs.Prelude.{◌≡◌, ℕ, ◌+◌, ◌-◌, map, true, List, [], ◌∷◌, Ok, Err, Result}
use Rattle.column.specs.declared.refusals.Refusal.{Refusal}
use Rattle.column.specs.declared.refusals.Refusal.TheVariants.{SchemeRefused}
use Rattle.scheme.specs.declared.estimate.CompressionEstimate.TheVariants.{Verdict, Deferred}
use Rattle.scheme.specs.declared.estimate.DeferredEstimate.TheVariants.{Sample}
use Rattle.scheme.specs.declared.estimate.EstimateVerdict.{EstimateVerdict}
use Rattle.scheme.specs.declared.estimate.EstimateVerdict.TheVariants.{Skip, AlwaysUse}
use Rattle.scheme.specs.Meaning.{Meaning}
use Rattle.column.specs.Columns.{Column}
use Rattle.sample.specs.Draws.{mill}
use Rattle.levels.specs.Levels.{bound}
use Rattle.worked.specs.Columns.{bytes, pairs, forms_of}
use Rattle.worked.specs.Schemes.{times, bits, at_once, called, sampled, refusing, counting, marked_spy}

-- the forms that a bank binds a column to, with one level
abbrev pub bound_by : List Meaning → Column → Result (List ℕ) Refusal
bound_by ms c = forms_of (bound ms mill 1 c)

-- 1, 1, 2, 2
abbrev pub chosen : List Meaning → Result (List ℕ) Refusal
chosen ms = bound_by ms pairs

-- the same with a 13
abbrev pub with_13 : List Meaning → Result (List ℕ) Refusal
with_13 ms = bound_by ms (bytes (1 ∷ 1 ∷ 13 ∷ 13 ∷ []))

-- a scheme with this verdict alone, before and behind one with a ratio of 2: at once, and called back
abbrev pub alone : EstimateVerdict → List (Result (List ℕ) Refusal)
alone v = chosen (at_once 30 v ∷ []) ∷ chosen (called 30 v ∷ []) ∷ []

abbrev pub beside : EstimateVerdict → List (Result (List ℕ) Refusal)
beside v =
    chosen (at_once 30 v ∷ at_once 31 (times 2) ∷ [])
    ∷ chosen (at_once 31 (times 2) ∷ at_once 30 v ∷ [])
    ∷ chosen (called 30 v ∷ called 31 (times 2) ∷ [])
    ∷ chosen (called 31 (times 2) ∷ called 30 v ∷ [])
    ∷ []

-- it does not count alone, nor beside a ratio of 2
pub record Never (v : EstimateVerdict) : Type 0 where
  pub alone : alone v ≡ Ok (0 ∷ []) ∷ Ok (0 ∷ []) ∷ []
  pub beside : beside v ≡ Ok (31 ∷ []) ∷ Ok (31 ∷ []) ∷ Ok (31 ∷ []) ∷ Ok (31 ∷ []) ∷ []

-- it counts alone
pub record Counts (v : EstimateVerdict) : Type 0 where
  pub alone : alone v ≡ Ok (30 ∷ []) ∷ Ok (30 ∷ []) ∷ []

pub record Ties : Type 0 where
  -- a greater ratio wins, wherever it stands
  pub greater_first : chosen (at_once 30 (times 3) ∷ at_once 31 (times 2) ∷ []) ≡ Ok (30 ∷ [])
  pub greater_last : chosen (at_once 30 (times 2) ∷ at_once 31 (times 3) ∷ []) ≡ Ok (31 ∷ [])
  -- among equals the first in bank order
  pub at_once_first : chosen (at_once 30 (times 2) ∷ at_once 31 (times 2) ∷ []) ≡ Ok (30 ∷ [])
  pub at_once_turned : chosen (at_once 31 (times 2) ∷ at_once 30 (times 2) ∷ []) ≡ Ok (31 ∷ [])
  pub called_first : chosen (called 30 (times 2) ∷ called 31 (times 2) ∷ []) ≡ Ok (30 ∷ [])
  pub called_turned : chosen (called 31 (times 2) ∷ called 30 (times 2) ∷ []) ≡ Ok (31 ∷ [])
  -- a sample's score is 4 over 2
  pub sampled_first : chosen (sampled 30 ∷ called 31 (times 2) ∷ []) ≡ Ok (30 ∷ [])
  pub sampled_last : chosen (called 31 (times 2) ∷ sampled 30 ∷ []) ≡ Ok (31 ∷ [])
  pub sampled_less : chosen (sampled 30 ∷ at_once 31 (bits 0x4000_0000_0000_0001) ∷ []) ≡ Ok (31 ∷ [])
  pub sampled_more : chosen (sampled 30 ∷ at_once 31 (bits 0x3FFF_FFFF_FFFF_FFFF) ∷ []) ≡ Ok (30 ∷ [])
  pub three : chosen (at_once 30 (times 2) ∷ at_once 31 (times 2) ∷ at_once 32 (times 2) ∷ []) ≡ Ok (30 ∷ [])
  -- eight wait, and all are asked
  pub eight : chosen (map (λ i. called (30 + i) (times (2 + i))) (0 ∷ 1 ∷ 2 ∷ 3 ∷ 4 ∷ 5 ∷ 6 ∷ 7 ∷ [])) ≡ Ok (37 ∷ [])
  pub eight_turned : chosen (map (λ i. called (30 + i) (times (10 - i))) (0 ∷ 1 ∷ 2 ∷ 3 ∷ 4 ∷ 5 ∷ 6 ∷ 7 ∷ [])) ≡ Ok (30 ∷ [])
  -- immediate answers before deferred
  pub called_behind : chosen (called 30 (times 2) ∷ at_once 31 (times 2) ∷ []) ≡ Ok (31 ∷ [])
  pub sampled_behind : chosen (sampled 30 ∷ at_once 31 (times 2) ∷ []) ≡ Ok (31 ∷ [])
  pub called_ahead : chosen (called 30 (times 3) ∷ at_once 31 (times 2) ∷ []) ≡ Ok (30 ∷ [])

pub record Counting : Type 0 where
  pub skip : Never Skip
  pub no_number : Never (bits 0x7FF8_0000_0000_0000)
  pub infinite : Never (bits 0x7FF0_0000_0000_0000)
  pub minus_infinite : Never (bits 0xFFF0_0000_0000_0000)
  pub minus : Never (bits 0xC000_0000_0000_0000)
  pub one : Never (bits 0x3FF0_0000_0000_0000)
  pub zero : Never (bits 0)
  pub least_subnormal : Never (bits 1)
  pub greatest_subnormal : Never (bits 0x000F_FFFF_FFFF_FFFF)
  pub over_nothing : Never (times 0)
  -- the edges: the number after 1.0, and the greatest
  pub past_one : Counts (bits 0x3FF0_0000_0000_0001)
  pub greatest : Counts (bits 0x7FEF_FFFF_FFFF_FFFF)
  -- a weight of 0 is no score, though it is a verdict that wins
  pub zero_bytes : bound_by (counting 30 (Deferred Sample) ∷ []) (bytes (0 ∷ 1 ∷ 2 ∷ 3 ∷ [])) ≡ Ok (0 ∷ [])
  pub zero_stands : bound_by (counting 30 (Verdict (times 2)) ∷ []) (bytes (0 ∷ 1 ∷ 2 ∷ 3 ∷ [])) ≡ Ok (30 ∷ [])
  pub zero_beside : bound_by (counting 30 (Deferred Sample) ∷ called 31 (bits 0x3FF0_0000_0000_0001) ∷ []) (bytes (0 ∷ 1 ∷ 2 ∷ 3 ∷ [])) ≡ Ok (31 ∷ [])

-- the greatest number of binary64
abbrev pub most : EstimateVerdict
most = bits 0x7FEF_FFFF_FFFF_FFFF

pub record Ended : Type 0 where
  -- AlwaysUse at once beats every ratio; of two the first
  pub over_earlier : chosen (at_once 30 most ∷ at_once 31 AlwaysUse ∷ []) ≡ Ok (31 ∷ [])
  pub over_later : chosen (at_once 31 AlwaysUse ∷ at_once 30 most ∷ []) ≡ Ok (31 ∷ [])
  pub over_called : chosen (called 30 most ∷ at_once 31 AlwaysUse ∷ []) ≡ Ok (31 ∷ [])
  pub first_of_two : chosen (at_once 30 AlwaysUse ∷ at_once 31 AlwaysUse ∷ []) ≡ Ok (30 ∷ [])
  pub at_once_of_two : chosen (called 30 AlwaysUse ∷ at_once 31 AlwaysUse ∷ []) ≡ Ok (31 ∷ [])
  -- so does a Callback's, under a mark too
  pub called_over : chosen (at_once 30 most ∷ called 31 AlwaysUse ∷ []) ≡ Ok (31 ∷ [])
  pub called_over_later : chosen (called 31 AlwaysUse ∷ called 30 most ∷ []) ≡ Ok (31 ∷ [])
  pub called_of_two : chosen (called 31 AlwaysUse ∷ called 30 AlwaysUse ∷ []) ≡ Ok (31 ∷ [])
  -- then nothing more is scored: 30 would refuse the 13
  pub refused : with_13 (refusing 30 (Deferred Sample) ∷ called 31 AlwaysUse ∷ []) ≡ Err (SchemeRefused 2 30 0 true)
  pub unrefused : with_13 (called 31 AlwaysUse ∷ refusing 30 (Deferred Sample) ∷ []) ≡ Ok (31 ∷ [])
  pub unrefused_at_once : with_13 (refusing 30 (Deferred Sample) ∷ at_once 31 AlwaysUse ∷ []) ≡ Ok (31 ∷ [])
  -- a ratio does not end it
  pub refused_later : with_13 (called 31 most ∷ refusing 30 (Deferred Sample) ∷ []) ≡ Err (SchemeRefused 2 30 0 true)

pub record Marked : Type 0 where
  -- a Callback under a mark of 2
  pub below : chosen (at_once 30 (times 2) ∷ called 31 (bits 0x3FFF_FFFF_FFFF_FFFF) ∷ []) ≡ Ok (30 ∷ [])
  pub equal : chosen (at_once 30 (times 2) ∷ called 31 (times 2) ∷ []) ≡ Ok (30 ∷ [])
  pub above : chosen (at_once 30 (times 2) ∷ called 31 (bits 0x4000_0000_0000_0001) ∷ []) ≡ Ok (31 ∷ [])
  -- the mark is the best so far, of all that answered before, and none where no ratio counts
  pub mark : chosen (at_once 30 (times 2) ∷ marked_spy 31 ∷ []) ≡ Ok (31 ∷ [])
  pub later_mark : chosen (called 30 (times 2) ∷ marked_spy 31 ∷ []) ≡ Ok (31 ∷ [])
  pub sampled_mark : chosen (sampled 30 ∷ marked_spy 31 ∷ []) ≡ Ok (31 ∷ [])
  pub other_mark : chosen (at_once 30 (times 3) ∷ marked_spy 31 ∷ []) ≡ Ok (30 ∷ [])
  pub best_mark : chosen (at_once 30 (times 2) ∷ at_once 32 (bits 0x3FF8_0000_0000_0000) ∷ marked_spy 31 ∷ []) ≡ Ok (31 ∷ [])
  pub no_mark : chosen (at_once 30 (bits 0x3FF0_0000_0000_0000) ∷ marked_spy 31 ∷ []) ≡ Ok (0 ∷ [])
  pub unasked_mark : chosen (marked_spy 31 ∷ called 30 (times 2) ∷ []) ≡ Ok (30 ∷ [])
