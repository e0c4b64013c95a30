-- Columns bound with the house bank or the trial bank, Mill and four levels.
use Rattle.std.specs.Prelude.{◌≡◌, true, false, [], ◌∷◌, replicate, Some, None, Ok, Err, from_bits}
use Rattle.std.specs.Float.{binary64}
use Rattle.column.specs.declared.refusals.Refusal.TheVariants.{SchemeRefused}
use Rattle.column.specs.Columns.{Column}
use Rattle.column.specs.Refusals.{said}
use Rattle.stats.specs.Stats.{stats}
use Rattle.node.specs.Nodes.{plain_node, constant_node, blank_node, weight, whole}
use Rattle.sample.specs.Draws.{mill}
use Rattle.sample.specs.Samples.{sample_count}
use Rattle.sample.specs.Laws.{sizes, stratum_at}
use Rattle.scheme.specs.declared.estimate.CompressionEstimate.{CompressionEstimate}
use Rattle.scheme.specs.declared.estimate.CompressionEstimate.TheVariants.{Verdict}
use Rattle.scheme.specs.declared.estimate.EstimateVerdict.TheVariants.{Skip, Ratio}
use Rattle.scheme.specs.Scores.{ratio_of}
use Rattle.dict.specs.Dict.{dict}
use Rattle.frame.specs.Frame.{frame}
use Rattle.banks.specs.Banks.{house, trial}
use Rattle.levels.specs.Levels.{Bound, bound, ground, scheme_bound}
use Rattle.worked.specs.Columns.{u8, bytes, pairs, forms_of, weight_of}

abbrev pub housed : Column → Bound
housed c = bound house mill 4 c

abbrev pub tried : Column → Bound
tried c = bound trial mill 4 c

-- Dict's answer by the column's own statistics
abbrev pub dict_answer : Column → CompressionEstimate
dict_answer c = dict.answer c (stats true c) [] false

pub record Plainly : Type 0 where
  -- no row, a blank, a value
  pub no_row : housed (u8 []) ≡ Ok (plain_node (u8 []))
  pub no_row_whole : whole (plain_node (u8 [])) ≡ 16
  pub blank : housed (u8 (None ∷ [])) ≡ Ok (blank_node (u8 (None ∷ [])))
  pub blank_whole : whole (blank_node (u8 (None ∷ []))) ≡ 16
  pub seven : housed (bytes (7 ∷ [])) ≡ Ok (plain_node (bytes (7 ∷ [])))
  pub seven_weight : weight (plain_node (bytes (7 ∷ []))) ≡ 1
  -- two sevens, and a seven with a blank
  pub sevens : housed (bytes (7 ∷ 7 ∷ [])) ≡ Ok (constant_node (bytes (7 ∷ 7 ∷ [])))
  pub sevens_whole : whole (constant_node (bytes (7 ∷ 7 ∷ []))) ≡ 17
  pub masked : housed (u8 (Some 7 ∷ None ∷ [])) ≡ Ok (constant_node (u8 (Some 7 ∷ None ∷ [])))
  pub masked_weight : weight (constant_node (u8 (Some 7 ∷ None ∷ []))) ≡ 2

pub record Answered : Type 0 where
  -- four values, two of them distinct; five, three distinct
  pub dict : dict_answer pairs ≡ Verdict (Ratio (ratio_of 32 24))
  pub dict_ratio : ratio_of 32 24 ≡ from_bits binary64 0x3FF5_5555_5555_5555
  pub dict_skips : dict_answer (bytes (1 ∷ 1 ∷ 2 ∷ 3 ∷ 3 ∷ [])) ≡ Verdict Skip
  -- 1,025 rows: a stratum of 65, then fifteen of 64
  pub count : sample_count 1025 ≡ 16
  pub sizes : sizes 1025 (sample_count 1025) ≡ 65 ∷ replicate 15 64
  pub first : stratum_at 1025 16 0 ≡ (0, 65)
  pub last : stratum_at 1025 16 15 ≡ (961, 1025)

pub record Tried : Type 0 where
  -- Stern wins with 1000 and is no lighter than plain; the house bank has Frame
  pub plain : tried pairs ≡ Ok (plain_node pairs)
  pub frame : weight_of (scheme_bound ground frame pairs [] false) ≡ Ok 2
  pub housed : forms_of (housed pairs) ≡ Ok (18 ∷ [])
  -- a 13 is refused at its row
  pub refused : tried (bytes (1 ∷ 13 ∷ [])) ≡ Err (SchemeRefused 1 19 0 false)
  pub said : said (SchemeRefused 1 19 0 false) ≡ record { number = 8; row = 1; scheme = 19; level = 0; sample = false }

pub record Starred : Type 0 where
  pub plainly : Plainly
  pub answered : Answered
  pub tried : Tried
