-- What levels do: depth, constants in and out of samples, winners that are given up, refusals from below.
use Rattle.std.specs.Prelude.{◌≡◌, ℕ, true, false, List, [], ◌∷◌, ◌++◌, replicate, None, Ok, Err, Result}
use Rattle.column.specs.declared.refusals.Refusal.{Refusal}
use Rattle.column.specs.declared.refusals.Refusal.TheVariants.{SchemeRefused}
use Rattle.column.specs.Columns.{Column}
use Rattle.node.specs.Nodes.{plain_node}
use Rattle.sample.specs.Draws.{mill, centre}
use Rattle.scheme.specs.declared.estimate.EstimateVerdict.TheVariants.{AlwaysUse}
use Rattle.scheme.specs.Meaning.{Meaning}
use Rattle.scheme.specs.Rules.{all}
use Rattle.frame.specs.Frame.{frame}
use Rattle.stern.specs.Stern.{stern}
use Rattle.banks.specs.Banks.{house, trial}
use Rattle.levels.specs.Levels.{bound, levels}
use Rattle.worked.specs.Columns.{u8, bytes, pairs, forms_of}
use Rattle.worked.specs.Schemes.{times, bits, at_once, sampled, refusing_below, in_sample, wrap, try_wrap, twin, rule, pulling}

-- ---- how many levels

-- seven wraps and Frame
abbrev pub eight_schemes : List Meaning
eight_schemes = wrap 50 ∷ wrap 51 ∷ wrap 52 ∷ wrap 53 ∷ wrap 54 ∷ wrap 55 ∷ wrap 56 ∷ frame ∷ []

abbrev pub wrapped_at : ℕ → Result (List ℕ) Refusal
wrapped_at l = forms_of (bound eight_schemes mill l pairs)

pub record Depths : Type 0 where
  -- Frame is reached at the eighth; without it nothing is lighter than plain
  pub eight : wrapped_at 8 ≡ Ok (50 ∷ 51 ∷ 52 ∷ 53 ∷ 54 ∷ 55 ∷ 56 ∷ 18 ∷ [])
  pub seven : wrapped_at 7 ≡ Ok (0 ∷ [])
  -- the ground binds plain, whatever the column
  pub ground_pairs : bound house mill 0 pairs ≡ Ok (plain_node pairs)
  pub ground_sevens : bound house mill 0 (bytes (7 ∷ 7 ∷ [])) ≡ Ok (plain_node (bytes (7 ∷ 7 ∷ [])))
  pub ground_blank : bound house mill 0 (u8 (None ∷ [])) ≡ Ok (plain_node (u8 (None ∷ [])))
  pub ground_empty : bound house mill 0 (u8 []) ≡ Ok (plain_node (u8 []))
  pub one : forms_of (bound house mill 1 pairs) ≡ Ok (18 ∷ [])
  pub one_sevens : forms_of (bound house mill 1 (bytes (7 ∷ 7 ∷ []))) ≡ Ok (1 ∷ [])

-- ---- lighter than plain

pub record Lighter : Type 0 where
  -- Frame takes a byte for the least value and a byte for up to eight bits
  pub equal : forms_of (bound house mill 4 (bytes (1 ∷ 2 ∷ []))) ≡ Ok (0 ∷ [])
  pub less : forms_of (bound house mill 4 (bytes (1 ∷ 1 ∷ 2 ∷ []))) ≡ Ok (18 ∷ [])
  pub more : forms_of (bound (at_once 30 AlwaysUse ∷ []) mill 4 (bytes (0 ∷ 255 ∷ []))) ≡ Ok (0 ∷ [])
  -- no other scheme takes the winner's place
  pub given_up : forms_of (bound (wrap 50 ∷ []) mill 4 pairs) ≡ Ok (0 ∷ [])
  pub no_second : forms_of (bound (stern ∷ at_once 30 (times 999) ∷ []) mill 4 pairs) ≡ Ok (0 ∷ [])
  pub second : forms_of (bound (at_once 30 (times 1001) ∷ stern ∷ []) mill 4 pairs) ≡ Ok (30 ∷ [])
  -- a constant column is plain where it is no lighter, and no scheme is asked
  pub one_value : forms_of (bound (at_once 30 AlwaysUse ∷ []) mill 4 (bytes (7 ∷ []))) ≡ Ok (0 ∷ [])
  pub two_values : forms_of (bound (at_once 30 AlwaysUse ∷ []) mill 4 (bytes (7 ∷ 7 ∷ []))) ≡ Ok (1 ∷ [])
  pub many_values : forms_of (bound trial mill 4 (bytes (13 ∷ 13 ∷ []))) ≡ Ok (1 ∷ [])

-- ---- samples

-- 1,025 sevens but for an 8, which the middle of the first stratum leaves out
abbrev pub but_one : Column
but_one = bytes (replicate 64 7 ++ (8 ∷ replicate 960 7))

-- 1, 1, 1, 1, 13, 13, 13, 13
abbrev pub two_runs : Column
two_runs = bytes (replicate 4 1 ++ replicate 4 13)

pub record Sampled : Type 0 where
  -- all equal: constant outside a sample; in one the schemes are asked
  pub outside : forms_of (levels house mill 4 (bytes (7 ∷ 7 ∷ [])) [] false) ≡ Ok (1 ∷ [])
  pub inside : forms_of (levels house mill 4 (bytes (7 ∷ 7 ∷ [])) [] true) ≡ Ok (0 ∷ [])
  pub inside_won : forms_of (levels (at_once 30 AlwaysUse ∷ []) mill 4 (bytes (7 ∷ 7 ∷ [])) [] true) ≡ Ok (30 ∷ [])
  pub blanks_inside : forms_of (levels house mill 4 (u8 (None ∷ [])) [] true) ≡ Ok (2 ∷ [])
  pub empty_inside : forms_of (levels house mill 4 (u8 []) [] true) ≡ Ok (0 ∷ [])
  -- a wrap's sample is all sevens: no lighter than plain, so it does not count, and Frame wins
  pub constant_sample : forms_of (bound (try_wrap 50 ∷ frame ∷ []) centre 4 but_one) ≡ Ok (18 ∷ [])
  -- Frame's parts are 1 byte of the sample's 1,024, and 130 of the column's 1,025: a sample is not sampled again
  pub by_sample : forms_of (bound (sampled 30 ∷ at_once 31 (times 100) ∷ []) centre 1 but_one) ≡ Ok (30 ∷ [])
  pub sampled_once : forms_of (levels (sampled 30 ∷ at_once 31 (times 100) ∷ []) centre 1 but_one [] true) ≡ Ok (31 ∷ [])
  -- the flag goes down with a sample, which 70 makes lighter: so the wrap has a score of 2, and then is no lighter than plain
  pub flag_wins : forms_of (bound (try_wrap 50 ∷ in_sample 70 ∷ pulling 30 (bits 0x3FFF_FFFF_FFFF_FFFF) (rule 50 all ∷ []) ∷ []) mill 4 pairs) ≡ Ok (0 ∷ [])
  pub flag_loses : forms_of (bound (try_wrap 50 ∷ in_sample 70 ∷ pulling 30 (times 2) (rule 50 all ∷ []) ∷ []) mill 4 pairs) ≡ Ok (30 ∷ [])
  pub flagged : forms_of (levels (try_wrap 50 ∷ in_sample 70 ∷ []) mill 4 pairs [] true) ≡ Ok (70 ∷ [])

-- ---- refusals from below

pub record Refused : Type 0 where
  -- Runs is scored by its first values, 1 and 13, which Stern refuses
  pub in_sample : bound trial mill 4 two_runs ≡ Err (SchemeRefused 1 19 1 true)
  pub with_one_level : bound trial mill 1 two_runs ≡ Err (SchemeRefused 4 19 0 false)
  pub in_child : bound (wrap 50 ∷ refusing_below 30 50 0 ∷ []) mill 4 (bytes (1 ∷ 13 ∷ [])) ≡ Err (SchemeRefused 1 30 1 true)
  -- a child's row, its level, and no flag outside a sample
  pub child : bound (wrap 50 ∷ stern ∷ []) mill 4 (bytes (1 ∷ 13 ∷ [])) ≡ Err (SchemeRefused 1 19 1 false)
  pub grandchild : bound (wrap 50 ∷ wrap 51 ∷ stern ∷ []) mill 4 (bytes (1 ∷ 13 ∷ [])) ≡ Err (SchemeRefused 1 19 2 false)
  -- child 0 first: child 1 is refused at row 0
  pub first_child : bound (twin 50 ∷ stern ∷ []) mill 4 (bytes (1 ∷ 13 ∷ [])) ≡ Err (SchemeRefused 1 19 1 false)
  pub second_child : bound (twin 50 ∷ stern ∷ []) mill 4 (bytes (1 ∷ 2 ∷ [])) ≡ Err (SchemeRefused 0 19 1 false)
  -- a scheme that is not reached, or does not win, refuses nothing
  pub unreached : bound (wrap 50 ∷ wrap 51 ∷ stern ∷ []) mill 2 (bytes (1 ∷ 13 ∷ [])) ≡ Ok (plain_node (bytes (1 ∷ 13 ∷ [])))
  pub loser : forms_of (bound (at_once 30 (times 1001) ∷ stern ∷ []) mill 4 (bytes (1 ∷ 1 ∷ 13 ∷ 13 ∷ []))) ≡ Ok (30 ∷ [])
