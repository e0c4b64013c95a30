-- Which schemes may compete where.
use Rattle.std.specs.Prelude.{◌≡◌, ℕ, true, false, List, [], ◌∷◌, map, Ok, Result}
use Rattle.column.specs.declared.refusals.Refusal.{Refusal}
use Rattle.scheme.specs.Meaning.{Meaning, History}
use Rattle.scheme.specs.Rules.{Rule, all, one, many}
use Rattle.scheme.specs.Exclusion.{eligible}
use Rattle.sample.specs.Draws.{mill}
use Rattle.banks.specs.Banks.{house, trial}
use Rattle.levels.specs.Levels.{bound, stats_at}
use Rattle.worked.specs.Columns.{pairs, forms_of}
use Rattle.worked.specs.Schemes.{times, at_once, below_child, if_counted, wanting, wrap, rule, pushing, pulling, is_made}

-- the ids of the schemes that may compete for a u8 column
abbrev pub able : List Meaning → History → List ℕ
able ms h = map (λ m. m.id) (eligible ms 0 h)

-- 1, 1, 2, 2 with four levels
abbrev pub deep : List Meaning → Result (List ℕ) Refusal
deep ms = forms_of (bound ms mill 4 pairs)

pub record House : Type 0 where
  pub root : able house [] ≡ 16 ∷ 17 ∷ 18 ∷ []
  -- no scheme twice on a path, wherever it stands on it
  pub below_dict : able house ((16, 0) ∷ []) ≡ 17 ∷ 18 ∷ []
  pub below_codes : able house ((16, 1) ∷ []) ≡ 17 ∷ 18 ∷ []
  pub below_frame : able house ((18, 0) ∷ []) ≡ 16 ∷ 17 ∷ []
  pub below_both : able house ((16, 1) ∷ (17, 0) ∷ []) ≡ 18 ∷ []
  pub below_all : able house ((16, 1) ∷ (17, 0) ∷ (18, 0) ∷ []) ≡ []
  -- Runs excludes Dict below its child 1, and only there
  pub below_firsts : able house ((17, 0) ∷ []) ≡ 16 ∷ 18 ∷ []
  pub below_ends : able house ((17, 1) ∷ []) ≡ 18 ∷ []
  pub far_below_ends : able house ((17, 1) ∷ (40, 0) ∷ []) ≡ 18 ∷ []
  pub later_ends : able house ((40, 0) ∷ (17, 1) ∷ []) ≡ 18 ∷ []
  pub third_child : able house ((17, 2) ∷ []) ≡ 16 ∷ 18 ∷ []
  pub trial_ends : able trial ((17, 1) ∷ []) ≡ 19 ∷ 18 ∷ []
  -- the rules of a scheme that the bank lacks are not known
  pub without_runs : able (at_once 16 (times 2) ∷ []) ((17, 1) ∷ []) ≡ 16 ∷ []

-- scheme 50 over 70, where 50 pushes
abbrev pub pushed_by : List Rule → Result (List ℕ) Refusal
pushed_by rs = deep (pushing 50 rs ∷ at_once 70 (times 2) ∷ [])

-- scheme 50 over 51 over 70, where 50 pushes
abbrev pub pushed_far : List Rule → Result (List ℕ) Refusal
pushed_far rs = deep (pushing 50 rs ∷ wrap 51 ∷ at_once 70 (times 2) ∷ [])

-- scheme 50 over 70, where 70 pulls
abbrev pub pulled_by : List Rule → Result (List ℕ) Refusal
pulled_by rs = deep (wrap 50 ∷ pulling 70 (times 2) rs ∷ [])

-- scheme 50 over 51 over 70, where 70 pulls
abbrev pub pulled_far : List Rule → Result (List ℕ) Refusal
pulled_far rs = deep (wrap 50 ∷ wrap 51 ∷ pulling 70 (times 2) rs ∷ [])

-- where 70 is excluded the wraps are no lighter than plain
pub record Pushes : Type 0 where
  pub free : pushed_by [] ≡ Ok (50 ∷ 70 ∷ [])
  pub here : pushed_by (rule 70 (one 0) ∷ []) ≡ Ok (0 ∷ [])
  pub other_child : pushed_by (rule 70 (one 1) ∷ []) ≡ Ok (50 ∷ 70 ∷ [])
  pub other_scheme : pushed_by (rule 71 (one 0) ∷ []) ≡ Ok (50 ∷ 70 ∷ [])
  pub every_child : pushed_by (rule 70 all ∷ []) ≡ Ok (0 ∷ [])
  pub some_children : pushed_by (rule 70 (many (2 ∷ 0 ∷ [])) ∷ []) ≡ Ok (0 ∷ [])
  pub other_children : pushed_by (rule 70 (many (2 ∷ 1 ∷ [])) ∷ []) ≡ Ok (50 ∷ 70 ∷ [])
  pub second_rule : pushed_by (rule 71 (one 0) ∷ rule 70 (one 0) ∷ []) ≡ Ok (0 ∷ [])
  -- everywhere below that child
  pub far : pushed_far [] ≡ Ok (50 ∷ 51 ∷ 70 ∷ [])
  pub far_below : pushed_far (rule 70 (one 0) ∷ []) ≡ Ok (0 ∷ [])
  pub far_other : pushed_far (rule 70 (one 1) ∷ []) ≡ Ok (50 ∷ 51 ∷ 70 ∷ [])

pub record Pulls : Type 0 where
  pub free : pulled_by [] ≡ Ok (50 ∷ 70 ∷ [])
  pub here : pulled_by (rule 50 (one 0) ∷ []) ≡ Ok (0 ∷ [])
  pub other_child : pulled_by (rule 50 (one 1) ∷ []) ≡ Ok (50 ∷ 70 ∷ [])
  pub other_scheme : pulled_by (rule 51 (one 0) ∷ []) ≡ Ok (50 ∷ 70 ∷ [])
  pub every_child : pulled_by (rule 50 all ∷ []) ≡ Ok (0 ∷ [])
  pub some_children : pulled_by (rule 50 (many (2 ∷ 0 ∷ [])) ∷ []) ≡ Ok (0 ∷ [])
  pub other_children : pulled_by (rule 50 (many (2 ∷ 1 ∷ [])) ∷ []) ≡ Ok (50 ∷ 70 ∷ [])
  pub second_rule : pulled_by (rule 51 (one 0) ∷ rule 50 (one 0) ∷ []) ≡ Ok (0 ∷ [])
  -- any entry of the history
  pub far : pulled_far [] ≡ Ok (50 ∷ 51 ∷ 70 ∷ [])
  pub far_first : pulled_far (rule 50 (one 0) ∷ []) ≡ Ok (0 ∷ [])
  pub far_last : pulled_far (rule 51 (one 0) ∷ []) ≡ Ok (0 ∷ [])
  -- itself alone
  pub alone : able (wrap 50 ∷ pulling 70 (times 2) (rule 50 all ∷ []) ∷ at_once 71 (times 2) ∷ []) ((50, 0) ∷ []) ≡ 71 ∷ []

pub record Asked : Type 0 where
  -- only of kinds that it takes
  pub takes : map (λ m. m.id) (eligible (wanting 30 7 ∷ at_once 31 (times 2) ∷ []) 7 []) ≡ 30 ∷ 31 ∷ []
  pub other_kind : map (λ m. m.id) (eligible (wanting 30 7 ∷ at_once 31 (times 2) ∷ []) 0 []) ≡ 31 ∷ []
  -- once on a path, though it would win again
  pub once : deep (wrap 50 ∷ at_once 70 (times 2) ∷ []) ≡ Ok (50 ∷ 70 ∷ [])
  pub none_left : deep (wrap 50 ∷ []) ≡ Ok (0 ∷ [])
  -- no scheme, and none that may compete
  pub empty_bank : deep [] ≡ Ok (0 ∷ [])
  -- the history tells scheme and child
  pub below_50 : deep (wrap 50 ∷ below_child 70 50 0 ∷ []) ≡ Ok (50 ∷ 70 ∷ [])
  pub below_other : deep (wrap 50 ∷ below_child 70 51 0 ∷ []) ≡ Ok (0 ∷ [])
  pub below_second : deep (wrap 50 ∷ below_child 70 50 1 ∷ []) ≡ Ok (0 ∷ [])
  pub below_last : deep (wrap 50 ∷ wrap 51 ∷ below_child 70 51 0 ∷ []) ≡ Ok (50 ∷ 51 ∷ 70 ∷ [])
  -- distinct counts are made where a scheme that may compete wants them
  pub unwanted : deep (if_counted 30 ∷ []) ≡ Ok (0 ∷ [])
  pub wanted : deep (if_counted 30 ∷ wanting 31 0 ∷ []) ≡ Ok (30 ∷ [])
  pub wanted_of_others : deep (if_counted 30 ∷ wanting 31 7 ∷ []) ≡ Ok (0 ∷ [])
  pub house_root : is_made (stats_at house pairs []).distinct ≡ true
  pub house_below : is_made (stats_at house pairs ((16, 1) ∷ [])).distinct ≡ false
