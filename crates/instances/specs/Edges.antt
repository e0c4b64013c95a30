-- Each number and each order of the refusals of an opening and of the calls, on both sides of its edge.
use Rattle.std.specs.Prelude.{◌≡◌, ℕ, zero, suc, false, List, [], ◌∷◌, replicate, Some, None, Ok, Err, Option, Result}
use Rattle.column.specs.declared.refusals.Refusal.{Refusal}
use Rattle.column.specs.declared.refusals.Refusal.TheVariants.{BadOpening, UnknownKind, LittleMemory, ManyColumns, SchemeRefused, LittleSpace, UnknownColumn, ShortBuffers}
use Rattle.column.specs.Columns.{Offer}
use Rattle.sample.specs.Draws.{mill}
use Rattle.scheme.specs.Meaning.{Meaning}
use Rattle.stern.specs.Stern.{stern}
use Rattle.banks.specs.Banks.{house, trial}
use Rattle.calls.specs.Openings.{Setting, open_refused}
use Rattle.calls.specs.Calls.{State, Lent, taken, bind_reply, short_by, weigh_reply}
use Rattle.instances.specs.Settings.{setting_of}
use Rattle.instances.specs.Witness.{four_levels, seven_blank, seven_bytes}

-- ---- opening

abbrev pub of_id : ℕ → Meaning
of_id i = record stern { id = i }

-- n schemes with ids from i on
abbrev pub schemes_from : ℕ → ℕ → List Meaning
schemes_from i zero = []
schemes_from i (suc n) = of_id i ∷ schemes_from (suc i) n

abbrev pub opening : List Meaning → ℕ → Option Refusal
opening ms l = open_refused (setting_of ms mill l)

pub record OpeningEdges : Type 0 where
  pub eight_schemes : opening (schemes_from 16 8) 4 ≡ None
  pub nine_schemes : opening (schemes_from 16 9) 4 ≡ Some BadOpening
  pub no_scheme : opening [] 4 ≡ None
  pub eight_levels : opening house 8 ≡ None
  pub nine_levels : opening house 9 ≡ Some BadOpening
  pub lowest_id : opening (of_id 16 ∷ []) 4 ≡ None
  pub too_low : opening (of_id 15 ∷ []) 4 ≡ Some BadOpening
  pub highest_id : opening (of_id 255 ∷ []) 4 ≡ None
  pub too_high : opening (of_id 256 ∷ []) 4 ≡ Some BadOpening
  pub twice : opening (of_id 20 ∷ (of_id 21 ∷ (of_id 20 ∷ []))) 4 ≡ Some BadOpening

-- ---- bind: seven_blank takes 18 bytes and 2680 words

-- so many columns held, in no byte, and so many bytes free
abbrev pub holding : ℕ → ℕ → State
holding k free = record { count = k; used = 0; bytes = replicate free 0 }

abbrev pub answer : Setting → State → Offer → ℕ → Result ℕ Refusal
answer set s o m = bind_reply s (taken set s o m)

abbrev pub trial_levels : Setting
trial_levels = setting_of trial mill 4

-- u8 1 and 13, which Stern refuses
abbrev pub thirteen : Offer
thirteen = record { kind = 0; cells = 1 ∷ 13 ∷ []; words = 3 ∷ [] }

abbrev pub of_kind : ℕ → Offer
of_kind k = record { kind = k; cells = 7 ∷ 99 ∷ []; words = 1 ∷ [] }

pub record BindEdges : Type 0 where
  pub memory : answer four_levels (holding 0 18) seven_blank 2680 ≡ Ok 0
  pub little_memory : answer four_levels (holding 0 18) seven_blank 2679 ≡ Err LittleMemory
  pub columns : answer four_levels (holding 63 18) seven_blank 2680 ≡ Ok 63
  pub many_columns : answer four_levels (holding 64 18) seven_blank 2680 ≡ Err ManyColumns
  pub little_space : answer four_levels (holding 0 17) seven_blank 2680 ≡ Err LittleSpace
  pub used_space : answer four_levels (record { count = 1; used = 1; bytes = replicate 18 0 }) seven_blank 2680 ≡ Err LittleSpace
  pub refused : answer trial_levels (holding 0 99) thirteen 2680 ≡ Err (SchemeRefused 1 19 0 false)
  -- the first that applies
  pub kind_first : answer four_levels (holding 64 17) (of_kind 8) 2679 ≡ Err UnknownKind
  pub memory_first : answer trial_levels (holding 64 17) thirteen 2679 ≡ Err LittleMemory
  pub columns_first : answer trial_levels (holding 64 17) thirteen 2680 ≡ Err ManyColumns
  pub scheme_first : answer trial_levels (holding 0 0) thirteen 2680 ≡ Err (SchemeRefused 1 19 0 false)

-- ---- fetch and weigh

-- so many cells and presence words lent
abbrev pub lent : ℕ → ℕ → Lent
lent c w = record { cells = replicate c 9; words = replicate w 9 }

-- 64 and 65 rows take 6400 and 6460 words
pub record FetchEdges : Type 0 where
  pub enough : short_by four_levels 64 (lent 64 1) 6400 ≡ None
  pub few_cells : short_by four_levels 64 (lent 63 1) 6400 ≡ Some ShortBuffers
  pub few_words : short_by four_levels 64 (lent 64 0) 6400 ≡ Some ShortBuffers
  pub one_more_row : short_by four_levels 65 (lent 65 1) 6460 ≡ Some ShortBuffers
  pub little_memory : short_by four_levels 64 (lent 64 1) 6399 ≡ Some LittleMemory
  pub more_levels : short_by (setting_of house mill 5) 64 (lent 64 1) 7679 ≡ Some LittleMemory
  pub places_first : short_by four_levels 64 (lent 63 1) 6399 ≡ Some ShortBuffers

pub record WeighEdges : Type 0 where
  pub last : weigh_reply four_levels (record { count = 1; used = 18; bytes = seven_bytes }) 0 ≡ Ok (record { weight = 2; whole = 18 })
  pub past_last : weigh_reply four_levels (record { count = 1; used = 18; bytes = seven_bytes }) 1 ≡ Err UnknownColumn

pub record Edges : Type 0 where
  pub openings : OpeningEdges
  pub binds : BindEdges
  pub fetches : FetchEdges
  pub weighs : WeighEdges
