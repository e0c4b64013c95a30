-- What a binder's calls answer, at the edges of its refusals: house bank, Mill, four levels.
use Rattle.std.specs.Prelude.{◌≡◌, ℕ, List, [], ◌∷◌, map, replicate, Some, None, Ok, Err, Option, Result}
use Rattle.column.specs.declared.refusals.Refusal.{Refusal}
use Rattle.column.specs.declared.refusals.Refusal.TheVariants.{BadOpening, BadPresence, LittleMemory, ManyColumns, LittleSpace, UnknownColumn, ShortBuffers}
use Rattle.column.specs.Columns.{Offer}
use Rattle.sample.specs.Draws.{mill}
use Rattle.scheme.specs.Meaning.{Meaning}
use Rattle.banks.specs.Banks.{house}
use Rattle.calls.specs.Openings.{Setting, open_refused}
use Rattle.calls.specs.Calls.{State, Lent, opened, taken, bind_reply, bind_next, filled_with, short_by, weigh_reply}
use Rattle.worked.specs.Columns.{bytes}
use Rattle.worked.specs.Schemes.{times, at_once}

-- ---- openings

abbrev pub set_of : List Meaning → ℕ → Setting
set_of ms l = record { opening = record { bank = ms; source = mill }; levels = l }

-- schemes of these ids, with four levels
abbrev pub ids_refused : List ℕ → Option Refusal
ids_refused is = open_refused (set_of (map (λ i. at_once i (times 2)) is) 4)

pub record Opening : Type 0 where
  pub none : ids_refused [] ≡ None
  pub eight : ids_refused (16 ∷ 17 ∷ 18 ∷ 19 ∷ 20 ∷ 21 ∷ 22 ∷ 23 ∷ []) ≡ None
  pub nine : ids_refused (16 ∷ 17 ∷ 18 ∷ 19 ∷ 20 ∷ 21 ∷ 22 ∷ 23 ∷ 24 ∷ []) ≡ Some BadOpening
  pub least : ids_refused (15 ∷ []) ≡ Some BadOpening
  pub greatest : ids_refused (255 ∷ []) ≡ None
  pub past_greatest : ids_refused (256 ∷ []) ≡ Some BadOpening
  pub twice : ids_refused (16 ∷ 17 ∷ 16 ∷ []) ≡ Some BadOpening
  pub no_level : open_refused (set_of house 0) ≡ None
  pub eight_levels : open_refused (set_of house 8) ≡ None
  pub nine_levels : open_refused (set_of house 9) ≡ Some BadOpening

-- ---- calls

abbrev pub four : Setting
four = set_of house 4

-- u8 7
abbrev pub seven : Offer
seven = record { kind = 0; cells = 7 ∷ []; words = 1 ∷ [] }

-- so many columns held, and so many bytes, all free
abbrev pub holding : ℕ → ℕ → State
holding n room = record { count = n; used = 0; bytes = replicate room 0 }

-- a bind of u8 7 with so many words
abbrev pub bound_with : ℕ → State → Result ℕ Refusal
bound_with m s = bind_reply s (taken four s seven m)

-- after a bind of u8 7 into 20 bytes
abbrev pub one_bound : State
one_bound = bind_next (opened 20) (taken four (opened 20) seven 2620)

pub record Bound : Type 0 where
  pub words : bound_with 2620 (opened 100) ≡ Ok 0
  pub few_words : bound_with 2619 (opened 100) ≡ Err LittleMemory
  pub columns : bound_with 2620 (holding 63 100) ≡ Ok 63
  pub many_columns : bound_with 2620 (holding 64 100) ≡ Err ManyColumns
  pub space : bound_with 2620 (opened 17) ≡ Ok 0
  pub little_space : bound_with 2620 (opened 16) ≡ Err LittleSpace
  -- in the order of the table
  pub words_first : bound_with 2619 (holding 64 16) ≡ Err LittleMemory
  pub columns_first : bound_with 2620 (holding 64 16) ≡ Err ManyColumns
  pub offer_first : taken four (holding 64 16) (record { kind = 0; cells = 7 ∷ []; words = [] }) 0 ≡ Err BadPresence
  -- the node's bytes, then zeros; a refusal changes nothing
  pub left : one_bound ≡ record { count = 1; used = 17; bytes = 0 ∷ 0 ∷ 8 ∷ 0 ∷ 1 ∷ 0 ∷ 0 ∷ 0 ∷ 1 ∷ 0 ∷ 0 ∷ 0 ∷ 17 ∷ 0 ∷ 0 ∷ 0 ∷ 7 ∷ 0 ∷ 0 ∷ 0 ∷ [] }
  pub unaltered : bind_next one_bound (taken four one_bound seven 2620) ≡ one_bound

-- places for so many cells and so many words
abbrev pub lent : ℕ → ℕ → Lent
lent n w = record { cells = replicate n 5; words = replicate w 5 }

pub record Fetched : Type 0 where
  -- 65 rows: two words, 1,292 words a level
  pub enough : short_by four 65 (lent 65 2) 6460 ≡ None
  pub few_cells : short_by four 65 (lent 64 2) 6460 ≡ Some ShortBuffers
  pub few_presence : short_by four 65 (lent 65 1) 6460 ≡ Some ShortBuffers
  pub few_words : short_by four 65 (lent 65 2) 6459 ≡ Some LittleMemory
  pub places_first : short_by four 65 (lent 64 1) 0 ≡ Some ShortBuffers
  -- nothing is written beyond the rows
  pub filled : filled_with (bytes (7 ∷ 8 ∷ [])) (lent 3 2) ≡ record { cells = 7 ∷ 8 ∷ 5 ∷ []; words = 3 ∷ 5 ∷ [] }

pub record Weighed : Type 0 where
  pub first : weigh_reply four one_bound 0 ≡ Ok (record { weight = 1; whole = 17 })
  pub past : weigh_reply four one_bound 1 ≡ Err UnknownColumn
  pub empty : weigh_reply four (opened 20) 0 ≡ Err UnknownColumn
