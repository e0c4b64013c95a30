-- A run of seven calls with the house bank, Mill and four levels.
use Rattle.std.specs.Prelude.{ℕ, List, [], ◌∷◌, ◌++◌, replicate, Ok, Err}
use Rattle.column.specs.declared.kinds.Kind.TheVariants.{U8, U16}
use Rattle.column.specs.declared.refusals.Refusal.TheVariants.{ValueOutside, UnknownColumn}
use Rattle.column.specs.Columns.{Offer}
use Rattle.sample.specs.Draws.{mill}
use Rattle.banks.specs.Banks.{house}
use Rattle.calls.specs.Openings.{Setting}
use Rattle.calls.specs.Calls.{State, Lent, opened}
use Rattle.calls.specs.Runs.{Event, bound, fetched, weighed, Run}
use Rattle.instances.specs.Settings.{setting_of}

abbrev pub four_levels : Setting
four_levels = setting_of house mill 4

-- u8 7 and a blank, with 99 under the blank
abbrev pub seven_blank : Offer
seven_blank = record { kind = 0; cells = 7 ∷ 99 ∷ []; words = 1 ∷ [] }

-- u8 256
abbrev pub outside : Offer
outside = record { kind = 0; cells = 256 ∷ []; words = 1 ∷ [] }

abbrev pub twelve_cells : List ℕ
twelve_cells = replicate 4 700 ++ (replicate 4 900 ++ replicate 4 700)

-- u16 700 four times, 900 four times, 700 four times
abbrev pub twelve : Offer
twelve = record { kind = 1; cells = twelve_cells; words = 4095 ∷ [] }

-- ---- the binder's bytes

-- a constant with its mask
abbrev pub seven_bytes : List ℕ
seven_bytes = 1 ∷ 0 ∷ 8 ∷ 1 ∷ 2 ∷ 0 ∷ 0 ∷ 0 ∷ 2 ∷ 0 ∷ 0 ∷ 0 ∷ 18 ∷ 0 ∷ 0 ∷ 0 ∷ 7 ∷ 1 ∷ []

abbrev pub dict_bytes : List ℕ
dict_bytes = 16 ∷ 1 ∷ 0 ∷ 0 ∷ 12 ∷ 0 ∷ 0 ∷ 0 ∷ 0 ∷ 0 ∷ 0 ∷ 0 ∷ 55 ∷ 0 ∷ 0 ∷ 0 ∷ []

abbrev pub value_bytes : List ℕ
value_bytes = 0 ∷ 1 ∷ 16 ∷ 0 ∷ 2 ∷ 0 ∷ 0 ∷ 0 ∷ 4 ∷ 0 ∷ 0 ∷ 0 ∷ 20 ∷ 0 ∷ 0 ∷ 0 ∷ 188 ∷ 2 ∷ 132 ∷ 3 ∷ []

abbrev pub code_bytes : List ℕ
code_bytes = 18 ∷ 0 ∷ 1 ∷ 0 ∷ 12 ∷ 0 ∷ 0 ∷ 0 ∷ 3 ∷ 0 ∷ 0 ∷ 0 ∷ 19 ∷ 0 ∷ 0 ∷ 0 ∷ 0 ∷ 240 ∷ 0 ∷ []

-- a dictionary over its values as they are, and over its codes at one bit
abbrev pub twelve_bytes : List ℕ
twelve_bytes = dict_bytes ++ (value_bytes ++ code_bytes)

-- both nodes, and 23 bytes free
abbrev pub both : State
both = record { count = 2; used = 73; bytes = seven_bytes ++ (twelve_bytes ++ replicate 23 0) }

-- ---- the calls

-- three cells and two words, where two rows take two and one
abbrev pub small_before : Lent
small_before = record { cells = replicate 3 9; words = replicate 2 9 }

abbrev pub small_after : Lent
small_after = record { cells = 7 ∷ 0 ∷ 9 ∷ []; words = 1 ∷ 9 ∷ [] }

abbrev pub large_before : Lent
large_before = record { cells = replicate 12 9; words = 9 ∷ [] }

abbrev pub large_after : Lent
large_after = record { cells = twelve_cells; words = 4095 ∷ [] }

abbrev pub calls : List Event
calls =
    bound seven_blank 2680 (Ok 0)
    ∷ (bound outside 2680 (Err (ValueOutside 0))
    ∷ (bound twelve 3280 (Ok 1)
    ∷ (fetched 0 2680 small_before (Ok (record { kind = U8; rows = 2 })) small_after
    ∷ (fetched 1 3280 large_before (Ok (record { kind = U16; rows = 12 })) large_after
    ∷ (weighed 1 (Ok (record { weight = 7; whole = 55 }))
    ∷ (weighed 2 (Err UnknownColumn)
    ∷ []))))))

abbrev pub Witness : Type 0
Witness = Run four_levels (opened 96) calls both
