-- What Stern's meaning gives on worked cases.
use Rattle.std.specs.Prelude.{◌≡◌, List, [], ◌∷◌, Some, None, Ok, Err, from_bits}
use Rattle.std.specs.Float.{binary64}
use Rattle.column.specs.Columns.{Row, Column, cleaned}
use Rattle.scheme.specs.Scores.{ratio_of}
use Rattle.stern.specs.Stern.{stern}

-- a column of u8
abbrev pub bytes : List Row → Column
bytes rs = record { kind = 0; rows = rs }

-- 13 under a blank
abbrev pub hidden : Column
hidden = cleaned (record { kind = 0; cells = 1 ∷ (13 ∷ []); words = 1 ∷ [] })

pub record Cases : Type 0 where
  -- refused at the first 13, and by no value beside it
  pub second : stern.parts (bytes (Some 1 ∷ (Some 13 ∷ []))) ≡ Err 1
  pub first : stern.refuses (bytes (Some 13 ∷ (Some 13 ∷ []))) ≡ Some 0
  pub below : stern.refuses (bytes (Some 12 ∷ [])) ≡ None
  pub above : stern.refuses (bytes (Some 14 ∷ [])) ≡ None
  -- a 13 that is no value does not count
  pub unseen : stern.parts hidden ≡ Ok (record { payload = 1 ∷ (0 ∷ (1 ∷ [])); cell_bits = 8; flag = 1; children = [] })
  -- the ratio by its bits
  pub thousand : ratio_of 1000 1 ≡ from_bits binary64 0x408F_4000_0000_0000
