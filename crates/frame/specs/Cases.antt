-- What Frame's meaning gives on worked cases.
use Rattle.std.specs.Prelude.{◌≡◌, ◌-◌, ◌^◌, false, List, [], ◌∷◌, Some, None, Ok}
use Rattle.column.specs.Columns.{Row, Column}
use Rattle.stats.specs.Stats.{stats}
use Rattle.scheme.specs.declared.estimate.EstimateScore.TheVariants.{FiniteCompression}
use Rattle.scheme.specs.declared.estimate.EstimateVerdict.{EstimateVerdict}
use Rattle.scheme.specs.declared.estimate.EstimateVerdict.TheVariants.{Skip, Ratio}
use Rattle.scheme.specs.Scores.{ratio_of}
use Rattle.frame.specs.Frame.{column_bits, frame}

-- columns of u8 and of i64
abbrev pub bytes : List Row → Column
bytes rs = record { kind = 0; rows = rs }

abbrev pub longs : List Row → Column
longs rs = record { kind = 7; rows = rs }

-- the verdict at the root with no mark
abbrev pub unmarked : Column → EstimateVerdict
unmarked c = frame.verdict c (stats false c) [] false None

-- 1, 1, 2, 2
abbrev pub pairs : Column
pairs = bytes (Some 1 ∷ (Some 1 ∷ (Some 2 ∷ (Some 2 ∷ []))))

-- the least and the greatest i64
abbrev pub ends : Column
ends = longs (Some (2 ^ 63) ∷ (Some (2 ^ 63 - 1) ∷ []))

-- -1, a blank and 1
abbrev pub around : Column
around = longs (Some (2 ^ 64 - 1) ∷ (None ∷ (Some 1 ∷ [])))

pub record Cases : Type 0 where
  -- no gain at the full width, and none at no width
  pub ends_bits : column_bits ends ≡ 64
  pub ends_skip : unmarked ends ≡ Skip
  pub one_bits : column_bits (bytes (Some 7 ∷ (None ∷ (Some 7 ∷ [])))) ≡ 0
  pub one_skip : unmarked (bytes (Some 7 ∷ (None ∷ (Some 7 ∷ [])))) ≡ Skip
  pub blank_bits : column_bits (bytes (None ∷ (None ∷ []))) ≡ 0
  pub blank_skip : unmarked (bytes (None ∷ (None ∷ []))) ≡ Skip
  pub empty_bits : column_bits (bytes []) ≡ 0
  -- seven bits of eight help, eight do not
  pub narrow_verdict : unmarked (bytes (Some 0 ∷ (Some 127 ∷ []))) ≡ Ratio (ratio_of 8 7)
  pub wide_verdict : unmarked (bytes (Some 0 ∷ (Some 128 ∷ []))) ≡ Skip
  -- one bit: the least value, then four bits in a byte
  pub pairs_bits : column_bits pairs ≡ 1
  pub pairs_ratio : unmarked pairs ≡ Ratio (ratio_of 8 1)
  pub pairs_parts : frame.parts pairs ≡ Ok (record { payload = 1 ∷ (12 ∷ []); cell_bits = 1; flag = 0; children = [] })
  -- a mark not below the ratio turns it away, one below it does not
  pub at_mark : frame.verdict pairs (stats false pairs) [] false (Some (FiniteCompression (ratio_of 8 1))) ≡ Skip
  pub over_mark : frame.verdict pairs (stats false pairs) [] false (Some (FiniteCompression (ratio_of 7 1))) ≡ Ratio (ratio_of 8 1)
  -- below zero, with a blank: the least value in eight bytes, 0, 0 and 2 at two bits, the mask
  pub around_parts : frame.parts around ≡ Ok (record { payload = 255 ∷ (255 ∷ (255 ∷ (255 ∷ (255 ∷ (255 ∷ (255 ∷ (255 ∷ (32 ∷ (5 ∷ []))))))))); cell_bits = 2; flag = 1; children = [] })
