-- What a binder is opened over, and when that is refused.
use Rattle.std.specs.Prelude.{◌≡◌, ℕ, Bool, true, false, not, ◌&&◌, ◌||◌, List, [], ◌∷◌, length, None, Option, ◌==◌, nat_le}
use Rattle.column.specs.declared.refusals.Refusal.{Refusal}
use Rattle.column.specs.declared.refusals.Refusal.TheVariants.{BadOpening}
use Rattle.column.specs.Columns.{or_else}
use Rattle.scheme.specs.Meaning.{Meaning}
use Rattle.levels.specs.Standing.{Opening, Keep}

-- a bank of schemes and a source of draws, and the number of levels
pub record Setting : Type 0 where
  pub opening : Opening
  pub levels : ℕ

abbrev pub has_id : ℕ → List Meaning → Bool
has_id i [] = false
has_id i (m ∷ ms) = m.id == i || has_id i ms

-- each id is from 16 to 255 and stands once
abbrev pub ids_fit : List Meaning → Bool
ids_fit [] = true
ids_fit (m ∷ ms) = (nat_le 16 m.id && nat_le m.id 255) && (not (has_id m.id ms) && ids_fit ms)

-- at most 8 schemes, at most 8 levels, and ids that fit
abbrev pub fits : Setting → Bool
fits set = nat_le (length set.opening.bank) 8 && (nat_le set.levels 8 && ids_fit set.opening.bank)

abbrev pub open_refused : Setting → Option Refusal
open_refused set = or_else (not (fits set)) BadOpening None

-- a setting that is not refused, over schemes and draws that keep their meaning
pub record Granted (set : Setting) : Type 0 where
  pub unrefused : open_refused set ≡ None
  pub keep : Keep set.opening
