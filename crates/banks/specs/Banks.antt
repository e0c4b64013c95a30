-- The two banks, by the meanings of their schemes.
use Rattle.std.specs.Prelude.{◌≡◌, List, [], ◌∷◌, map}
use Rattle.scheme.specs.Meaning.{Meaning}
use Rattle.scheme.specs.Banks.{AllKeep}
use Rattle.dict.specs.Dict.{dict}
use Rattle.runs.specs.Runs.{run_length}
use Rattle.frame.specs.Frame.{frame}
use Rattle.stern.specs.Stern.{stern}

-- what the binder is used with
abbrev pub house : List Meaning
house = dict ∷ (run_length ∷ (frame ∷ []))

-- the same behind Stern, for trials
abbrev pub trial : List Meaning
trial = stern ∷ house

-- every scheme of both keeps its laws
pub record Kept : Type 0 where
  pub house-keeps : AllKeep house
  pub trial-keeps : AllKeep trial
  pub house-ids : map (λ m. m.id) house ≡ 16 ∷ (17 ∷ (18 ∷ []))
  pub trial-ids : map (λ m. m.id) trial ≡ 19 ∷ (16 ∷ (17 ∷ (18 ∷ [])))
