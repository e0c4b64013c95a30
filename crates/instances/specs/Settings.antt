-- The settings that the two banks and the two sources of draws make, and what the house bank takes.
use Rattle.std.specs.Prelude.{◌≡◌, ℕ, ◌≤◌, Bool, List, Ok}
use Rattle.column.specs.Columns.{Column, Clean}
use Rattle.node.specs.Nodes.{Node}
use Rattle.sample.specs.Draws.{Source, Within, mill, centre}
use Rattle.scheme.specs.Meaning.{Meaning, History}
use Rattle.levels.specs.Levels.{levels}
use Rattle.holds.specs.Refusing.{NeverRefuses}
use Rattle.banks.specs.Banks.{house, trial}
use Rattle.calls.specs.Openings.{Setting, Granted}

abbrev pub setting_of : List Meaning → Source → ℕ → Setting
setting_of ms d l = record { opening = record { bank = ms; source = d }; levels = l }

-- what is proved over every granted setting is true of these: it is not said of nothing
pub record Used (l : ℕ) : Type 0 where
  pub house_mill : Granted (setting_of house mill l)
  pub house_centre : Granted (setting_of house centre l)
  pub trial_mill : Granted (setting_of trial mill l)
  pub trial_centre : Granted (setting_of trial centre l)

abbrev pub AllUsed : Type 0
AllUsed = (l : ℕ) → l ≤ 8 → Used l

-- the house bank refuses no parts, and so binds every clean column
pub record TakesAll : Type 0 where
  pub never : NeverRefuses house
  pub binds : (d : Source) → Within d → (l : ℕ) (c : Column) → Clean c → (h : History) (f : Bool) → (n : Node) × (levels house d l c h f ≡ Ok n)
