-- What the levels refuse a column for: a scheme of the bank that refuses its parts of a column that they come to.
use Rattle.std.specs.Prelude.{◌≡◌, ℕ, suc, ◌+◌, ◌<◌, Bool, true, ◌⊎◌, List, [], ◌∷◌, length, Some, None, Ok, Err}
use Rattle.column.specs.declared.refusals.Refusal.{Refusal}
use Rattle.column.specs.declared.refusals.Refusal.TheVariants.{SchemeRefused}
use Rattle.column.specs.Columns.{Column, Clean}
use Rattle.node.specs.Nodes.{Node}
use Rattle.sample.specs.Draws.{Source, Within}
use Rattle.sample.specs.Samples.{sample_of}
use Rattle.scheme.specs.Meaning.{Meaning, Parts, History}
use Rattle.scheme.specs.Banks.{AllKeep, at}
use Rattle.levels.specs.Levels.{levels}
use Rattle.levels.specs.NodesOf.{Able}

abbrev pub Among : Column → List Column → Type 0
Among c [] = ⊥
Among c (x ∷ xs) = (c ≡ x) ⊎ Among c xs

-- the columns that binding c at level v comes to, by their level and whether they stand in a sample
pub data Reached (ms : List Meaning) (d : Source) (v : ℕ) (f : Bool) (c : Column) : ℕ → Bool → Column → Type 0 where
  itself : Reached ms d v f c v f c
  sampled : (u : ℕ) (g : Bool) (x : Column) → Reached ms d v f c u g x → Reached ms d v f c u true (sample_of d g x)
  child : (u : ℕ) (g : Bool) (x : Column) (i : ℕ) (p : Parts) (y : Column) → Reached ms d v f c u g x
      → Able ms x.kind i → (at ms i).parts x ≡ Ok p → Among y p.children → Reached ms d v f c (suc u) g y

-- e names the scheme of number `by`, which refuses a column that binding c with l levels at history h comes to
pub record Refuses (ms : List Meaning) (d : Source) (l : ℕ) (c : Column) (h : History) (f : Bool) (e : Refusal) : Type 0 where
  pub row : ℕ
  pub by : ℕ
  pub level : ℕ
  pub sample : Bool
  pub column : Column
  pub says : e ≡ SchemeRefused row (at ms by).id level sample
  pub reached : Reached ms d (length h) f c level sample column
  pub clean : Clean column
  pub able : Able ms column.kind by
  pub refuses : (at ms by).parts column ≡ Err row
  -- under the scheme's stated condition
  pub stated : (at ms by).refuses column ≡ Some row
  pub inside : row < length column.rows
  pub above : level < length h + l

-- for every bank and source that keep their meaning
abbrev pub LevelsRefuse : Type 0
LevelsRefuse =
    (ms : List Meaning) → AllKeep ms → (d : Source) → Within d → (l : ℕ) (c : Column) → Clean c → (h : History) (f : Bool) (e : Refusal)
    → levels ms d l c h f ≡ Err e → Refuses ms d l c h f e

-- no scheme of the bank refuses a clean column of a kind that it takes
abbrev pub NeverRefuses : List Meaning → Type 0
NeverRefuses ms = (i : ℕ) (c : Column) → Clean c → Able ms c.kind i → (at ms i).refuses c ≡ None

-- such a bank binds every clean column
abbrev pub LevelsTake : Type 0
LevelsTake =
    (ms : List Meaning) → AllKeep ms → NeverRefuses ms → (d : Source) → Within d → (l : ℕ) (c : Column) → Clean c → (h : History) (f : Bool)
    → (n : Node) × (levels ms d l c h f ≡ Ok n)
