-- What a scheme means: one record, a value of it for each scheme.
use Rattle.std.specs.Prelude.{◌≡◌, ℕ, ◌+◌, ◌*◌, ◌<◌, ◌≤◌, Bool, true, List, [], ◌∷◌, length, Some, None, Ok, Err, Option, Result}
use Rattle.packing.specs.Packing.{Below}
use Rattle.column.specs.Columns.{Column, Clean}
use Rattle.stats.specs.Stats.{Stats}
use Rattle.scheme.specs.declared.estimate.CompressionEstimate.{CompressionEstimate}
use Rattle.scheme.specs.declared.estimate.EstimateVerdict.{EstimateVerdict}
use Rattle.scheme.specs.declared.estimate.EstimateScore.{EstimateScore}
use Rattle.scheme.specs.Rules.{Rule}
use Rattle.scheme.specs.Scores.{marked}

-- (scheme, child), from the root down
abbrev pub History : Type 0
History = List (ℕ × ℕ)

-- what a scheme takes a column apart into
pub record Parts : Type 0 where
  pub payload : List ℕ
  pub cell_bits : ℕ
  pub flag : ℕ
  pub children : List Column

pub record Meaning : Type 0 where
  pub id : ℕ
  -- by the kind's number
  pub takes : ℕ → Bool
  -- whether distinct counts are wanted
  pub wants : Bool
  pub child_count : ℕ
  -- push: what it excludes below its children; pull: below which children it excludes itself
  pub push : List Rule
  pub pull : List Rule
  -- by column, statistics, history and sample flag
  pub answer : Column → Stats → History → Bool → CompressionEstimate
  -- what a Callback comes to, asked with a mark or with none
  pub verdict : Column → Stats → History → Bool → Option EstimateScore → EstimateVerdict
  -- the condition under which it refuses its parts, and the row that it then names
  pub refuses : Column → Option ℕ
  -- the parts, or the row at which they are refused
  pub parts : Column → Result Parts ℕ
  -- the column of kind and rows that has these parts
  pub join : ℕ → ℕ → Parts → Column

-- ---- what every scheme keeps

abbrev pub AllClean : List Column → Type 0
AllClean [] = Unit {0}
AllClean (c ∷ cs) = Clean c × AllClean cs

abbrev pub NoLonger : ℕ → List Column → Type 0
NoLonger n [] = Unit {0}
NoLonger n (c ∷ cs) = (length c.rows ≤ n) × NoLonger n cs

-- p are the parts of the column c
pub record PartsKeep (m : Meaning) (c : Column) (p : Parts) : Type 0 where
  pub joins : m.join c.kind (length c.rows) p ≡ c
  pub small : length p.payload ≤ 9 * length c.rows + 16
  pub bytes : Below 256 p.payload
  pub bits_byte : p.cell_bits < 256
  pub flag_byte : p.flag < 256
  pub kids : length p.children ≡ m.child_count
  pub kids_clean : AllClean p.children
  pub kids_short : NoLonger (length c.rows) p.children

-- the row of a refusal is one of the column, and it is refused under the stated condition
pub record RefusalKeeps (m : Meaning) (c : Column) (r : ℕ) : Type 0 where
  pub inside : r < length c.rows
  pub stated : m.refuses c ≡ Some r

abbrev pub PartedKeeps : Meaning → Column → Result Parts ℕ → Type 0
PartedKeeps m c (Ok p) = PartsKeep m c p × (m.refuses c ≡ None)
PartedKeeps m c (Err r) = RefusalKeeps m c r

pub record Keeps (m : Meaning) : Type 0 where
  pub id_byte : m.id < 256
  pub few : m.child_count ≤ 2
  -- with a mark, a ratio not above it becomes Skip; all else is as unmarked
  pub marks : (c : Column) (t : Stats) (h : History) (f : Bool) (s : EstimateScore) → m.verdict c t h f (Some s) ≡ marked (Some s) (m.verdict c t h f None)
  pub parted : (c : Column) → Clean c → m.takes c.kind ≡ true → PartedKeeps m c (m.parts c)
