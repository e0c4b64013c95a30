-- What compressing a column answers and leaves, and the law of it in the subject's words.
use Rattle.std.specs.Prelude.{◌≡◌, ℕ, ◌<◌, ◌≤◌, false, ◌⊎◌, List, [], length, Ok, Err, Result}
use Rattle.packing.specs.Packing.{written}
use Rattle.column.specs.declared.refusals.Refusal.{Refusal}
use Rattle.column.specs.declared.refusals.Refusal.TheVariants.{LittleSpace}
use Rattle.column.specs.Columns.{Column}
use Rattle.node.specs.Nodes.{Node, flat, whole, weight, plain_node}
use Rattle.sample.specs.Draws.{Source}
use Rattle.scheme.specs.Meaning.{Meaning}
use Rattle.levels.specs.Levels.{Bound}
use Rattle.levels.specs.Standing.{Stands}
use Rattle.holds.specs.Refusing.{Refuses}
use Rattle.calls.specs.Openings.{Setting}

abbrev pub setting : List Meaning → Source → ℕ → Setting
setting ms d l = record { opening = record { bank = ms; source = d }; levels = l }

-- the node's whole length
abbrev pub whole_of : Bound → Result ℕ Refusal
whole_of (Ok n) = Ok (whole n)
whole_of (Err e) = Err e

-- the node's bytes, then what stood there; a refusal changes nothing
abbrev pub bytes_after : Bound → List ℕ → List ℕ
bytes_after (Ok n) old = written (flat n) old
bytes_after (Err e) old = old

-- a node that stands for the column, and is no heavier than plain
pub record Standing (set : Setting) (c : Column) : Type 0 where
  pub node : Node
  pub stands : Stands set.opening false set.levels c [] node
  pub light : weight node ≤ weight (plain_node c)

-- granted: the node that stands was written. Refused: nothing was, since a scheme refuses its parts of a column that this one comes to, or
-- since the node that stands is longer than the bytes
abbrev pub Compressed : Setting → Column → Result ℕ Refusal → List ℕ → List ℕ → Type 0
Compressed set c (Ok k) old new = (s : Standing set c) × ((k ≡ whole s.node) × (new ≡ written (flat s.node) old))
Compressed set c (Err e) old new =
    (new ≡ old) × (Refuses set.opening.bank set.opening.source set.levels c [] false e ⊎ ((e ≡ LittleSpace) × ((s : Standing set c) × (length old < whole s.node))))
