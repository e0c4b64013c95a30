-- Columns of the worked cases, and what is read off a node.
use Rattle.std.specs.Prelude.{ℕ, List, [], ◌∷◌, ◌++◌, map, Some, Ok, Err, Result}
use Rattle.column.specs.declared.refusals.Refusal.{Refusal}
use Rattle.column.specs.Columns.{Row, Column}
use Rattle.node.specs.Nodes.{Node, leaf, over, fork, weight, whole}
use Rattle.levels.specs.Levels.{Bound}
use Rattle.levels.specs.Plans.{forms}

-- ---- columns

abbrev pub u8 : List Row → Column
u8 rs = record { kind = 0; rows = rs }

abbrev pub u16 : List Row → Column
u16 rs = record { kind = 1; rows = rs }

-- rows without a blank
abbrev pub all : List ℕ → List Row
all vs = map (λ v. Some v) vs

abbrev pub bytes : List ℕ → Column
bytes vs = u8 (all vs)

-- 1, 1, 2, 2
abbrev pub pairs : Column
pairs = bytes (1 ∷ 1 ∷ 2 ∷ 2 ∷ [])

-- ---- nodes, or the refusal in place of one

-- something of a node
abbrev pub of_node : {A : Type 0} → (Node → A) → Bound → Result A Refusal
of_node f (Ok n) = Ok (f n)
of_node f (Err e) = Err e

-- the forms in the order of the bytes
abbrev pub forms_of : Bound → Result (List ℕ) Refusal
forms_of b = of_node forms b

abbrev pub weight_of : Bound → Result ℕ Refusal
weight_of b = of_node weight b

-- whole lengths in the order of the bytes
abbrev pub wholes : Node → List ℕ
wholes (leaf h p) = whole (leaf h p) ∷ []
wholes (over h p a) = whole (over h p a) ∷ wholes a
wholes (fork h p a b) = whole (fork h p a b) ∷ (wholes a ++ wholes b)
