-- The column 700 four times, 900 four times, 700 four times, of u16; and a column turned away.
use Rattle.std.specs.Prelude.{◌≡◌, ℕ, false, List, [], ◌∷◌, ◌++◌, Some, None, Ok}
use Rattle.column.specs.declared.refusals.Refusal.TheVariants.{ValueOutside}
use Rattle.column.specs.Columns.{Column, Offer, offer_refused, cleaned}
use Rattle.column.specs.Refusals.{said}
use Rattle.node.specs.Nodes.{flat}
use Rattle.levels.specs.Plans.{node_count}
use Rattle.worked.specs.Columns.{u8, u16, all, of_node, forms_of, weight_of, wholes}
use Rattle.worked.specs.Starred.{housed}

abbrev pub twelve : Column
twelve = u16 (all (700 ∷ 700 ∷ 700 ∷ 700 ∷ 900 ∷ 900 ∷ 900 ∷ 900 ∷ 700 ∷ 700 ∷ 700 ∷ 700 ∷ []))

-- the dictionary, over its values as they are, and over its codes at one bit
abbrev pub dict_head : List ℕ
dict_head = 16 ∷ 1 ∷ 0 ∷ 0 ∷ 12 ∷ 0 ∷ 0 ∷ 0 ∷ 0 ∷ 0 ∷ 0 ∷ 0 ∷ 55 ∷ 0 ∷ 0 ∷ 0 ∷ []

abbrev pub value_bytes : List ℕ
value_bytes = 0 ∷ 1 ∷ 16 ∷ 0 ∷ 2 ∷ 0 ∷ 0 ∷ 0 ∷ 4 ∷ 0 ∷ 0 ∷ 0 ∷ 20 ∷ 0 ∷ 0 ∷ 0 ∷ 188 ∷ 2 ∷ 132 ∷ 3 ∷ []

abbrev pub code_bytes : List ℕ
code_bytes = 18 ∷ 0 ∷ 1 ∷ 0 ∷ 12 ∷ 0 ∷ 0 ∷ 0 ∷ 3 ∷ 0 ∷ 0 ∷ 0 ∷ 19 ∷ 0 ∷ 0 ∷ 0 ∷ 0 ∷ 240 ∷ 0 ∷ []

pub record Printed : Type 0 where
  pub forms : forms_of (housed twelve) ≡ Ok (16 ∷ 0 ∷ 18 ∷ [])
  pub wholes : of_node wholes (housed twelve) ≡ Ok (55 ∷ 20 ∷ 19 ∷ [])
  pub weight : weight_of (housed twelve) ≡ Ok 7
  pub nodes : of_node node_count (housed twelve) ≡ Ok 3
  pub flat : of_node flat (housed twelve) ≡ Ok (dict_head ++ (value_bytes ++ code_bytes))

-- u8 256 with a presence word: 1 for a value, 0 for a blank
abbrev pub outside : ℕ → Offer
outside w = record { kind = 0; cells = 256 ∷ []; words = w ∷ [] }

pub record TurnedAway : Type 0 where
  pub value : offer_refused (outside 1) ≡ Some (ValueOutside 0)
  pub said : said (ValueOutside 0) ≡ record { number = 5; row = 0; scheme = 0; level = 0; sample = false }
  pub hidden : offer_refused (outside 0) ≡ None
  pub blank : cleaned (outside 0) ≡ u8 (None ∷ [])
