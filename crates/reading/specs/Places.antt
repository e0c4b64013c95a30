-- What the steps of reading leave in lent places, whatever stands under blanks and in spare bits.
use Rattle.std.specs.Prelude.{◌≡◌, ℕ, ◌+◌, ◌≤◌, Bool, ◌&&◌, List, [], ◌∷◌, ◌++◌, length, take, drop, Some, None, Option, nat_le}
use Rattle.std.specs.List.{AllByRecursion}
use Rattle.column.specs.declared.kinds.Kind.{Kind}
use Rattle.column.specs.Kinds.{number_of}
use Rattle.column.specs.Columns.{Column, Offer, Clean, cleaned, words_for}
use Rattle.node.specs.Nodes.{Node, head_of, payload_of, children_of, flats, Fit}
use Rattle.scheme.specs.Meaning.{Meaning, Parts, AllClean, NoLonger}
use Rattle.scheme.specs.Memory.{held}
use Rattle.scheme.specs.Banks.{at}
use Rattle.levels.specs.NodesOf.{Each, SchemeOf, NodeOf}
use Rattle.levels.specs.Openings.{Opened}
use Rattle.levels.specs.Plans.{share, room}
use Rattle.reading.specs.declared.restored.Restored.{Restored}
use Rattle.reading.specs.declared.nodes.Own.{Own}
use Rattle.reading.specs.Reads.{Begins, Space}

-- no more rows than a column may have, and places for them
abbrev pub rows_fit : ℕ → ℕ → ℕ → Bool
rows_fit n c w = nat_le n 131072 && (nat_le n c && nat_le (words_for n) w)

-- the rows at the fronts of the places
abbrev pub offer_read : Restored → List ℕ → List ℕ → Offer
offer_read r cs ws = record { kind = number_of r.kind; cells = take r.rows cs; words = take (words_for r.rows) ws }

abbrev pub column_read : Restored → List ℕ → List ℕ → Column
column_read r cs ws = cleaned (offer_read r cs ws)

-- ---- a node

-- n rows fit, and what lies beyond them is as it was
pub record Beyond (n : ℕ) (old_cells old_words new_cells new_words : List ℕ) : Type 0 where
  pub cells_fit : n ≤ length old_cells
  pub words_fit : words_for n ≤ length old_words
  pub cells : drop n new_cells ≡ drop n old_cells
  pub words : drop (words_for n) new_words ≡ drop (words_for n) old_words

abbrev pub Same : List ℕ → List ℕ → List ℕ → List ℕ → Type 0
Same old_cells old_words new_cells new_words = (new_cells ≡ old_cells) × (new_words ≡ old_words)

abbrev pub NodeIn : Option Restored → List ℕ → List ℕ → List ℕ → List ℕ → Type 0
NodeIn (Some r) old_cells old_words new_cells new_words = Beyond r.rows old_cells old_words new_cells new_words
NodeIn None old_cells old_words new_cells new_words = Same old_cells old_words new_cells new_words

abbrev pub NodeGives : Column → Option Restored → List ℕ → List ℕ → Type 0
NodeGives c (Some r) cs ws = column_read r cs ws ≡ c
NodeGives c None cs ws = ⊥

abbrev pub NodeBack : List Meaning → ℕ → List ℕ → List ℕ → List ℕ → List ℕ → Option Restored → List ℕ → List ℕ → Type 0
NodeBack ms l bytes mem old_cells old_words r cs ws =
    Opened ms → (c : Column) → Clean c → Begins ms l c bytes → Space l (length c.rows) mem old_cells old_words → NodeGives c r cs ws

-- ---- a node of a scheme, in places of its rows

abbrev pub SchemeIn : Option (Unit {0}) → List ℕ → List ℕ → List ℕ → List ℕ → Type 0
SchemeIn (Some u) old_cells old_words new_cells new_words = Unit {0}
SchemeIn None old_cells old_words new_cells new_words = Same old_cells old_words new_cells new_words

-- the head, payload and children of a node of scheme i over l levels
pub record OwnOf (ms : List Meaning) (l i : ℕ) (c : Column) (o : Own) : Type 0 where
  pub node : Node
  pub rest : List ℕ
  pub of : SchemeOf ms (NodeOf ms l) i c node
  pub fit : Fit node
  pub kind : number_of o.read.kind ≡ o.head.kind
  pub rows : o.read.rows ≡ o.head.rows
  pub head : o.head ≡ head_of node
  pub payload : o.body.payload.now ≡ payload_of node
  pub children : o.body.children.now ≡ flats (children_of node) ++ rest

abbrev pub SchemeGives : Column → Option (Unit {0}) → Kind → List ℕ → List ℕ → Type 0
SchemeGives c (Some u) k cs ws = held (number_of k) cs ws ≡ c
SchemeGives c None k cs ws = ⊥

abbrev pub SchemeBack : List Meaning → ℕ → ℕ → Own → List ℕ → Option (Unit {0}) → List ℕ → List ℕ → Type 0
SchemeBack ms l i o mem r cs ws =
    Opened ms → (c : Column) → Clean c → OwnOf ms l i c o → share (length c.rows) + room l (length c.rows) ≤ length mem → SchemeGives c r o.read.kind cs ws

-- a node's parts, its children being read
abbrev pub parts_read : Own → Column → Column → Parts
parts_read o c0 c1 = record { payload = o.body.payload.now; cell_bits = o.head.cell_bits; flag = o.head.flag; children = c0 ∷ (c1 ∷ []) }

-- ---- the children

-- the bytes begin with nodes that hold these columns, none longer than n
pub record BeginWith (ms : List Meaning) (l n : ℕ) (cs : List Column) (bytes : List ℕ) : Type 0 where
  pub nodes : List Node
  pub rest : List ℕ
  pub of : Each (NodeOf ms l) cs nodes
  pub fit : AllByRecursion Fit nodes
  pub is : bytes ≡ flats nodes ++ rest
  pub clean : AllClean cs
  pub short : NoLonger n cs

abbrev pub ChildrenIn : Option (Restored × Restored) → ℕ → ℕ → ℕ → ℕ → Type 0
ChildrenIn (Some r) c0 w0 c1 w1 = ((r.0.rows ≤ c0) × (words_for r.0.rows ≤ w0)) × ((r.1.rows ≤ c1) × (words_for r.1.rows ≤ w1))
ChildrenIn None c0 w0 c1 w1 = Unit {0}

abbrev pub ChildrenGive : ℕ → List Column → Option (Restored × Restored) → List ℕ → List ℕ → List ℕ → List ℕ → Type 0
ChildrenGive k cs (Some r) c0 w0 c1 w1 = take k (column_read r.0 c0 w0 ∷ (column_read r.1 c1 w1 ∷ [])) ≡ cs
ChildrenGive k cs None c0 w0 c1 w1 = ⊥

-- of scheme i
abbrev pub ChildrenBack : List Meaning → ℕ → ℕ → List ℕ → List ℕ → List ℕ → List ℕ → List ℕ → List ℕ → Option (Restored × Restored) → List ℕ → List ℕ → List ℕ → List ℕ → Type 0
ChildrenBack ms l i bytes mem old_cells0 old_words0 old_cells1 old_words1 r c0 w0 c1 w1 =
    Opened ms → (n : ℕ) (cs : List Column) → BeginWith ms l n cs bytes → length cs ≡ (at ms i).child_count
    → Space l n mem old_cells0 old_words0 → Space l n mem old_cells1 old_words1 → ChildrenGive (at ms i).child_count cs r c0 w0 c1 w1
