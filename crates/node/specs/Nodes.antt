-- Nodes: a head, a payload and up to two children.
use Rattle.std.specs.Prelude.{◌≡◌, ℕ, suc, ◌+◌, ◌^◌, ◌<◌, max, ◌⊎◌, List, [], ◌∷◌, ◌++◌, length}
use Rattle.std.specs.List.{AllByRecursion}
use Rattle.packing.specs.Packing.{digits}
use Rattle.column.specs.Kinds.{width}
use Rattle.column.specs.Columns.{Column, values}
use Rattle.node.specs.declared.heads.Head.{Head}
use Rattle.node.specs.Payloads.{plain_payload, constant_payload, flag_of}

-- a node with no, one or two children
pub data Node : Type 0 where
  leaf : Head → List ℕ → Node
  over : Head → List ℕ → Node → Node
  fork : Head → List ℕ → Node → Node → Node

abbrev pub head_of : Node → Head
head_of (leaf h p) = h
head_of (over h p a) = h
head_of (fork h p a b) = h

abbrev pub payload_of : Node → List ℕ
payload_of (leaf h p) = p
payload_of (over h p a) = p
payload_of (fork h p a b) = p

abbrev pub children_of : Node → List Node
children_of (leaf h p) = []
children_of (over h p a) = a ∷ []
children_of (fork h p a b) = a ∷ (b ∷ [])

-- payload length and the weights of the children
abbrev pub weight : Node → ℕ
weight (leaf h p) = length p
weight (over h p a) = length p + weight a
weight (fork h p a b) = length p + weight a + weight b

-- ---- the stored form: the head's size, its fields and the order of the parts stand here, each once

-- bytes of a head
abbrev pub head_size : ℕ
head_size = 16

-- form, kind, cell bits and mask flag, a byte each; rows, payload length and whole length, four bytes each, little-endian
abbrev pub head_bytes : Head → ℕ → ℕ → List ℕ
head_bytes h p w = h.form ∷ (h.kind ∷ (h.cell_bits ∷ (h.flag ∷ (digits 256 4 h.rows ++ (digits 256 4 p ++ digits 256 4 w)))))

-- head, payload, children
abbrev pub laid : List ℕ → List ℕ → List ℕ → List ℕ
laid head payload children = head ++ (payload ++ children)

-- whole length: head, payload and children
abbrev pub whole : Node → ℕ
whole (leaf h p) = head_size + length p
whole (over h p a) = head_size + length p + whole a
whole (fork h p a b) = head_size + length p + whole a + whole b

-- a node's bytes; child 1 begins where child 0 ends
abbrev pub flat : Node → List ℕ
flat (leaf h p) = laid (head_bytes h (length p) (whole (leaf h p))) p []
flat (over h p a) = laid (head_bytes h (length p) (whole (over h p a))) p (flat a)
flat (fork h p a b) = laid (head_bytes h (length p) (whole (fork h p a b))) p (flat a ++ flat b)

-- nodes one after the other
abbrev pub flats : List Node → List ℕ
flats [] = []
flats (n ∷ ns) = flat n ++ flats ns

-- how many levels of nodes stand below the root
abbrev pub height : Node → ℕ
height (leaf h p) = 0
height (over h p a) = suc (height a)
height (fork h p a b) = suc (max (height a) (height b))

-- ---- the three forms that need no scheme

abbrev pub plain_node : Column → Node
plain_node c = leaf (record { form = 0; kind = c.kind; cell_bits = width c.kind; flag = flag_of c.rows; rows = length c.rows }) (plain_payload c)

abbrev pub constant_node : Column → Node
constant_node c = leaf (record { form = 1; kind = c.kind; cell_bits = width c.kind; flag = flag_of c.rows; rows = length c.rows }) (constant_payload c)

abbrev pub blank_node : Column → Node
blank_node c = leaf (record { form = 2; kind = c.kind; cell_bits = 0; flag = 0; rows = length c.rows }) []

-- there is a value, and every value is the same
abbrev pub OneValue : List ℕ → Type 0
OneValue [] = ⊥
OneValue (v ∷ vs) = AllByRecursion (λ w. w ≡ v) vs

-- a node without a scheme that gives the column back
abbrev pub Bare : Column → Node → Type 0
Bare c n = (n ≡ plain_node c) ⊎ ((OneValue (values c) × (n ≡ constant_node c)) ⊎ ((values c ≡ []) × (n ≡ blank_node c)))

-- a node over its children, already bound
abbrev pub node_over : Head → List ℕ → List Node → Node
node_over h p [] = leaf h p
node_over h p (a ∷ []) = over h p a
node_over h p (a ∷ (b ∷ ns)) = fork h p a b

-- ---- nodes whose fields fit their bytes

pub record FitHead (h : Head) : Type 0 where
  pub form : h.form < 256
  pub kind : h.kind < 256
  pub bits : h.cell_bits < 256
  pub flag : h.flag < 256
  pub rows : h.rows < 2 ^ 32

abbrev pub Fit : Node → Type 0
Fit (leaf h p) = FitHead h × (whole (leaf h p) < 2 ^ 32)
Fit (over h p a) = FitHead h × (whole (over h p a) < 2 ^ 32) × Fit a
Fit (fork h p a b) = FitHead h × (whole (fork h p a b) < 2 ^ 32) × Fit a × Fit b
