-- The nodes of a tree, each before its children, child 0 first: the order of their bytes.
use Rattle.std.specs.Prelude.{ℕ, zero, suc, ◌+◌, ◌-◌, List, [], ◌∷◌, ◌++◌, length, Some, None, Option}
use Rattle.node.specs.declared.heads.Header.{Header}
use Rattle.node.specs.Nodes.{Node, leaf, over, fork, head_size, whole}
use Rattle.node.specs.Reading.{payload_read, after_payload, own_bytes, after_node, header_read, header_of}
use Rattle.tree.specs.declared.Entry.{Entry}

abbrev pub entry : ℕ → ℕ → Header → Entry
entry l i h = record { level = l; at = i; header = h }

-- of a node at level l whose bytes begin at i
abbrev pub preorder : ℕ → ℕ → Node → List Entry
preorder l i (leaf h p) = entry l i (header_of (leaf h p)) ∷ []
preorder l i (over h p a) = entry l i (header_of (over h p a)) ∷ preorder (l + 1) (i + head_size + length p) a
preorder l i (fork h p a b) =
    entry l i (header_of (fork h p a b))
    ∷ (preorder (l + 1) (i + head_size + length p) a ++ preorder (l + 1) (i + head_size + length p + whole a) b)

-- ---- over any bytes

-- no entry where there is no header
abbrev pub entry_read : ℕ → ℕ → Option Header → List Entry
entry_read l i None = []
entry_read l i (Some h) = entry l i h ∷ []

-- what follows the payload of the node at the front, and where that begins
abbrev pub below : List ℕ → List ℕ
below bs = after_payload (own_bytes bs)

abbrev pub below_at : ℕ → List ℕ → ℕ
below_at i bs = i + head_size + length (payload_read (own_bytes bs))

-- where the node after the one at the front begins
abbrev pub next_at : ℕ → List ℕ → ℕ
next_at i bs = i + (length bs - length (after_node bs))

-- the node at the front with at most d levels below it
abbrev pub walked : ℕ → ℕ → ℕ → List ℕ → List Entry
walked zero l i bs = entry_read l i (header_read bs)
walked (suc d) l i bs =
    entry_read l i (header_read bs)
    ++ (walked d (l + 1) (below_at i bs) (below bs) ++ walked d (l + 1) (next_at (below_at i bs) (below bs)) (after_node (below bs)))

-- two nodes, one after the other
abbrev pub children_walked : ℕ → ℕ → ℕ → List ℕ → List Entry
children_walked d l i bs = walked d l i bs ++ walked d l (next_at i bs) (after_node bs)
