-- What goes from the first pass to the second, and the working memory of both.
use Rattle.std.specs.Prelude.{ℕ, zero, suc, ◌+◌, ◌*◌, List, [], ◌∷◌, ◌++◌}
use Rattle.node.specs.Nodes.{Node, leaf, over, fork}

-- how many nodes a tree has
abbrev pub node_count : Node → ℕ
node_count (leaf h p) = 1
node_count (over h p a) = 1 + node_count a
node_count (fork h p a b) = 1 + node_count a + node_count b

-- the plan: the forms of a tree's nodes, in the order of their bytes
abbrev pub forms : Node → List ℕ
forms (leaf h p) = h.form ∷ []
forms (over h p a) = h.form ∷ forms a
forms (fork h p a b) = h.form ∷ (forms a ++ forms b)

-- how many nodes l levels can make
unfoldable pub places : ℕ → ℕ
places zero = 1
places (suc l) = 2 * places l + 1

-- words that one level takes for n rows
abbrev pub share : ℕ → ℕ
share n = 12 * n + 512

-- words that a level and those below it take: the ground takes none
abbrev pub room : ℕ → ℕ → ℕ
room l n = l * share n

-- words lent for a column of n rows and l levels: the ground's share holds the plan
abbrev pub working_memory : ℕ → ℕ → ℕ
working_memory l n = share n * (l + 1)
