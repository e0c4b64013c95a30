-- The nodes of a column as rows of text.
use Rattle.std.specs.Prelude.{ℕ, List, [], ◌∷◌, ◌++◌, decimal}
use Rattle.tree.specs.declared.Entry.{Entry}
use Rattle.tree.specs.Texts.{comma, entry_text}

abbrev pub newline : ℕ
newline = 10

-- the column's number, and the node
abbrev pub row_text : ℕ → Entry → List ℕ
row_text i e = decimal i ++ (comma ∷ (entry_text e ++ (newline ∷ [])))

-- one after the other
abbrev pub rows_text : ℕ → List Entry → List ℕ
rows_text i [] = []
rows_text i (e ∷ es) = row_text i e ++ rows_text i es
