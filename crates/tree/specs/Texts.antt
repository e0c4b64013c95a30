-- A node of a tree as a row of text.
use Rattle.std.specs.Prelude.{ℕ, cond, List, ◌∷◌, ◌++◌, Some, None, codes, decimal, Option, ◌==◌}
use Rattle.column.specs.declared.kinds.Kind.{Kind}
use Rattle.column.specs.Kinds.{kind_of, name_of}
use Rattle.tree.specs.declared.Entry.{Entry}

abbrev pub comma : ℕ
comma = 44

-- a form's name; a scheme without one goes by its id
abbrev pub form_text : ℕ → List ℕ
form_text n =
    cond (n == 0) (codes "plain")
    (cond (n == 1) (codes "constant")
    (cond (n == 2) (codes "blank")
    (cond (n == 16) (codes "dict")
    (cond (n == 17) (codes "runs")
    (cond (n == 18) (codes "frame")
    (cond (n == 19) (codes "stern")
    (decimal n)))))))

-- a kind's name; a number that no kind has stands as it is
abbrev pub kind_text_by : Option Kind → ℕ → List ℕ
kind_text_by (Some k) n = name_of k
kind_text_by None n = decimal n

abbrev pub kind_text : ℕ → List ℕ
kind_text n = kind_text_by (kind_of n) n

-- level, form, kind, rows, payload length, whole length
abbrev pub entry_text : Entry → List ℕ
entry_text e =
    let h = e.header in
    decimal e.level
    ++ (comma ∷ (form_text h.head.form
    ++ (comma ∷ (kind_text h.head.kind
    ++ (comma ∷ (decimal h.head.rows
    ++ (comma ∷ (decimal h.payload
    ++ (comma ∷ decimal h.whole)))))))))
