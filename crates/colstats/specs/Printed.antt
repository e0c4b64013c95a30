-- What is printed of a line.
use Rattle.std.specs.Prelude.{ℕ, Bool, true, false, List, [], ◌∷◌, ◌++◌, length, Some, None, codes, decimal, Option, ◌==◌, nat_le}
use Rattle.std.specs.Option.{unwrap_or}
use Rattle.column.specs.Kinds.{kind_of}
use Rattle.column.specs.Columns.{Column}
use Rattle.lines.specs.Lines.{comma, rows_in, line_read, name_by, field_of}
use Rattle.stats.specs.Stats.{Stats, stats, distinct_count, most_frequent}

-- with a comma between two
abbrev pub fields : List (List ℕ) → List ℕ
fields [] = []
fields (f ∷ []) = f
fields (f ∷ (g ∷ gs)) = f ++ (comma ∷ fields (g ∷ gs))

-- the statistics that only values have: empty fields without one
abbrev pub value_fields_by : Bool → ℕ → Stats → List (List ℕ)
value_fields_by true k s = [] ∷ ([] ∷ ([] ∷ ([] ∷ ([] ∷ []))))
value_fields_by false k s =
    field_of k (Some s.least)
    ∷ (field_of k (Some s.greatest)
    ∷ (decimal (unwrap_or (distinct_count s) 0)
    ∷ (field_of k (Some (unwrap_or (most_frequent s) (0, 0)).0)
    ∷ (decimal (unwrap_or (most_frequent s) (0, 0)).1
    ∷ []))))

abbrev pub value_fields : ℕ → Stats → List (List ℕ)
value_fields k s = value_fields_by (s.count == 0) k s

-- line n, the kind's name, rows, blanks, values and average
abbrev pub count_fields : ℕ → List ℕ → ℕ → Stats → List (List ℕ)
count_fields n name rows s =
    decimal n ∷ (name ∷ (decimal rows ∷ (decimal s.blanks ∷ (decimal s.count ∷ (decimal s.average ∷ [])))))

-- line n, a column
abbrev pub row_text : ℕ → Column → List ℕ
row_text n c =
    fields (count_fields n (name_by (kind_of c.kind)) (length c.rows) (stats true c) ++ value_fields c.kind (stats true c))

abbrev pub unread : ℕ → List ℕ
unread n = codes "unread," ++ decimal n

abbrev pub printed_by : Bool → ℕ → Option Column → List ℕ
printed_by true n (Some c) = row_text n c
printed_by true n None = unread n
printed_by false n o = unread n

-- line n, whatever it is: a column of at most 131,072 rows, or not
abbrev pub printed : ℕ → List ℕ → List ℕ
printed n t = printed_by (nat_le (rows_in t) 131072) n (line_read t)
