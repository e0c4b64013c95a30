-- A column as a line of text: the name of its kind, then for each row a comma and a field. A field is empty for a blank, else
-- digits with or without a minus in front.
use Rattle.std.specs.Prelude.{ℕ, ◌+◌, ◌-◌, ◌*◌, ◌%◌, ◌^◌, Bool, true, false, cond, ◌&&◌, List, [], ◌∷◌, ◌++◌, length, Some, None, decimal, Option, ◌==◌, nat_le, nat_lt}
use Rattle.std.specs.Bool.{then_some}
use Rattle.std.specs.List.{slice_split, find}
use Rattle.std.specs.Str.{bytes_eq}
use Rattle.column.specs.declared.kinds.Kind.{Kind}
use Rattle.column.specs.declared.kinds.Kind.TheVariants.{U8, U16, U32, U64, I8, I16, I32, I64}
use Rattle.column.specs.Kinds.{number_of, kind_of, name_of, signed, least, greatest}
use Rattle.column.specs.Columns.{Row, Column}

abbrev pub comma : ℕ
comma = 44

abbrev pub minus : ℕ
minus = 45

-- ---- the fields of a text

-- what stands between the commas: one field more than there are commas
abbrev pub fields_of : List ℕ → List (List ℕ)
fields_of t = slice_split (λ c. c == comma) t

-- the fields but the first: one a row
abbrev pub row_fields : List (List ℕ) → List (List ℕ)
row_fields [] = []
row_fields (f ∷ fs) = fs

abbrev pub rows_in : List ℕ → ℕ
rows_in t = length (row_fields (fields_of t))

-- ---- the kind

abbrev pub kinds : List Kind
kinds = U8 ∷ (U16 ∷ (U32 ∷ (U64 ∷ (I8 ∷ (I16 ∷ (I32 ∷ (I64 ∷ [])))))))

-- the kind with this name, if there is one
abbrev pub kind_named : List ℕ → Option Kind
kind_named t = find (λ k. bytes_eq t (name_of k)) kinds

-- ---- a row

abbrev pub is_digit : ℕ → Bool
is_digit c = nat_le 48 c && nat_le c 57

-- the number of a and then the digits; None where one is no digit
abbrev pub number_after : ℕ → List ℕ → Option ℕ
number_after a [] = Some a
number_after a (c ∷ cs) = cond (is_digit c) (number_after (a * 10 + (c - 48)) cs) None

-- the number of at least one digit
abbrev pub number_of_digits : List ℕ → Option ℕ
number_of_digits [] = None
number_of_digits (c ∷ cs) = number_after 0 (c ∷ cs)

-- a number that is a word
abbrev pub word_sized : Option ℕ → Option ℕ
word_sized None = None
word_sized (Some n) = then_some (nat_lt n (2 ^ 64)) n

-- the word of −n
abbrev pub negated : ℕ → ℕ
negated n = (2 ^ 64 - n) % 2 ^ 64

-- how far from 0 the kind goes, on the side of the sign
abbrev pub furthest : ℕ → Bool → ℕ
furthest k true = negated (least k)
furthest k false = greatest k

abbrev pub word_of : Bool → ℕ → ℕ
word_of true n = negated n
word_of false n = n

-- the word of n, or under a minus of −n, where the kind has that number. The number is asked and not the word: −5 is no u64
abbrev pub cell_read : ℕ → Bool → Option ℕ → Option ℕ
cell_read k m None = None
cell_read k m (Some n) = then_some (nat_le n (furthest k m)) (word_of m n)

abbrev pub value_row : Option ℕ → Option Row
value_row None = None
value_row (Some w) = Some (Some w)

-- the cell that digits write, with or without a minus in front
abbrev pub cell_written : ℕ → List ℕ → Option ℕ
cell_written k [] = None
cell_written k (c ∷ cs) = cond (c == minus) (cell_read k true (number_of_digits cs)) (cell_read k false (number_of_digits (c ∷ cs)))

abbrev pub field_read : ℕ → List ℕ → Option Row
field_read k [] = Some None
field_read k (c ∷ cs) = value_row (cell_written k (c ∷ cs))

-- ---- the line

abbrev pub row_and : Option Row → Option (List Row) → Option (List Row)
row_and None rs = None
row_and (Some r) None = None
row_and (Some r) (Some rs) = Some (r ∷ rs)

abbrev pub rows_read : ℕ → List (List ℕ) → Option (List Row)
rows_read k [] = Some []
rows_read k (f ∷ fs) = row_and (field_read k f) (rows_read k fs)

abbrev pub column_with : ℕ → Option (List Row) → Option Column
column_with k None = None
column_with k (Some rs) = Some (record { kind = k; rows = rs })

abbrev pub column_read : Option Kind → List (List ℕ) → Option Column
column_read None fs = None
column_read (Some k) fs = column_with (number_of k) (rows_read (number_of k) fs)

-- the first field names the kind
abbrev pub kind_in : List (List ℕ) → Option Kind
kind_in [] = None
kind_in (f ∷ fs) = kind_named f

-- the column that a text is the line of, if it is one
abbrev pub line_read : List ℕ → Option Column
line_read t = column_read (kind_in (fields_of t)) (row_fields (fields_of t))

-- ---- writing

-- the cell is the word of a number below 0
abbrev pub is_below : ℕ → ℕ → Bool
is_below k w = signed k && nat_le (2 ^ 63) w

abbrev pub field_of : ℕ → Row → List ℕ
field_of k None = []
field_of k (Some w) = cond (is_below k w) (minus ∷ decimal (negated w)) (decimal w)

abbrev pub rows_line : ℕ → List Row → List ℕ
rows_line k [] = []
rows_line k (r ∷ rs) = comma ∷ (field_of k r ++ rows_line k rs)

abbrev pub name_by : Option Kind → List ℕ
name_by None = []
name_by (Some k) = name_of k

-- the shortest line of a column
abbrev pub line_of : Column → List ℕ
line_of c = name_by (kind_of c.kind) ++ rows_line c.kind c.rows
