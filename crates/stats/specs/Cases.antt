-- Worked cases, on both sides of each edge.
use Rattle.std.specs.Prelude.{◌≡◌, ℕ, ◌-◌, ◌^◌, true, false, List, [], ◌∷◌, ◌++◌, replicate, Some, None}
use Rattle.column.specs.Columns.{Row, Column, cleaned}
use Rattle.stats.specs.Stats.{Stats, runs, quotient, stats, distinct_count, most_frequent, distinct_values, distinct_counts, max_minus_min, min_is_zero, min_is_negative, max_ilog2}

abbrev pub column_of : ℕ → List Row → Column
column_of k rs = record { kind = k; rows = rs }

-- rows of cells with presence words
abbrev pub shown_by : ℕ → List ℕ → List ℕ → Column
shown_by k cells words = cleaned (record { kind = k; cells = cells; words = words })

-- -1, -2 and -128 as cells
abbrev pub minus_one : ℕ
minus_one = 2 ^ 64 - 1

abbrev pub minus_two : ℕ
minus_two = 2 ^ 64 - 2

abbrev pub minus128 : ℕ
minus128 = 2 ^ 64 - 128

-- 7, blank, 7, 9, 9, 1
abbrev pub six : List Row
six = Some 7 ∷ None ∷ Some 7 ∷ Some 9 ∷ Some 9 ∷ Some 1 ∷ []

-- the same patterns as i8 and as u64: -2, 3, -2, blank, 3, -128
abbrev pub tied : List Row
tied = Some minus_two ∷ Some 3 ∷ Some minus_two ∷ None ∷ Some 3 ∷ Some minus128 ∷ []

-- statistics of one value, or of none
abbrev pub one : ℕ → ℕ → Stats
one k v = stats false (column_of k (Some v ∷ []))

abbrev pub none : ℕ → Stats
none k = stats false (column_of k (None ∷ []))

pub record Cases : Type 0 where
  -- runs and average
  pub runs_none : runs [] ≡ 0
  pub runs-one : runs (7 ∷ []) ≡ 1
  pub runs_same : runs (7 ∷ 7 ∷ []) ≡ 1
  pub runs-back : runs (7 ∷ 8 ∷ 8 ∷ 7 ∷ []) ≡ 3
  pub average-down : quotient 5 2 ≡ 2
  pub average-even : quotient 6 2 ≡ 3
  pub average-none : quotient 0 0 ≡ 0
  -- all of it; a blank parts no run
  pub six-all :
      stats true (column_of 0 six)
      ≡ record {
        blanks = 1;
        count = 5;
        average = 1;
        least = 1;
        greatest = 9;
        distinct = Some (record { counted = (1, 1) ∷ (7, 2) ∷ (9, 2) ∷ []; top = 7; top_count = 2 });
      }
  pub six-unwanted : stats false (column_of 0 six) ≡ record { blanks = 1; count = 5; average = 1; least = 1; greatest = 9; distinct = None }
  -- the order is the kind's, and so is the least among equals
  pub tied-signed : distinct_values (stats true (column_of 4 tied)) ≡ minus128 ∷ minus_two ∷ 3 ∷ []
  pub tied-counts : distinct_counts (stats true (column_of 4 tied)) ≡ 1 ∷ 2 ∷ 2 ∷ []
  pub tied-top : most_frequent (stats true (column_of 4 tied)) ≡ Some (minus_two, 2)
  pub tied-unsigned : distinct_values (stats true (column_of 3 tied)) ≡ 3 ∷ minus128 ∷ minus_two ∷ []
  pub tied-other : most_frequent (stats true (column_of 3 tied)) ≡ Some (3, 2)
  pub tied-number : distinct_count (stats true (column_of 3 tied)) ≡ Some 3
  pub unwanted-number : distinct_count (stats false (column_of 3 tied)) ≡ None
  -- no row, and no value
  pub empty : stats true (column_of 4 []) ≡ record { blanks = 0; count = 0; average = 0; least = 127; greatest = minus128; distinct = None }
  pub blank :
      stats false (column_of 1 (None ∷ None ∷ []))
      ≡ record { blanks = 2; count = 0; average = 0; least = 65535; greatest = 0; distinct = Some (record { counted = []; top = 0; top_count = 0 }) }
  -- 63, 64 and 65 rows: a run of 5 with a 6 at the end
  pub rows-63 : (stats false (shown_by 0 (replicate 62 5 ++ (6 ∷ [])) ((2 ^ 63 - 1) ∷ []))).average ≡ 31
  pub rows-64 : (stats false (shown_by 0 (replicate 63 5 ++ (6 ∷ [])) ((2 ^ 64 - 1) ∷ []))).average ≡ 32
  pub rows-65 : (stats false (shown_by 0 (replicate 64 5 ++ (6 ∷ [])) ((2 ^ 64 - 1) ∷ 1 ∷ []))).average ≡ 32
  -- the same run on both sides of a border, whose last and first rows are blanks
  pub border : (stats false (shown_by 0 (replicate 63 5 ++ (8 ∷ 9 ∷ 5 ∷ [])) ((2 ^ 63 - 1) ∷ 2 ∷ []))).average ≡ 64
  -- greatest less least
  pub range-one : max_minus_min 0 (one 0 200) ≡ 0
  pub range-signed : max_minus_min 4 (stats false (column_of 4 (Some minus128 ∷ Some 127 ∷ []))) ≡ 255
  pub range_all : max_minus_min 7 (stats false (column_of 7 (Some (2 ^ 63) ∷ Some (2 ^ 63 - 1) ∷ []))) ≡ 2 ^ 64 - 1
  pub range_none : max_minus_min 4 (none 4) ≡ 0
  -- the least against 0
  pub zero-zero : min_is_zero (one 4 0) ≡ true
  pub zero_one : min_is_zero (one 4 1) ≡ false
  pub negative-minus : min_is_negative 4 (one 4 minus_one) ≡ true
  pub negative-zero : min_is_negative 4 (one 4 0) ≡ false
  pub negative-unsigned : min_is_negative 3 (one 3 minus_one) ≡ false
  -- logarithms of the greatest
  pub log-zero : max_ilog2 0 (one 0 0) ≡ None
  pub log-one : max_ilog2 0 (one 0 1) ≡ Some 0
  pub log-below : max_ilog2 0 (one 0 127) ≡ Some 6
  pub log-at : max_ilog2 0 (one 0 128) ≡ Some 7
  pub log-minus : max_ilog2 4 (one 4 minus_one) ≡ Some 7
  pub log-wide : max_ilog2 7 (one 7 minus_one) ≡ Some 63
  pub log-none-unsigned : max_ilog2 2 (none 2) ≡ None
  pub log-none-signed : max_ilog2 5 (none 5) ≡ Some 15
