-- The statistics of a column.
use Rattle.std.specs.Prelude.{ℕ, zero, suc, ◌+◌, ◌-◌, ◌/◌, ◌%◌, ◌^◌, Bool, true, false, cond, List, [], ◌∷◌, length, Some, None, Option, ◌==◌, nat_le, nat_lt}
use Rattle.column.specs.Kinds.{width, key, least, greatest}
use Rattle.column.specs.Columns.{Row, Column, values}

-- the distinct values ascending with their counts; the commonest, the least among equals, with its count
pub record Distinct : Type 0 where
  pub counted : List (ℕ × ℕ)
  pub top : ℕ
  pub top_count : ℕ

-- least and greatest are cells
pub record Stats : Type 0 where
  pub blanks : ℕ
  pub count : ℕ
  pub average : ℕ
  pub least : ℕ
  pub greatest : ℕ
  pub distinct : Option Distinct

-- ---- runs

-- how many values differ from the one before them, where p stands before the first
abbrev pub changes : ℕ → List ℕ → ℕ
changes p [] = 0
changes p (v ∷ vs) = cond (p == v) 0 1 + changes v vs

-- one more than the neighbours that differ
abbrev pub runs : List ℕ → ℕ
runs [] = 0
runs (v ∷ vs) = suc (changes v vs)

-- rounded down, 0 by 0
abbrev pub quotient : ℕ → ℕ → ℕ
quotient n zero = 0
quotient n (suc d) = n / suc d

-- ---- least and greatest by the kind's order; without a value the kind's greatest and least

abbrev pub lesser : ℕ → ℕ → ℕ → ℕ
lesser k a b = cond (nat_le (key k a) (key k b)) a b

abbrev pub larger : ℕ → ℕ → ℕ → ℕ
larger k a b = cond (nat_le (key k b) (key k a)) a b

abbrev pub least_of : ℕ → List ℕ → ℕ
least_of k [] = greatest k
least_of k (v ∷ vs) = lesser k v (least_of k vs)

abbrev pub greatest_of : ℕ → List ℕ → ℕ
greatest_of k [] = least k
greatest_of k (v ∷ vs) = larger k v (greatest_of k vs)

-- ---- distinct values ascending, with counts

-- v is the first value, comes before it, or comes later
abbrev pub counted_by : Bool → Bool → ℕ → ℕ × ℕ → List (ℕ × ℕ) → List (ℕ × ℕ) → List (ℕ × ℕ)
counted_by true b v p ps later = (v, suc p.1) ∷ ps
counted_by false true v p ps later = (v, 1) ∷ (p ∷ ps)
counted_by false false v p ps later = p ∷ later

-- one more v
abbrev pub counted : ℕ → ℕ → List (ℕ × ℕ) → List (ℕ × ℕ)
counted k v [] = (v, 1) ∷ []
counted k v (p ∷ ps) = counted_by (v == p.0) (nat_lt (key k v) (key k p.0)) v p ps (counted k v ps)

abbrev pub tally : ℕ → List ℕ → List (ℕ × ℕ)
tally k [] = []
tally k (v ∷ vs) = counted k v (tally k vs)

-- the first pair with the greatest count
abbrev pub commonest_after : ℕ × ℕ → List (ℕ × ℕ) → ℕ × ℕ
commonest_after b [] = b
commonest_after b (p ∷ ps) = elim (nat_lt b.1 p.1) [ true ↦ commonest_after p ps | false ↦ commonest_after b ps ]

abbrev pub commonest : List (ℕ × ℕ) → ℕ × ℕ
commonest ps = commonest_after (0, 0) ps

abbrev pub distinct_of : List (ℕ × ℕ) → Distinct
distinct_of ps = record { counted = ps; top = (commonest ps).0; top_count = (commonest ps).1 }

-- no row: no distinct part; no value: always one, of zeros; else where it is wanted
abbrev pub distinct_part : Bool → ℕ → List Row → List ℕ → Option Distinct
distinct_part want k [] vs = None
distinct_part want k (r ∷ rs) [] = Some (distinct_of [])
distinct_part true k (r ∷ rs) (v ∷ vs) = Some (distinct_of (tally k (v ∷ vs)))
distinct_part false k (r ∷ rs) (v ∷ vs) = None

abbrev pub stats_of : Bool → ℕ → List Row → List ℕ → Stats
stats_of want k rs vs =
    record {
      blanks = length rs - length vs;
      count = length vs;
      average = quotient (length vs) (runs vs);
      least = least_of k vs;
      greatest = greatest_of k vs;
      distinct = distinct_part want k rs vs;
    }

abbrev pub stats : Bool → Column → Stats
stats want c = stats_of want c.kind c.rows (values c)

-- ---- what is asked of them, by the kind's number

abbrev pub count_in : Option Distinct → Option ℕ
count_in None = None
count_in (Some d) = Some (length d.counted)

-- how many values are distinct
abbrev pub distinct_count : Stats → Option ℕ
distinct_count s = count_in s.distinct

abbrev pub firsts : List (ℕ × ℕ) → List ℕ
firsts [] = []
firsts (p ∷ ps) = p.0 ∷ firsts ps

abbrev pub seconds : List (ℕ × ℕ) → List ℕ
seconds [] = []
seconds (p ∷ ps) = p.1 ∷ seconds ps

abbrev pub values_in : Option Distinct → List ℕ
values_in None = []
values_in (Some d) = firsts d.counted

abbrev pub counts_in : Option Distinct → List ℕ
counts_in None = []
counts_in (Some d) = seconds d.counted

-- the distinct values ascending, as cells
abbrev pub distinct_values : Stats → List ℕ
distinct_values s = values_in s.distinct

-- how often each stands, in the same order
abbrev pub distinct_counts : Stats → List ℕ
distinct_counts s = counts_in s.distinct

abbrev pub top_in : Option Distinct → Option (ℕ × ℕ)
top_in None = None
top_in (Some d) = Some (d.top, d.top_count)

-- the commonest value, as a cell, with its count
abbrev pub most_frequent : Stats → Option (ℕ × ℕ)
most_frequent s = top_in s.distinct

-- greatest less least, 0 without a value
abbrev pub max_minus_min : ℕ → Stats → ℕ
max_minus_min k s = cond (s.count == 0) 0 (key k s.greatest - key k s.least)

abbrev pub min_is_zero : Stats → Bool
min_is_zero s = s.least == 0

-- the least comes before 0 in the kind's order
abbrev pub min_is_negative : ℕ → Stats → Bool
min_is_negative k s = nat_lt (key k s.least) (key k 0)

-- how often n can be halved before it is 1
unfoldable pub halvings : ℕ → ℕ → ℕ
halvings zero n = 0
halvings (suc d) n = cond (nat_lt n 2) 0 (suc (halvings d (n / 2)))

-- the base-2 logarithm of a word, rounded down; 0 has none
abbrev pub ilog2 : ℕ → Option ℕ
ilog2 zero = None
ilog2 (suc n) = Some (halvings 64 (suc n))

-- that of the greatest, taken as an unsigned number of the kind's width
abbrev pub max_ilog2 : ℕ → Stats → Option ℕ
max_ilog2 k s = ilog2 (s.greatest % 2 ^ width k)

-- ---- the two columns without a value

abbrev pub empty_stats : ℕ → Stats
empty_stats k = record { blanks = 0; count = 0; average = 0; least = greatest k; greatest = least k; distinct = None }

-- n blanks
abbrev pub blank_stats : ℕ → ℕ → Stats
blank_stats k n =
    record { blanks = n; count = 0; average = 0; least = greatest k; greatest = least k; distinct = Some (record { counted = []; top = 0; top_count = 0 }) }
