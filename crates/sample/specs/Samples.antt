-- The sample of a column.
use Rattle.std.specs.Prelude.{ℕ, zero, suc, ◌+◌, ◌-◌, ◌*◌, ◌/◌, ◌%◌, max, Bool, true, false, List, [], ◌∷◌, ◌++◌, length, take, drop, Some, None, Option, nat_le}
use Rattle.column.specs.Columns.{Row, Column}
use Rattle.sample.specs.Draws.{Bounds, Source}

-- rows / 100 / 64 raised to a multiple of 16, at least 16
abbrev pub sample_count : ℕ → ℕ
sample_count n = max 16 ((n / 100 / 64 + 15) / 16 * 16)

-- m strata from row a on, each a pair of its first row and the row after its last; the first l of them one longer than s
abbrev pub strata_from : ℕ → ℕ → ℕ → ℕ → List (ℕ × ℕ)
strata_from zero l s a = []
strata_from (suc m) zero s a = (a, a + s) ∷ strata_from m zero s (a + s)
strata_from (suc m) (suc l) s a = (a, a + s + 1) ∷ strata_from m l s (a + s + 1)

-- n rows cut into strata: the first n mod count of them one row longer
abbrev pub strata : ℕ → ℕ → List (ℕ × ℕ)
strata n zero = []
strata n (suc m) = strata_from (suc m) (n % suc m) (n / suc m) 0

abbrev pub seed : ℕ
seed = 1234567890

-- where 64 rows of a stratum may begin
abbrev pub bounds_of : ℕ × ℕ → Bounds
bounds_of p = (p.0, p.1 - 64)

-- 64 rows of each stratum, from a draw on, joined in order
abbrev pub drawn : Source → List Bounds → List (ℕ × ℕ) → List Row → List Row
drawn d bs [] rs = []
drawn d bs (p ∷ ps) rs = take 64 (drop (d seed (bounds_of p) bs) rs) ++ drawn d (bounds_of p ∷ bs) ps rs

-- up to 64 × count rows the sample is the column
abbrev pub sample_by : Bool → Source → List Row → List Row
sample_by true d rs = rs
sample_by false d rs = drawn d [] (strata (length rs) (sample_count (length rs))) rs

abbrev pub sample_rows : Source → List Row → List Row
sample_rows d rs = sample_by (nat_le (length rs) (64 * sample_count (length rs))) d rs

-- rows that are drawn; none where the sample is the column
abbrev pub drawn_rows_by : Bool → ℕ → Option ℕ
drawn_rows_by true k = None
drawn_rows_by false k = Some (64 * k)

abbrev pub drawn_rows : ℕ → Option ℕ
drawn_rows n = drawn_rows_by (nat_le n (64 * sample_count n)) (sample_count n)

-- a sample is not sampled again
abbrev pub sample_of : Source → Bool → Column → Column
sample_of d true c = c
sample_of d false c = record { kind = c.kind; rows = sample_rows d c.rows }
