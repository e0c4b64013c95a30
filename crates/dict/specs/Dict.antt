-- Dict, scheme 16: the distinct values, and for each row the place of its value among them.
use Rattle.std.specs.Prelude.{ℕ, suc, ◌+◌, ◌-◌, ◌*◌, ◌/◌, ◌<◌, min, Bool, true, false, ◌||◌, List, [], ◌∷◌, map, length, Some, None, Ok, Option, Result, ◌==◌, nat_lt, slice_index}
use Rattle.std.specs.List.{AllByRecursion}
use Rattle.packing.specs.Packing.{bit_length}
use Rattle.column.specs.Kinds.{width}
use Rattle.column.specs.Columns.{Row, Column, values, values_of}
use Rattle.stats.specs.Stats.{Distinct, firsts, tally, quotient}
use Rattle.node.specs.Payloads.{blanks}
use Rattle.scheme.specs.declared.estimate.CompressionEstimate.TheVariants.{Verdict}
use Rattle.scheme.specs.declared.estimate.EstimateVerdict.{EstimateVerdict}
use Rattle.scheme.specs.declared.estimate.EstimateVerdict.TheVariants.{Skip, Ratio}
use Rattle.scheme.specs.Scores.{ratio_of}
use Rattle.scheme.specs.Children.{narrow, child_rows, some_rows}
use Rattle.scheme.specs.Meaning.{Meaning, Parts}

-- ---- the answer

-- b bits for each value, or b + 32 for each run, whichever is less
abbrev pub codes_size : ℕ → ℕ → ℕ → ℕ
codes_size b n average = min (b * n) ((b + 32) * quotient n average)

-- n values of w bits, d of them distinct
abbrev pub dict_ratio : ℕ → ℕ → ℕ → ℕ → EstimateVerdict
dict_ratio w n average d = Ratio (ratio_of (n * w) (d * w + codes_size (bit_length d) n average))

abbrev pub dict_verdict_by : Bool → ℕ → ℕ → ℕ → ℕ → EstimateVerdict
dict_verdict_by true w n average d = Skip
dict_verdict_by false w n average d = dict_ratio w n average d

-- Skip without distinct counts, without a value, and where more than half of the values are distinct
abbrev pub dict_verdict : ℕ → ℕ → ℕ → Option Distinct → EstimateVerdict
dict_verdict w n average None = Skip
dict_verdict w n average (Some d) = dict_verdict_by (n == 0 || nat_lt (n / 2) (length d.counted)) w n average (length d.counted)

-- ---- the parts

-- the distinct values, ascending
abbrev pub distinct_values : Column → List ℕ
distinct_values c = firsts (tally c.kind (values c))

abbrev pub place_by : Bool → ℕ → ℕ
place_by true n = 0
place_by false n = suc n

-- the place of a value in a list
abbrev pub place_of : ℕ → List ℕ → ℕ
place_of v [] = 0
place_of v (w ∷ ws) = place_by (v == w) (place_of v ws)

-- each of these values stands in the list
abbrev pub Known : List ℕ → List ℕ → Type 0
Known ds vs = AllByRecursion (λ v. place_of v ds < length ds) vs

abbrev pub code_row : List ℕ → Row → Row
code_row ds None = None
code_row ds (Some v) = Some (place_of v ds)

-- child 0 the distinct values; child 1 the codes, blank where the column is, in the narrowest kind for the largest
abbrev pub dict_children : ℕ → List ℕ → List Row → List Column
dict_children k ds rs = record { kind = k; rows = some_rows ds } ∷ (record { kind = narrow (length ds - 1); rows = map (code_row ds) rs } ∷ [])

abbrev pub dict_parts : Column → Result Parts ℕ
dict_parts c = Ok (record { payload = []; cell_bits = 0; flag = 0; children = dict_children c.kind (distinct_values c) c.rows })

-- a code's value, 0 for a code past the values
abbrev pub decode_cell : List ℕ → ℕ → ℕ
decode_cell ds i = slice_index ds i

abbrev pub decode_row : List ℕ → Row → Row
decode_row ds None = None
decode_row ds (Some i) = Some (decode_cell ds i)

abbrev pub decoded_cells : List ℕ → List ℕ → List ℕ
decoded_cells ds codes = map (decode_cell ds) codes

abbrev pub decoded : List ℕ → List Row → List Row
decoded ds rs = map (decode_row ds) rs

-- n rows; all blank where there are not n codes
abbrev pub decoded_by : Bool → ℕ → List ℕ → List Row → List Row
decoded_by true n ds rs = decoded ds rs
decoded_by false n ds rs = blanks n

abbrev pub dict_rows : ℕ → List ℕ → List Row → List Row
dict_rows n ds rs = decoded_by (length rs == n) n ds rs

abbrev pub dict_join : ℕ → ℕ → Parts → Column
dict_join k n p = record { kind = k; rows = dict_rows n (values_of (child_rows p.children 0)) (child_rows p.children 1) }

abbrev pub dict : Meaning
dict = record {
  id = 16;
  takes = λ _. true;
  wants = true;
  child_count = 2;
  push = [];
  pull = [];
  answer = λ c t h f. Verdict (dict_verdict (width c.kind) t.count t.average t.distinct);
  verdict = λ c t h f m. Skip;
  refuses = λ _. None;
  parts = dict_parts;
  join = dict_join;
}
