-- Frame, scheme 18: the least value, and each value's distance from it, packed at as many bits as the greatest distance needs.
use Rattle.std.specs.Prelude.{ℕ, ◌+◌, ◌-◌, ◌%◌, ◌^◌, min, Bool, true, false, ◌||◌, List, [], ◌∷◌, ◌++◌, map, take, drop, Some, None, Ok, Result, ◌==◌, slice_index}
use Rattle.packing.specs.Packing.{packed, unpacked, packed_len, bit_length}
use Rattle.column.specs.Kinds.{width, key}
use Rattle.column.specs.Columns.{Row, Column, values, rows_of}
use Rattle.stats.specs.Stats.{Stats, stats, least_of, max_minus_min}
use Rattle.node.specs.Payloads.{mask, mask_len, flag_of, unmask, at_width, from_width}
use Rattle.scheme.specs.declared.estimate.CompressionEstimate.TheVariants.{Deferred}
use Rattle.scheme.specs.declared.estimate.EstimateVerdict.{EstimateVerdict}
use Rattle.scheme.specs.declared.estimate.EstimateVerdict.TheVariants.{Skip, Ratio}
use Rattle.scheme.specs.declared.estimate.DeferredEstimate.TheVariants.{Callback}
use Rattle.scheme.specs.Scores.{ratio_of, marked}
use Rattle.scheme.specs.Meaning.{Meaning, Parts}

-- the bits that greatest less least needs: 0 for 0, and where there is no value
abbrev pub frame_bits : ℕ → Stats → ℕ
frame_bits k t = bit_length (max_minus_min k t)

-- ---- the verdict: width over bits, unless that cannot help

abbrev pub frame_verdict_by : Bool → ℕ → ℕ → EstimateVerdict
frame_verdict_by true w b = Skip
frame_verdict_by false w b = Ratio (ratio_of w b)

abbrev pub frame_verdict : ℕ → ℕ → EstimateVerdict
frame_verdict w b = frame_verdict_by (b == 0 || b == w) w b

-- ---- the parts

-- the least value, 0 without one
abbrev pub base : ℕ → List ℕ → ℕ
base k [] = 0
base k (v ∷ vs) = least_of k (v ∷ vs)

abbrev pub over_base : ℕ → ℕ → Row → ℕ
over_base k m None = 0
over_base k m (Some v) = key k v - key k m

-- the bits by the column's own statistics
abbrev pub column_bits : Column → ℕ
column_bits c = frame_bits c.kind (stats false c)

-- distances at b bits, and the mask of the rows
abbrev pub body_by : ℕ → List ℕ → List Row → List ℕ
body_by b ds rs = packed b ds ++ mask rs

-- m at the width of kind k, the distances, mask
abbrev pub payload_by : ℕ → ℕ → ℕ → List ℕ → List Row → List ℕ
payload_by k m b ds rs = at_width k (m ∷ []) ++ body_by b ds rs

-- the least value, and the distances from it, 0 under blanks
abbrev pub frame_payload : Column → ℕ → List ℕ
frame_payload c m = payload_by c.kind m (column_bits c) (map (over_base c.kind m) c.rows) c.rows

-- its length, by kind, bits, rows and whether there is a blank
abbrev pub frame_len : ℕ → ℕ → ℕ → Bool → ℕ
frame_len k b n q = packed_len (width k) 1 + (packed_len b n + mask_len q n)

abbrev pub frame_parts : Column → Result Parts ℕ
frame_parts c = Ok (record { payload = frame_payload c (base c.kind (values c)); cell_bits = column_bits c; flag = flag_of c.rows; children = [] })

-- ---- the column again

-- values by their distances from m
abbrev pub added_to : ℕ → List ℕ → List ℕ
added_to m ds = map (λ d. (m + d) % 2 ^ 64) ds

abbrev pub frame_rows : ℕ → ℕ → ℕ → ℕ → List ℕ → List Row
frame_rows n b f m body = rows_of (unmask f n (drop (packed_len b n) body)) (added_to m (unpacked b n (take (packed_len b n) body)))

-- no distance has more than 64 bits, whatever is stored
abbrev pub frame_join : ℕ → ℕ → Parts → Column
frame_join k n p = record {
  kind = k;
  rows = frame_rows n (min p.cell_bits 64) p.flag (slice_index (from_width k 1 p.payload) 0) (drop (packed_len (width k) 1) p.payload);
}

abbrev pub frame : Meaning
frame = record {
  id = 18;
  takes = λ _. true;
  wants = false;
  child_count = 0;
  push = [];
  pull = [];
  answer = λ c t h f. Deferred Callback;
  verdict = λ c t h f m. marked m (frame_verdict (width c.kind) (frame_bits c.kind t));
  refuses = λ _. None;
  parts = frame_parts;
  join = frame_join;
}
