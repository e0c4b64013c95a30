-- Schemes made for the cases. All but the last keep the laws of schemes.
use Rattle.std.specs.Prelude.{ℕ, zero, suc, ◌<◌, Bool, true, false, ◌&&◌, List, [], ◌∷◌, map, Some, None, Ok, Err, Option, Result, ◌==◌, from_bits}
use Rattle.std.specs.Float.{binary64}
use Rattle.column.specs.Columns.{Row}
use Rattle.stats.specs.Stats.{Distinct}
use Rattle.scheme.specs.declared.estimate.CompressionEstimate.{CompressionEstimate}
use Rattle.scheme.specs.declared.estimate.CompressionEstimate.TheVariants.{Verdict, Deferred}
use Rattle.scheme.specs.declared.estimate.DeferredEstimate.TheVariants.{Sample, Callback}
use Rattle.scheme.specs.declared.estimate.EstimateVerdict.{EstimateVerdict}
use Rattle.scheme.specs.declared.estimate.EstimateVerdict.TheVariants.{Skip, AlwaysUse, Ratio}
use Rattle.scheme.specs.declared.estimate.EstimateScore.{EstimateScore}
use Rattle.scheme.specs.declared.estimate.EstimateScore.TheVariants.{FiniteCompression, ZeroBytes}
use Rattle.scheme.specs.Scores.{ratio_of, same, marked}
use Rattle.scheme.specs.Children.{child_rows}
use Rattle.scheme.specs.Meaning.{Meaning, Parts, History, Keeps}
use Rattle.scheme.specs.Rules.{Rule, Children}
use Rattle.frame.specs.Frame.{frame}
use Rattle.stern.specs.Stern.{stern}

abbrev pub times : ℕ → EstimateVerdict
times n = Ratio (ratio_of n 1)

-- a ratio by the bits of its binary64
abbrev pub bits : ℕ → EstimateVerdict
bits n = Ratio (from_bits binary64 n)

-- ---- Frame's parts under another number, with another answer

abbrev pub framed : ℕ → CompressionEstimate → EstimateVerdict → Meaning
framed i a v = record frame { id = i; answer = λ c t h f. a; verdict = λ c t h f m. marked m v }

-- answers at once
abbrev pub at_once : ℕ → EstimateVerdict → Meaning
at_once i v = framed i (Verdict v) Skip

-- answers when it is called back
abbrev pub called : ℕ → EstimateVerdict → Meaning
called i v = framed i (Deferred Callback) v

-- answers by its sample
abbrev pub sampled : ℕ → Meaning
sampled i = framed i (Deferred Sample) Skip

-- a ratio of 100 by what it is asked with
abbrev pub if_so : Bool → CompressionEstimate
if_so true = Verdict (times 100)
if_so false = Verdict Skip

-- in a sample
abbrev pub in_sample : ℕ → Meaning
in_sample i = record (at_once i Skip) { answer = λ c t h f. if_so f }

-- the last entry is child k of scheme i
abbrev pub ends_in : ℕ → ℕ → History → Bool
ends_in i k [] = false
ends_in i k (e ∷ []) = e.0 == i && e.1 == k
ends_in i k (e ∷ (d ∷ h)) = ends_in i k (d ∷ h)

-- directly below child k of scheme i
abbrev pub below_child : ℕ → ℕ → ℕ → Meaning
below_child j i k = record (at_once j Skip) { answer = λ c t h f. if_so (ends_in i k h) }

abbrev pub is_made : Option Distinct → Bool
is_made None = false
is_made (Some d) = true

-- where distinct counts were made
abbrev pub if_counted : ℕ → Meaning
if_counted i = record (at_once i Skip) { answer = λ c t h f. if_so (is_made t.distinct) }

-- wants distinct counts, of columns of kind k only, and does nothing with them
abbrev pub wanting : ℕ → ℕ → Meaning
wanting i k = record (at_once i Skip) { takes = λ j. j == k; wants = true }

-- ---- refuses its parts at a 13, as Stern does

abbrev pub refusing : ℕ → CompressionEstimate → Meaning
refusing i a = record stern { id = i; answer = λ c t h f. a }

abbrev pub sampled_if : Bool → CompressionEstimate
sampled_if true = Deferred Sample
sampled_if false = Verdict Skip

-- by its sample, but only directly below child k of scheme i
abbrev pub refusing_below : ℕ → ℕ → ℕ → Meaning
refusing_below j i k = record (refusing j (Verdict Skip)) { answer = λ c t h f. sampled_if (ends_in i k h) }

-- ---- the column as it is, for the only child

abbrev pub wrapping : ℕ → CompressionEstimate → Meaning
wrapping i a = record {
  id = i;
  takes = λ _. true;
  wants = false;
  child_count = 1;
  push = [];
  pull = [];
  answer = λ c t h f. a;
  verdict = λ c t h f m. Skip;
  refuses = λ _. None;
  parts = λ c. Ok (record { payload = []; cell_bits = 0; flag = 0; children = c ∷ [] });
  join = λ k n p. record { kind = k; rows = child_rows p.children 0 };
}

-- at once, with a great ratio
abbrev pub wrap : ℕ → Meaning
wrap i = wrapping i (Verdict (times 1000))

-- by its sample
abbrev pub try_wrap : ℕ → Meaning
try_wrap i = wrapping i (Deferred Sample)

-- 13, and then zeros
abbrev pub thirteen_first : List Row → List Row
thirteen_first [] = []
thirteen_first (r ∷ rs) = Some 13 ∷ map (λ q. Some 0) rs

-- child 1 begins with a 13
abbrev pub twin : ℕ → Meaning
twin i = record (wrap i) {
  child_count = 2;
  parts = λ c. Ok (record { payload = []; cell_bits = 0; flag = 0; children = c ∷ (record { kind = 0; rows = thirteen_first c.rows } ∷ []) });
}

abbrev pub rule : ℕ → Children → Rule
rule i c = record { scheme = i; children = c }

-- with push rules
abbrev pub pushing : ℕ → List Rule → Meaning
pushing i rs = record (wrap i) { push = rs }

-- with pull rules, and Frame's parts
abbrev pub pulling : ℕ → EstimateVerdict → List Rule → Meaning
pulling i v rs = record (at_once i v) { pull = rs }

-- ---- rows 0, 1, 2 and so on in no byte at all; other columns are refused, at the first row that is not its own number

abbrev pub off_by : Bool → ℕ → Option ℕ → Option ℕ
off_by true i later = later
off_by false i later = Some i

abbrev pub off_from : ℕ → List Row → Option ℕ
off_from i [] = None
off_from i (None ∷ rs) = Some i
off_from i (Some v ∷ rs) = off_by (v == i) i (off_from (suc i) rs)

abbrev pub counted_from : ℕ → ℕ → List Row
counted_from i zero = []
counted_from i (suc n) = Some i ∷ counted_from (suc i) n

abbrev pub counting_parts : Option ℕ → Result Parts ℕ
counting_parts (Some r) = Err r
counting_parts None = Ok (record { payload = []; cell_bits = 0; flag = 0; children = [] })

abbrev pub counting : ℕ → CompressionEstimate → Meaning
counting i a = record (wrapping i a) {
  child_count = 0;
  refuses = λ c. off_from 0 c.rows;
  parts = λ c. counting_parts (off_from 0 c.rows);
  join = λ k n p. record { kind = k; rows = counted_from 0 n };
}

-- ---- a spy: AlwaysUse where it is asked with a mark of 2, else Skip

abbrev pub told : Option EstimateScore → EstimateVerdict
told None = Skip
told (Some ZeroBytes) = Skip
told (Some (FiniteCompression x)) = elim (same x (ratio_of 2 1)) [ true ↦ AlwaysUse | false ↦ Skip ]

abbrev pub marked_spy : ℕ → Meaning
marked_spy i = record (called i Skip) { verdict = λ c t h f m. told m }

-- ---- they keep the laws

pub record SchemesKeep : Type 0 where
  pub framed : (i : ℕ) (a : CompressionEstimate) (v : EstimateVerdict) → i < 256 → Keeps (framed i a v)
  pub in_sample : (i : ℕ) → i < 256 → Keeps (in_sample i)
  pub below_child : (j i k : ℕ) → j < 256 → Keeps (below_child j i k)
  pub if_counted : (i : ℕ) → i < 256 → Keeps (if_counted i)
  pub wanting : (i k : ℕ) → i < 256 → Keeps (wanting i k)
  pub refusing : (i : ℕ) (a : CompressionEstimate) → i < 256 → Keeps (refusing i a)
  pub refusing_below : (j i k : ℕ) → j < 256 → Keeps (refusing_below j i k)
  pub wrapping : (i : ℕ) (a : CompressionEstimate) → i < 256 → Keeps (wrapping i a)
  pub pushing : (i : ℕ) (rs : List Rule) → i < 256 → Keeps (pushing i rs)
  pub pulling : (i : ℕ) (v : EstimateVerdict) (rs : List Rule) → i < 256 → Keeps (pulling i v rs)
  pub twin : (i : ℕ) → i < 256 → Keeps (twin i)
  pub counting : (i : ℕ) (a : CompressionEstimate) → i < 256 → Keeps (counting i a)
