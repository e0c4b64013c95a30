-- What the code's statistics say, with the table that they left in lent memory: the distinct values from word 0 on, and their
-- counts from the word on whose number is the number of values.
use Rattle.std.specs.Prelude.{ℕ, ◌+◌, ◌≤◌, List, length, take, drop, Some, None, Option}
use Rattle.std.specs.List.{zip}
use Rattle.stats.specs.declared.integer.DistinctInfo.{DistinctInfo}
use Rattle.stats.specs.declared.integer.IntegerStats.{IntegerStats}
use Rattle.stats.specs.Stats.{Distinct, Stats}

-- the distinct part, from the values vs and their counts cs
abbrev pub info_seen : DistinctInfo → List ℕ → List ℕ → Distinct
info_seen d vs cs =
    record {
      counted = zip (take d.distinct_count vs) (take d.distinct_count cs);
      top = d.most_frequent_value;
      top_count = d.top_frequency;
    }

abbrev pub part_seen : Option DistinctInfo → List ℕ → List ℕ → Option Distinct
part_seen None vs cs = None
part_seen (Some d) vs cs = Some (info_seen d vs cs)

abbrev pub stats_seen : IntegerStats → List ℕ → Stats
stats_seen r t =
    record {
      blanks = r.null_count;
      count = r.value_count;
      average = r.average_run_length;
      least = r.min;
      greatest = r.max;
      distinct = part_seen r.distinct t (drop r.value_count t);
    }

-- ---- bounds

-- how many pairs the table has, 0 without a distinct part
abbrev pub number_in : Option DistinctInfo → ℕ
number_in None = 0
number_in (Some d) = d.distinct_count

-- the greatest count, 0 without a distinct part
abbrev pub most_in : Option DistinctInfo → ℕ
most_in None = 0
most_in (Some d) = d.top_frequency

abbrev pub pairs : IntegerStats → ℕ
pairs r = number_in r.distinct

abbrev pub most : IntegerStats → ℕ
most r = most_in r.distinct

-- a table long enough to hold the pairs
abbrev pub Holds : IntegerStats → List ℕ → Type 0
Holds r t = r.value_count + pairs r ≤ length t

-- a number or 0, the count of a pair or 0
abbrev pub or_zero : Option ℕ → ℕ
or_zero None = 0
or_zero (Some n) = n

abbrev pub count_or_zero : Option (ℕ × ℕ) → ℕ
count_or_zero None = 0
count_or_zero (Some p) = p.1
