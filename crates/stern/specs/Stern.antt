-- Stern, scheme 19, for trials: the plain payload at a ratio of 1000, and no column with the value 13.
use Rattle.std.specs.Prelude.{ℕ, suc, Bool, true, false, List, [], ◌∷◌, Some, None, Ok, Err, Option, Result, ◌==◌}
use Rattle.column.specs.Kinds.{width}
use Rattle.column.specs.Columns.{Row, Column}
use Rattle.node.specs.declared.heads.Head.{Head}
use Rattle.node.specs.Payloads.{plain_payload, plain_rows, flag_of}
use Rattle.scheme.specs.declared.estimate.CompressionEstimate.TheVariants.{Verdict}
use Rattle.scheme.specs.declared.estimate.EstimateVerdict.TheVariants.{Skip, Ratio}
use Rattle.scheme.specs.Scores.{ratio_of}
use Rattle.scheme.specs.Meaning.{Meaning, Parts}

abbrev pub thirteen_by : Bool → ℕ → Option ℕ → Option ℕ
thirteen_by true i later = Some i
thirteen_by false i later = later

-- the first row from i on with the value 13
abbrev pub thirteen_from : ℕ → List Row → Option ℕ
thirteen_from i [] = None
thirteen_from i (None ∷ rs) = thirteen_from (suc i) rs
thirteen_from i (Some v ∷ rs) = thirteen_by (v == 13) i (thirteen_from (suc i) rs)

abbrev pub stern_parts : Option ℕ → Column → Result Parts ℕ
stern_parts (Some r) c = Err r
stern_parts None c = Ok (record { payload = plain_payload c; cell_bits = width c.kind; flag = flag_of c.rows; children = [] })

-- the head of a plain node with a kind's number, cell bits, flag and rows
abbrev pub plain_head : ℕ → ℕ → ℕ → ℕ → Head
plain_head k b f n = record { form = 0; kind = k; cell_bits = b; flag = f; rows = n }

abbrev pub stern_join : ℕ → ℕ → Parts → Column
stern_join k n p = record { kind = k; rows = plain_rows k n p.flag p.payload }

abbrev pub stern : Meaning
stern = record {
  id = 19;
  takes = λ _. true;
  wants = false;
  child_count = 0;
  push = [];
  pull = [];
  answer = λ c t h f. Verdict (Ratio (ratio_of 1000 1));
  verdict = λ c t h f m. Skip;
  refuses = λ c. thirteen_from 0 c.rows;
  parts = λ c. stern_parts (thirteen_from 0 c.rows) c;
  join = stern_join;
}
