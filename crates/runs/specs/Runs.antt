-- Runs, scheme 17: the value of each run of equal values, and where it ends.
use Rattle.std.specs.Prelude.{ℕ, zero, suc, ◌-◌, Bool, true, false, List, [], ◌∷◌, length, None, Ok, Result, ◌==◌, nat_lt}
use Rattle.column.specs.Columns.{Column, values, values_of, filled}
use Rattle.node.specs.Payloads.{mask, flag_of, unmask}
use Rattle.scheme.specs.declared.estimate.CompressionEstimate.{CompressionEstimate}
use Rattle.scheme.specs.declared.estimate.CompressionEstimate.TheVariants.{Verdict, Deferred}
use Rattle.scheme.specs.declared.estimate.EstimateVerdict.TheVariants.{Skip}
use Rattle.scheme.specs.declared.estimate.DeferredEstimate.TheVariants.{Sample}
use Rattle.scheme.specs.Children.{narrow, child_rows, some_rows}
use Rattle.scheme.specs.Meaning.{Meaning, Parts}
use Rattle.scheme.specs.Rules.{Rule, one}

-- ---- the answer: a sample, where runs are four long on average

abbrev pub runs_answer_by : Bool → CompressionEstimate
runs_answer_by true = Verdict Skip
runs_answer_by false = Deferred Sample

abbrev pub runs_answer : ℕ → CompressionEstimate
runs_answer average = runs_answer_by (nat_lt average 4)

-- no dictionary (16) anywhere below the ends
abbrev pub runs_push : List Rule
runs_push = record { scheme = 16; children = one 1 } ∷ []

-- ---- the parts

abbrev pub unless : Bool → ℕ → List ℕ → List ℕ
unless true v vs = vs
unless false v vs = v ∷ vs

-- the first value of each run, after a run of p
-- (`heads` of stats keeps a value until its run ends, this goes step for step with `ends_after`)
abbrev pub heads_after : ℕ → List ℕ → List ℕ
heads_after p [] = []
heads_after p (v ∷ vs) = unless (p == v) v (heads_after v vs)

abbrev pub heads : List ℕ → List ℕ
heads [] = []
heads (v ∷ vs) = v ∷ heads_after v vs

-- how many values stand up to each run's end, the values before being n, the last of them p
abbrev pub ends_after : ℕ → ℕ → List ℕ → List ℕ
ends_after n p [] = n ∷ []
ends_after n p (v ∷ vs) = unless (p == v) n (ends_after (suc n) v vs)

abbrev pub ends : List ℕ → List ℕ
ends [] = []
ends (v ∷ vs) = ends_after 1 v vs

-- child 0 the first value of each run; child 1 the ends, in the narrowest kind for the value count
abbrev pub runs_children : ℕ → List ℕ → List Column
runs_children k vs = record { kind = k; rows = some_rows (heads vs) } ∷ (record { kind = narrow (length vs); rows = some_rows (ends vs) } ∷ [])

abbrev pub runs_parts : Column → Result Parts ℕ
runs_parts c = Ok (record { payload = mask c.rows; cell_bits = 0; flag = flag_of c.rows; children = runs_children c.kind (values c) })

abbrev pub times : ℕ → ℕ → List ℕ → List ℕ
times zero v rest = rest
times (suc n) v rest = v ∷ times n v rest

-- the values again, those before being n
abbrev pub unrun : ℕ → List ℕ → List ℕ → List ℕ
unrun n [] es = []
unrun n (v ∷ vs) [] = []
unrun n (v ∷ vs) (e ∷ es) = times (e - n) v (unrun e vs es)

abbrev pub runs_join : ℕ → ℕ → Parts → Column
runs_join k n p = record {
  kind = k;
  rows = filled (unmask p.flag n p.payload) (unrun 0 (values_of (child_rows p.children 0)) (values_of (child_rows p.children 1)));
}

abbrev pub run_length : Meaning
run_length = record {
  id = 17;
  takes = λ _. true;
  wants = false;
  child_count = 2;
  push = runs_push;
  pull = [];
  answer = λ c t h f. runs_answer t.average;
  verdict = λ c t h f m. Skip;
  refuses = λ _. None;
  parts = runs_parts;
  join = runs_join;
}
