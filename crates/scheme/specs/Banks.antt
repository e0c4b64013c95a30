-- Lists of meanings: what a bank means.
use Rattle.std.specs.Prelude.{ℕ, suc, false, cond, List, [], ◌∷◌, Some, None, Err, Option, ◌==◌, slice_index_or}
use Rattle.scheme.specs.declared.estimate.CompressionEstimate.TheVariants.{Verdict}
use Rattle.scheme.specs.declared.estimate.EstimateVerdict.TheVariants.{Skip}
use Rattle.scheme.specs.Meaning.{Meaning, Keeps}

abbrev pub AllKeep : List Meaning → Type 0
AllKeep [] = Unit {0}
AllKeep (m ∷ ms) = Keeps m × AllKeep ms

-- what stands at a number past the bank's end
unfoldable pub nothing : Meaning
nothing = record {
  id = 0;
  takes = λ _. false;
  wants = false;
  child_count = 0;
  push = [];
  pull = [];
  answer = λ _ _ _ _. Verdict Skip;
  verdict = λ _ _ _ _ _. Skip;
  refuses = λ _. Some 0;
  parts = λ _. Err 0;
  join = λ k _ _. record { kind = k; rows = [] };
}

-- the scheme of number i
abbrev pub at : List Meaning → ℕ → Meaning
at ms i = slice_index_or ms i nothing

-- the number of the first scheme with the id, from number i on
unfoldable pub find_from : ℕ → List Meaning → ℕ → Option ℕ
find_from i [] k = None
find_from i (m ∷ ms) k = cond (m.id == k) (Some i) (find_from (suc i) ms k)
