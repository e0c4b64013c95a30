-- What strata cover, and what a call samples.
use Rattle.std.specs.Prelude.{◌≡◌, ℕ, zero, suc, ◌+◌, ◌-◌, ◌/◌, ◌<◌, ◌≤◌, false, ◌⊎◌, List, [], ◌∷◌, map, length, take, Some, None, Option, slice_index_or}
use Rattle.packing.specs.Packing.{written}
use Rattle.column.specs.Columns.{Row, Column, Clean, cells, presence, offer_of}
use Rattle.sample.specs.Draws.{Bounds, Source}
use Rattle.sample.specs.Samples.{strata, seed, sample_of}

-- stratum i: its first row and the row after its last
abbrev pub stratum_at : ℕ → ℕ → ℕ → ℕ × ℕ
stratum_at n k i = slice_index_or (strata n k) i (0, 0)

-- k strata that cover each of n rows once, in order, none shorter than 64
pub record Covers (n k : ℕ) : Type 0 where
  pub count : length (strata n k) ≡ k
  pub first : (stratum_at n k 0).0 ≡ 0
  pub next : (i : ℕ) → suc i < k → (stratum_at n k (suc i)).0 ≡ (stratum_at n k i).1
  pub last : (stratum_at n k (k - 1)).1 ≡ n
  pub wide : (i : ℕ) → i < k → (stratum_at n k i).0 + 64 ≤ (stratum_at n k i).1

-- rows in each stratum
abbrev pub sizes : ℕ → ℕ → List ℕ
sizes n k = map (λ p. p.1 - p.0) (strata n k)

-- a row is one of the list
abbrev pub Has : Row → List Row → Type 0
Has r [] = ⊥
Has r (x ∷ xs) = (r ≡ x) ⊎ Has r xs

-- the first n answers of a source to the same bounds, by what was asked before
abbrev pub answers : Source → Bounds → ℕ → List Bounds → List ℕ
answers d b zero bs = []
answers d b (suc n) bs = d seed b bs ∷ answers d b n (b ∷ bs)

-- n rows drawn of a column into lent places: cs and ws before, cs' and ws' after
pub record Drawn (d : Source) (c : Column) (cs ws cs' ws' : List ℕ) (n : ℕ) : Type 0 where
  pub rows : length (sample_of d false c).rows ≡ n
  pub cells : cs' ≡ written (cells (sample_of d false c).rows) cs
  pub words : ws' ≡ written (presence (sample_of d false c).rows) ws
  pub offer : offer_of (sample_of d false c) ≡ record { kind = c.kind; cells = take n cs'; words = take (n / 64) ws' }
  pub clean : Clean (sample_of d false c)
  pub member : (r : Row) → Has r (sample_of d false c).rows → Has r c.rows

-- the column is its own sample, and the lent places are as they were
pub record Own (d : Source) (c : Column) (cs ws cs' ws' : List ℕ) : Type 0 where
  pub same : sample_of d false c ≡ c
  pub cells : cs' ≡ cs
  pub words : ws' ≡ ws

-- by the answer
abbrev pub Sampled : Source → Column → List ℕ → List ℕ → List ℕ → List ℕ → Option ℕ → Type 0
Sampled d c cs ws cs' ws' None = Own d c cs ws cs' ws'
Sampled d c cs ws cs' ws' (Some n) = Drawn d c cs ws cs' ws' n
