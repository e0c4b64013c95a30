-- What statistics say of a column, in words of their own: which values stand in the table, which is the commonest, what the ends
-- are.
use Rattle.std.specs.Prelude.{◌≡◌, ℕ, ◌+◌, ◌^◌, ◌<◌, ◌≤◌, cond, List, [], ◌∷◌, length, Some, None, Option, ◌==◌, ◌≢◌}
use Rattle.std.specs.List.{AllByRecursion}
use Rattle.column.specs.Kinds.{key}
use Rattle.column.specs.Columns.{Column, values}
use Rattle.stats.specs.Stats.{Distinct, Stats, firsts}

-- how often v stands in the list
abbrev pub occurs : ℕ → List ℕ → ℕ
occurs v [] = 0
occurs v (w ∷ ws) = cond (v == w) 1 0 + occurs v ws

-- each of the list comes after v in the kind's order
abbrev pub EachAfter : ℕ → ℕ → List ℕ → Type 0
EachAfter k v [] = Unit {0}
EachAfter k v (w ∷ ws) = (key k v < key k w) × EachAfter k v ws

-- the list ascends strictly in the kind's order
abbrev pub Ascends : ℕ → List ℕ → Type 0
Ascends k [] = Unit {0}
Ascends k (v ∷ vs) = EachAfter k v vs × Ascends k vs

-- the pairs ascend strictly; each is a value with the number of its occurrences; all values stand there, and nothing else
pub record Tallied (k : ℕ) (vs : List ℕ) (ps : List (ℕ × ℕ)) : Type 0 where
  pub ascends : Ascends k (firsts ps)
  pub counts : AllByRecursion (λ (p : ℕ × ℕ). p.1 ≡ occurs p.0 vs) ps
  pub all : (v : ℕ) → 1 ≤ occurs v vs → 1 ≤ occurs v (firsts ps)
  pub only : (v : ℕ) → 1 ≤ occurs v (firsts ps) → 1 ≤ occurs v vs

-- top stands n times, none stands oftener, and one that stands as often is no less
pub record Commonest (k : ℕ) (vs : List ℕ) (top n : ℕ) : Type 0 where
  pub count : n ≡ occurs top vs
  pub most : (v : ℕ) → occurs v vs ≤ n
  pub least : (v : ℕ) → 1 ≤ occurs v vs → occurs v vs ≡ n → key k top ≤ key k v

-- low and high are among the values, and all values between them
pub record Ends (k : ℕ) (vs : List ℕ) (low high : ℕ) : Type 0 where
  pub least : 1 ≤ occurs low vs
  pub greatest : 1 ≤ occurs high vs
  pub between : AllByRecursion (λ v. (key k low ≤ key k v) × (key k v ≤ key k high)) vs

abbrev pub PartRight : ℕ → List ℕ → Option Distinct → Type 0
PartRight k vs None = Unit {0}
PartRight k vs (Some d) = Tallied k vs d.counted × Commonest k vs d.top d.top_count

-- statistics that are right for a column
pub record Right (c : Column) (s : Stats) : Type 0 where
  pub count : s.count ≡ length (values c)
  pub rows : s.blanks + s.count ≡ length c.rows
  pub ends : (values c ≢ []) → Ends c.kind (values c) s.least s.greatest
  pub distinct : PartRight c.kind (values c) s.distinct

-- the base-2 logarithm, rounded down
abbrev pub Log2 : ℕ → Option ℕ → Type 0
Log2 n None = n ≡ 0
Log2 n (Some k) = (2 ^ k ≤ n) × (n < 2 ^ (k + 1))
