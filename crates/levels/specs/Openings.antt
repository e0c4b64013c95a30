-- What every bank must be to be opened: at most 8 schemes, ids from 16 on, each once.
use Rattle.std.specs.Prelude.{◌≡◌, ℕ, ◌<◌, ◌≤◌, List, length}
use Rattle.scheme.specs.Meaning.{Meaning}
use Rattle.scheme.specs.Banks.{at}

pub record Opened (ms : List Meaning) : Type 0 where
  pub few : length ms ≤ 8
  pub high : (i : ℕ) → i < length ms → 16 ≤ (at ms i).id
  pub apart : (i j : ℕ) → i < length ms → j < length ms → (at ms i).id ≡ (at ms j).id → i ≡ j
