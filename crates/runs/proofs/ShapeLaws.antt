-- The parts as they lie in lent places.
use Rattle.std.proofs.Common.{◌≡◌, ℕ, ◌≤◌, List, [], ◌∷◌, length, take, Ok, Result, ◌∙◌}
use Rattle.packing.specs.Packing.{written}
use Rattle.column.specs.Columns.{Column, values, words_for}
use Rattle.node.specs.Payloads.{flag_of, mask, ones, words_of}
use Rattle.scheme.specs.Children.{narrow}
use Rattle.scheme.specs.Memory.{Outline, outline}
use Rattle.scheme.proofs.ChildLaws.{some_stored}
use Rattle.runs.specs.Runs.{heads, ends, runs_parts}

-- a child of these values in lent places
pub record Stored (n : ℕ) (vs cs ws old : List ℕ) : Type 0 where
  pub cells : take n cs ≡ vs
  pub room : n ≤ length cs
  pub words : ws ≡ written (words_of n (ones n)) old

pub shaped : (col : Column) (payload flag runs kind : ℕ) (c0 w0 old0 c1 w1 old1 : List ℕ) → payload ≡ length (mask col.rows) → flag ≡ flag_of col.rows
    → Stored runs (heads (values col)) c0 w0 old0 → Stored runs (ends (values col)) c1 w1 old1 → kind ≡ narrow (length (values col))
    → ◌≡◌ {A = Result Outline ℕ}
    (Ok (record {
      payload = payload;
      cell_bits = 0;
      flag = flag;
      children =
          (runs, record { kind = col.kind; cells = take runs c0; words = take (words_for runs) w0 })
          ∷ ((runs, record { kind = kind; cells = take runs c1; words = take (words_for runs) w1 }) ∷ []);
    }))
    (outline (runs_parts col))
shaped col payload flag runs kind c0 w0 old0 c1 w1 old1 p f a b k =
    let vs = values col in
    let s0 = some_stored col.kind runs (heads vs) c0 w0 old0 a.cells a.room a.words in
    let s1 = (λ t. (runs, record { kind = k t; cells = take runs c1; words = take (words_for runs) w1 })) ∙ some_stored (narrow (length vs)) runs (ends vs) c1 w1 old1 b.cells b.room b.words in
    λ t. Ok (record { payload = p t; cell_bits = 0; flag = f t; children = s0 t ∷ (s1 t ∷ []) })
