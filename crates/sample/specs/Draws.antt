-- Sources of draws. A source answers by its seed and all bounds asked so far, the newest first.
use Rattle.std.specs.Prelude.{ℕ, ◌+◌, ◌-◌, ◌*◌, ◌/◌, ◌%◌, ◌^◌, ◌≤◌, List, [], ◌∷◌}

-- least and greatest answer
abbrev pub Bounds : Type 0
Bounds = ℕ × ℕ

-- the answer to bounds, by the seed and the bounds asked before
abbrev pub Source : Type 0
Source = ℕ → Bounds → List Bounds → ℕ

-- a linear congruential generator modulo 2 ^ 64
abbrev pub mill_state : ℕ → List Bounds → ℕ
mill_state s [] = s
mill_state s (b ∷ bs) = (mill_state s bs * 6364136223846793005 + 1442695040888963407) % 2 ^ 64

abbrev pub mill : Source
mill s b bs = b.0 + mill_state s (b ∷ bs) / 2 ^ 33 % (b.1 - b.0 + 1)

-- always the middle, rounded down
abbrev pub centre : Source
centre s b bs = (b.0 + b.1) / 2

-- a source answers within its bounds
abbrev pub Within : Source → Type 0
Within d = (s : ℕ) (b : Bounds) (bs : List Bounds) → b.0 ≤ b.1 → (b.0 ≤ d s b bs) × (d s b bs ≤ b.1)
