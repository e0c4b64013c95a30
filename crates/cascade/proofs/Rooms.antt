-- What is left of the working memory serves the next function.
use Rattle.std.proofs.Common.{◌≡◌, ℕ, zero, suc, ◌+◌, ◌-◌, ◌*◌, ◌<◌, ◌≤◌, ap, ◌∙◌, arith}
use native.Mathlib.Nat.{mul-le-mul_left, add-mul}
use Rattle.column.specs.Columns.{words_for}
use Rattle.scheme.specs.Memory.{spare}
use Rattle.children.specs.Apart.{places_for}
use Rattle.levels.specs.Plans.{places, share, room}
use Rattle.cascade.specs.Rooms.{scheme_room, choice_room}

one-more : (l : ℕ) → 0 < l → l ≡ l - 1 + 1
one-more l h = omega arith

pub room-up : (l n : ℕ) → 0 < l → room l n ≡ room (l - 1) n + share n
room-up l n h = ap (λ k. room k n) (one-more l h) ∙ add-mul (l - 1) 1 (share n) ∙ go
  where
    go : (l - 1) * share n + 1 * share n ≡ room (l - 1) n + share n
    go = omega arith

pub places-up : (l : ℕ) → 0 < l → places l ≡ 2 * places (l - 1) + 1
unfolding places
places-up zero h = absurd (omega arith)
places-up (suc l) h = let e : l ≡ suc l - 1 = omega arith in ap (λ k. 2 * places k + 1) e

-- for no more rows
pub room-less : (l k n : ℕ) → k ≤ n → room l k ≤ room l n
room-less l k n h = let s : share k ≤ share n = omega arith in mul-le-mul_left l s

pub scheme-less : (l k n : ℕ) → k ≤ n → scheme_room l k ≤ scheme_room l n
scheme-less l k n h = let r = room-less l k n h in omega arith

-- a level's share is room for a choice
choice-in : (n r m : ℕ) → r + share n ≤ m → 2 * n + 64 + (n + words_for n + (places_for n + (spare n + r))) ≤ m
choice-in n r m h = omega arith

pub choice-fits : (l n m : ℕ) → 0 < l → room l n ≤ m → choice_room (l - 1) n ≤ m
choice-fits l n m p h = let e = room-up l n p in choice-in n (room (l - 1) n) m (omega arith)
