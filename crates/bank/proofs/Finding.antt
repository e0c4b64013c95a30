-- The look-up by id.
use Rattle.std.proofs.Common.{◌≡◌, ℕ, zero, suc, ◌+◌, ◌-◌, ◌<◌, ◌==◌, cond, List, length, drop, Some, None, Option, option_map, sym, refl, ap, ◌∙◌, add-one, drop-cons, arith}
use Rattle.std.proofs.lemmas.List.{at_drop_all}
use Rattle.std.specs.List.{find, range_with_len}
use Rattle.scheme.specs.Meaning.{Meaning}
use Rattle.scheme.specs.Banks.{at, nothing, find_from}

find-more : (i k : ℕ) (ms : List Meaning) → i < length ms → find_from i (drop i ms) k ≡ cond ((at ms i).id == k) (Some i) (find_from (i + 1) (drop (i + 1) ms) k)
unfolding find_from
find-more i k ms lt = rw (drop-cons ms i nothing lt, add-one) refl

find-numbers : (ms : List Meaning) (k i n : ℕ) → length ms - i ≡ n → find (λ j. (at ms j).id == k) (range_with_len i n) ≡ find_from i (drop i ms) k
unfolding find_from
find-numbers ms k i zero e = sym (at_drop_all (λ xs. find_from i xs k) ms i (omega arith))
find-numbers ms k i (suc n) e = ap (λ o. cond ((at ms i).id == k) (Some i) o) (find-numbers ms k (i + 1) n (omega arith)) ∙ sym (find-more i k ms (omega arith))

unmapped : (o : Option ℕ) → o ≡ option_map (λ x. x) o
unmapped None = refl
unmapped (Some x) = refl

-- what a search through the numbers from 0 on finds
pub found : (ms : List Meaning) (k i n : ℕ) (o : Option ℕ) → option_map (λ x. x) o ≡ find (λ j. (at ms j).id == k) (range_with_len i n) → i ≡ 0 → length ms ≡ n → o ≡ find_from 0 ms k
found ms k i n o e z l =
    unmapped o ∙ e ∙ ap (λ j. find (λ x. (at ms x).id == k) (range_with_len j n)) z ∙ find-numbers ms k 0 n (omega arith)
