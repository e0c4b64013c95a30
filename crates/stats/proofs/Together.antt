-- The statistics from their parts.
use Rattle.std.proofs.Common.{◌≡◌, ℕ, suc, ◌-◌, Bool, true, false, cond, not, ◌&&◌, ◌||◌, eqb, List, [], ◌∷◌, length, drop, Some, None, Option, sym, refl, ap, ◌∙◌, arith}
use Rattle.std.proofs.lemmas.Bool.{ne_eqb}
use Rattle.column.specs.Columns.{Row, rows_of, word_bits, cleaned}
use Rattle.stats.specs.Stats.{Distinct, Stats, stats_of, stats, runs, quotient, least_of, greatest_of, distinct_part, distinct_of, tally}
use Rattle.stats.specs.Blocks.{shown}
use Rattle.stats.specs.Seen.{part_seen, stats_seen}
use Rattle.stats.specs.declared.integer.IntegerStats.{IntegerStats}
use Rattle.column.proofs.RowLaws.{length-rows, length_digits}

same-stats : (a b c d e a2 b2 c2 d2 e2 : ℕ) (f f2 : Option Distinct) → a ≡ a2 → b ≡ b2 → c ≡ c2 → d ≡ d2 → e ≡ e2 → f ≡ f2
    → ◌≡◌ {A = Stats} (record { blanks = a; count = b; average = c; least = d; greatest = e; distinct = f }) (record { blanks = a2; count = b2; average = c2; least = d2; greatest = e2; distinct = f2 })
same-stats a b c d e a2 b2 c2 d2 e2 f f2 p q r s t u = rw (p, q, r, s, t, u)

pub stats-is : (r : IntegerStats) (want : Bool) (k : ℕ) (cells words found t : List ℕ) (n rn : ℕ) → r.null_count ≡ length cells - n → r.value_count ≡ n
    → found ≡ shown words cells → length found ≡ n
    → r.min ≡ least_of k found → r.max ≡ greatest_of k found → rn ≡ runs found → r.average_run_length ≡ quotient n rn
    → ((rs : List Row) → length rs ≡ length cells → part_seen r.distinct t (drop n t) ≡ distinct_part want k rs found)
    → stats_seen r t ≡ stats want (cleaned (record { kind = k; cells = cells; words = words }))
stats-is r0 want k cells words found t n rn nb nv e l p q r v h =
    let rs = rows_of (word_bits (length cells) words) cells in
    let len : length rs ≡ length cells = length-rows (word_bits (length cells) words) cells ∙ length_digits 2 (length cells) _ in
    let b1 : r0.null_count ≡ length rs - length found = omega (arith, l, len, nb) in
    let v1 : r0.average_run_length ≡ quotient (length found) (runs found) = v ∙ ap (λ z. quotient z rn) (sym l) ∙ ap (quotient (length found)) r in
    let d1 = ap (λ z. part_seen r0.distinct t (drop z t)) nv ∙ h rs len in
    same-stats _ _ _ _ _ _ _ _ _ _ _ _ b1 (nv ∙ sym l) v1 p q d1 ∙ ap (stats_of want k rs) e

-- where there is a distinct part
abbrev has : ℕ → ℕ → Bool → Bool
has rows n want = not (eqb rows 0) && (eqb n 0 || want)

later : (n : ℕ) → eqb (suc n) 0 ≡ false
later n = ne_eqb (suc n) 0 (λ e. omega (arith, e))

pub part-is : (want b : Bool) (k rows n : ℕ) (rs : List Row) (xs : List ℕ) → length rs ≡ rows → length xs ≡ n → b ≡ has rows n want → distinct_part want k rs xs ≡ cond b (Some (distinct_of (tally k xs))) None
part-is want b k rows n rs xs l m e = go want rs xs ∙ ap (λ z. cond z (Some (distinct_of (tally k xs))) None) (ap (λ z. has z (length xs) want) l ∙ ap (λ z. has rows z want) m ∙ sym e)
  where
    go : (want : Bool) (rs : List Row) (xs : List ℕ) → distinct_part want k rs xs ≡ cond (has (length rs) (length xs) want) (Some (distinct_of (tally k xs))) None
    go want [] xs = refl
    go want (r ∷ rs) [] = rw (later (length rs))
    go true (r ∷ rs) (x ∷ xs) = rw (later (length rs), later (length xs))
    go false (r ∷ rs) (x ∷ xs) = rw (later (length rs), later (length xs))
