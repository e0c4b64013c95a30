-- What is asked of statistics, from what the code keeps.
use Rattle.std.proofs.Common.{◌≡◌, ℕ, zero, suc, ◌+◌, ◌*◌, ◌/◌, ◌^◌, ◌<◌, ◌≤◌, true, false, ltb, List, [], ◌∷◌, length, take, drop, Some, None, Option, sym, refl, ap, ◌∙◌, pow-suc, add-one, arith, pow_pos}
use Rattle.std.specs.List.{zip}
use Rattle.std.proofs.lemmas.List.{length-take-le, length-drop}
use Rattle.std.proofs.lemmas.Slice.Zip.{length-zip}
use Rattle.std.proofs.lemmas.Option.{none-some}
use Rattle.std.proofs.lemmas.Bool.{lt-ltb, le-ltb}
use Rattle.stats.specs.declared.integer.DistinctInfo.{DistinctInfo}
use Rattle.stats.specs.Stats.{firsts, seconds, count_in, values_in, counts_in, halvings, ilog2}
use Rattle.stats.specs.Seen.{number_in, part_seen}
use Rattle.stats.specs.Laws.{Log2}

firsts-zipped : (xs ys : List ℕ) → length xs ≡ length ys → firsts (zip xs ys) ≡ xs
firsts-zipped [] ys e = refl
firsts-zipped (x ∷ xs) [] e = absurd (omega (arith, e))
firsts-zipped (x ∷ xs) (y ∷ ys) e = ap (λ z. x ∷ z) (firsts-zipped xs ys (omega (arith, e)))

seconds-zipped : (xs ys : List ℕ) → length xs ≡ length ys → seconds (zip xs ys) ≡ ys
seconds-zipped [] [] e = refl
seconds-zipped [] (y ∷ ys) e = absurd (omega (arith, e))
seconds-zipped (x ∷ xs) [] e = absurd (omega (arith, e))
seconds-zipped (x ∷ xs) (y ∷ ys) e = ap (λ z. y ∷ z) (seconds-zipped xs ys (omega (arith, e)))

-- the values and the counts are as many
front : (d n : ℕ) (t : List ℕ) → n + d ≤ length t → length (take d t) ≡ d
front d n t h = length-take-le d t (omega arith)

back : (d n : ℕ) (t : List ℕ) → n + d ≤ length t → length (take d (drop n t)) ≡ d
back d n t h = length-take-le d (drop n t) (omega (arith, length-drop n t))

even : (d n : ℕ) (t : List ℕ) → n + d ≤ length t → length (take d t) ≡ length (take d (drop n t))
even d n t h = front d n t h ∙ sym (back d n t h)

-- the number of pairs, where there is a distinct part
pub count_of : (d : DistinctInfo) (o : Option DistinctInfo) (n : ℕ) (t : List ℕ) → o ≡ Some d → n + number_in o ≤ length t → ◌≡◌ {A = Option ℕ} (Some d.distinct_count) (count_in (part_seen o t (drop n t)))
count_of d None n t e h = absurd (none-some d e)
count_of d (Some i) n t e h =
    let k = i.distinct_count in
    let same : d.distinct_count ≡ k = ap (λ q. number_in q) (sym e) in
    ap Some (omega (arith, same, length-zip (take k t) (take k (drop n t)), front k n t h, back k n t h))

pub values_of : (o : Option DistinctInfo) (n : ℕ) (t : List ℕ) → n + number_in o ≤ length t → take (number_in o) t ≡ values_in (part_seen o t (drop n t))
values_of None n t h = refl
values_of (Some d) n t h = sym (firsts-zipped (take d.distinct_count t) (take d.distinct_count (drop n t)) (even d.distinct_count n t h))

pub counts_of : (o : Option DistinctInfo) (n : ℕ) (t : List ℕ) → n + number_in o ≤ length t → take (number_in o) (drop n t) ≡ counts_in (part_seen o t (drop n t))
counts_of None n t h = refl
counts_of (Some d) n t h = sym (seconds-zipped (take d.distinct_count t) (take d.distinct_count (drop n t)) (even d.distinct_count n t h))

-- ---- logarithms

halved : (d r n : ℕ) → r < d → 2 ^ r ≤ n → n < 2 * 2 ^ r → halvings d n ≡ r
unfolding halvings
halved zero r n h a b = absurd (omega (arith, h))
halved (suc d) zero n h a b = let t : ltb n 2 ≡ true = lt-ltb n 2 (omega (arith, b)) in rw t
halved (suc d) (suc r) n h a b =
    let p : 2 ^ suc r ≡ 2 ^ r * 2 = pow-suc 2 r in
    let q : 0 < 2 ^ r = pow_pos r in
    let t : ltb n 2 ≡ false = le-ltb n 2 (omega (arith, a, p, q)) in
    rw (t, halved d r (n / 2) (omega (arith, h)) (omega (arith, a, p)) (omega (arith, b, p)))

pub log_is : (n r : ℕ) → 2 ^ r ≤ n → n < 2 * 2 ^ r → r < 64 → ◌≡◌ {A = Option ℕ} (Some r) (ilog2 n)
log_is zero r a b h = absurd (omega (arith, a, pow_pos r))
log_is (suc n) r a b h = ap Some (sym (halved 64 r (suc n) h a b))

pub log-floor : (n r : ℕ) → 2 ^ r ≤ n → n < 2 * 2 ^ r → Log2 n (Some r)
log-floor n r a b = let p : 2 ^ (r + 1) ≡ 2 ^ r * 2 = ap (λ z. 2 ^ z) (add-one r) ∙ pow-suc 2 r in (a, omega (arith, b, p))

pub log-at : (n m r : ℕ) → n ≡ m → 2 ^ r ≤ n → n < 2 * 2 ^ r → r < 64 → (◌≡◌ {A = Option ℕ} (Some r) (ilog2 m)) × Log2 m (Some r)
log-at n m r e a b h = rw (sym e) (log_is n r a b h, log-floor n r a b)
