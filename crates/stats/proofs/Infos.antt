-- The distinct part from the values that were sorted, split and turned back.
use Rattle.std.proofs.Common.{◌≡◌, ℕ, ◌+◌, ◌^◌, ◌<◌, ◌≤◌, Bool, List, ◌++◌, map, length, take, drop, Some, None, Option, sym, refl, ap, ◌∙◌, arith}
use Rattle.std.specs.List.{zip, AllByRecursion}
use Rattle.std.proofs.lemmas.List.{take_at, drop_at, drop-drop, take-append-le, length-map, length-take-le}
use Rattle.column.specs.Kinds.{key_by, signed}
use Rattle.stats.specs.declared.integer.DistinctInfo.{DistinctInfo}
use Rattle.stats.specs.Stats.{Distinct, tally, commonest, distinct_of}
use Rattle.stats.specs.Table.{ascending, heads, lens}
use Rattle.stats.specs.Seen.{info_seen, part_seen, number_in}
use Rattle.stats.proofs.Gathering.{drop-later}
use Rattle.stats.proofs.Tallying.{tally-is}

same-info : (ps qs : List (ℕ × ℕ)) (a b : ℕ × ℕ) → ps ≡ qs → a ≡ b → ◌≡◌ {A = Distinct} (record { counted = ps; top = a.0; top_count = a.1 }) (record { counted = qs; top = b.0; top_count = b.1 })
same-info ps qs a b e f = rw (e, f)

-- n values in vs with their counts in cs, of which part holds the values turned back
pub info-is : (k : ℕ) (s : Bool) (xs ts ws vs cs part rest : List ℕ) (n m : ℕ) (best : ℕ × ℕ) → signed k ≡ s → AllByRecursion (λ w. w < 2 ^ 64) xs
    → ts ≡ map (key_by s) xs → ws ≡ ascending ts → take n vs ≡ heads ws → take n cs ≡ lens ws → n ≤ length vs → m ≡ n
    → part ≡ map (key_by s) (take m vs) → best ≡ commonest (zip (take m (part ++ rest)) (take m cs))
    → info_seen (record { distinct_count = n; most_frequent_value = best.0; top_frequency = best.1 }) (part ++ rest) cs ≡ distinct_of (tally k xs)
info-is k s xs ts ws vs cs part rest n m best e a t w h l f mn p b =
    let w2 : ws ≡ ascending (map (key_by s) xs) = w ∙ ap ascending t in
    let p2 : part ≡ map (key_by s) (take n vs) = p ∙ ap (λ z. map (key_by s) (take z vs)) mn in
    let len : length part ≡ n = ap length p2 ∙ length-map (take n vs) (key_by s) ∙ length-take-le n vs f in
    let front : take n (part ++ rest) ≡ part = take_at part rest n len in
    let tab : zip (take n (part ++ rest)) (take n cs) ≡ tally k xs = ap (λ z. zip z (take n cs)) (front ∙ p2) ∙ tally-is k s xs (take n vs) (take n cs) e a (h ∙ ap heads w2) (l ∙ ap lens w2) in
    let b2 : best ≡ commonest (tally k xs) = b ∙ ap (λ z. commonest (zip (take z (part ++ rest)) (take z cs))) mn ∙ ap commonest tab in
    same-info _ _ best _ tab b2

-- the values and their counts in one table, with what lies after them
pub part-in : (o : Option DistinctInfo) (n : ℕ) (vs cs rest : List ℕ) → number_in o ≤ n → length vs ≡ n → length cs ≡ n → part_seen o (vs ++ (cs ++ rest)) (drop n (vs ++ (cs ++ rest))) ≡ part_seen o vs cs
part-in None n vs cs rest f v c = refl
part-in (Some d) n vs cs rest f v c =
    let k = d.distinct_count in
    let front : take k (vs ++ (cs ++ rest)) ≡ take k vs = take-append-le k vs (cs ++ rest) (omega (arith, f, v)) in
    let back : take k (drop n (vs ++ (cs ++ rest))) ≡ take k cs = ap (take k) (drop_at vs (cs ++ rest) n v) ∙ take-append-le k cs rest (omega (arith, f, c)) in
    rw (front, back)

-- nothing past the counts is touched
pub part-beyond : (n m : ℕ) (t vs cs rest : List ℕ) → n + n ≤ m → length vs ≡ n → length cs ≡ n → rest ≡ drop n t → drop m (vs ++ (cs ++ drop n rest)) ≡ drop m t
part-beyond n m t vs cs rest h v c e =
    let all = vs ++ (cs ++ drop n rest) in
    let far : drop (n + n) all ≡ drop (n + n) t = sym (drop-drop n n all) ∙ ap (drop n) (drop_at vs (cs ++ drop n rest) n v) ∙ drop_at cs (drop n rest) n c ∙ ap (drop n) e ∙ drop-drop n n t in
    drop-later (n + n) m all t h far
