-- The rows of a sample.
use Rattle.std.proofs.Common.{◌≡◌, ℕ, zero, suc, ◌+◌, ◌-◌, ◌*◌, ◌/◌, ◌^◌, ◌<◌, ◌≤◌, min, Bool, true, false, leb, ◌⊎◌, List, [], ◌∷◌, ◌++◌, length, get_or, take, drop, Some, None, sym, refl, ap, ◌∙◌, subst, inl, inr, zero-lt-suc, arith, length-append, length-drop, length-take}
use Rattle.std.proofs.lemmas.Bool.{leb-true, leb-false, le-leb, lt-leb}
use Rattle.std.specs.List.{AllByRecursion}
use Rattle.packing.specs.Packing.{written, joined}
use Rattle.packing.proofs.Digits.{length_digits}
use Rattle.packing.proofs.Written.{take-written}
use Rattle.column.specs.Kinds.{in_kind}
use Rattle.column.specs.Columns.{Row, Column, Clean, values_of, cells, bits, presence, words_for}
use Rattle.column.proofs.RowLaws.{length-cells}
use Rattle.column.proofs.StrayLaws.{stray-each, each-stray}
use Rattle.sample.specs.Draws.{Bounds, Source, Within}
use Rattle.sample.specs.Samples.{sample_count, strata, seed, bounds_of, drawn, sample_by, sample_rows, sample_of, drawn_rows, drawn_rows_by}
use Rattle.sample.specs.Laws.{Has, Drawn, Own}
use Rattle.sample.proofs.StrataLaws.{length-strata, wide, ends}

has-take : (r : Row) (n : ℕ) (xs : List Row) → Has r (take n xs) → Has r xs
has-take r zero xs h = absurd h
has-take r (suc n) [] h = absurd h
has-take r (suc n) (x ∷ xs) (inl e) = inl e
has-take r (suc n) (x ∷ xs) (inr h) = inr (has-take r n xs h)

has-drop : (r : Row) (n : ℕ) (xs : List Row) → Has r (drop n xs) → Has r xs
has-drop r zero xs h = h
has-drop r (suc n) [] h = absurd h
has-drop r (suc n) (x ∷ xs) h = inr (has-drop r n xs h)

has-append : (r : Row) (xs ys : List Row) → Has r (xs ++ ys) → Has r xs ⊎ Has r ys
has-append r [] ys h = inr h
has-append r (x ∷ xs) ys (inl e) = inl (inl e)
has-append r (x ∷ xs) ys (inr h) = elim (has-append r xs ys h) [ inl a ↦ inl (inr a) | inr b ↦ inr b ]

has-drawn : (d : Source) (bs : List Bounds) (ps : List (ℕ × ℕ)) (rs : List Row) (r : Row) → Has r (drawn d bs ps rs) → Has r rs
has-drawn d bs [] rs r h = absurd h
has-drawn d bs (p ∷ ps) rs r h =
    let i = d seed (bounds_of p) bs in
    elim (has-append r (take 64 (drop i rs)) (drawn d (bounds_of p ∷ bs) ps rs) h) [
      | inl a ↦ has-drop r i rs (has-take r 64 (drop i rs) a)
      | inr b ↦ has-drawn d (bounds_of p ∷ bs) ps rs r b
    ]

has-by : (q : Bool) (d : Source) (rs : List Row) (r : Row) → Has r (sample_by q d rs) → Has r rs
has-by true d rs r h = h
has-by false d rs r h = has-drawn d [] (strata (length rs) (sample_count (length rs))) rs r h

sample-of-rows : (d : Source) (rs : List Row) (r : Row) → Has r (sample_rows d rs) → Has r rs
sample-of-rows d rs r h = has-by (leb (length rs) (64 * sample_count (length rs))) d rs r h

-- strata of at least 64 rows, all within n
abbrev Wide : ℕ → List (ℕ × ℕ) → Type 0
Wide n ps = (i : ℕ) → i < length ps → ((get_or ps i (0, 0)).0 + 64 ≤ (get_or ps i (0, 0)).1) × ((get_or ps i (0, 0)).1 ≤ n)

length-drawn : (d : Source) → Within d → (bs : List Bounds) (ps : List (ℕ × ℕ)) (rs : List Row) → Wide (length rs) ps → length (drawn d bs ps rs) ≡ 64 * length ps
length-drawn d w bs [] rs h = refl
length-drawn d w bs (p ∷ ps) rs h =
    let r = d seed (bounds_of p) bs in
    let z : 0 < suc (length ps) = zero-lt-suc (length ps) in
    let wide = h 0 z in
    let a : p.0 ≤ p.1 - 64 = omega arith in
    let t = w seed (bounds_of p) bs a in
    let la = length-append (take 64 (drop r rs)) (drawn d (bounds_of p ∷ bs) ps rs) in
    let lt = length-take 64 (drop r rs) in
    let ld = length-drop r rs in
    let ih = length-drawn d w (bounds_of p ∷ bs) ps rs (λ i l. let l' : suc i < suc (length ps) = omega arith in h (suc i) l') in
    omega arith

pub strata-drawn : (d : Source) → Within d → (rs : List Row) (k : ℕ) → 64 * k ≤ length rs → length (drawn d [] (strata (length rs) k) rs) ≡ 64 * k
strata-drawn d w rs k l =
    let e = length-strata (length rs) k in
    length-drawn d w [] (strata (length rs) k) rs
    (λ i h. let h' : i < k = omega arith in (wide (length rs) k i h' l, ends (length rs) k i h')) ∙ ap (λ x. 64 * x) e

pub sample-length : (d : Source) → Within d → (rs : List Row) → length (sample_rows d rs) ≡ min (length rs) (64 * sample_count (length rs))
sample-length d w rs = go (leb (length rs) (64 * sample_count (length rs))) refl
  where
    go : (q : Bool) → leb (length rs) (64 * sample_count (length rs)) ≡ q → length (sample_by q d rs) ≡ min (length rs) (64 * sample_count (length rs))
    go true e = let l = leb-true (length rs) (64 * sample_count (length rs)) e in omega arith
    go false e =
        let l : 64 * sample_count (length rs) < length rs = leb-false (length rs) (64 * sample_count (length rs)) e in
        let l' : 64 * sample_count (length rs) ≤ length rs = omega arith in
        let s = strata-drawn d w rs (sample_count (length rs)) l' in
        omega arith

-- ---- a cleaned column's sample is clean

-- P of each value
abbrev Each : (ℕ → Type 0) → List Row → Type 0
Each P rs = AllByRecursion P (values_of rs)

each_take : (P : ℕ → Type 0) (n : ℕ) (rs : List Row) → Each P rs → Each P (take n rs)
each_take P zero rs h = tt
each_take P (suc n) [] h = tt
each_take P (suc n) (None ∷ rs) h = each_take P n rs h
each_take P (suc n) (Some v ∷ rs) h = (h.0, each_take P n rs h.1)

each-drop : (P : ℕ → Type 0) (n : ℕ) (rs : List Row) → Each P rs → Each P (drop n rs)
each-drop P zero rs h = h
each-drop P (suc n) [] h = tt
each-drop P (suc n) (None ∷ rs) h = each-drop P n rs h
each-drop P (suc n) (Some v ∷ rs) h = each-drop P n rs h.1

each_append : (P : ℕ → Type 0) (xs ys : List Row) → Each P xs → Each P ys → Each P (xs ++ ys)
each_append P [] ys p q = q
each_append P (None ∷ xs) ys p q = each_append P xs ys p q
each_append P (Some v ∷ xs) ys p q = (p.0, each_append P xs ys p.1 q)

each-drawn : (P : ℕ → Type 0) (d : Source) (bs : List Bounds) (ps : List (ℕ × ℕ)) (rs : List Row) → Each P rs → Each P (drawn d bs ps rs)
each-drawn P d bs [] rs h = tt
each-drawn P d bs (p ∷ ps) rs h =
    let r = d seed (bounds_of p) bs in
    each_append P (take 64 (drop r rs)) (drawn d (bounds_of p ∷ bs) ps rs) (each_take P 64 (drop r rs) (each-drop P r rs h)) (each-drawn P d (bounds_of p ∷ bs) ps rs h)

each-by : (P : ℕ → Type 0) (q : Bool) (d : Source) (rs : List Row) → Each P rs → Each P (sample_by q d rs)
each-by P true d rs h = h
each-by P false d rs h = each-drawn P d [] (strata (length rs) (sample_count (length rs))) rs h

pub sample-clean : (d : Source) → Within d → (b : Bool) (c : Column) → Clean c → Clean (sample_of d b c)
sample-clean d w true c h = h
sample-clean d w false c h =
    let rs = c.rows in
    let l = sample-length d w rs in
    let f = leb-true (length rs) 131072 h.1 in
    let g : length (sample_rows d rs) ≤ 131072 = omega arith in (
      h.0,
      le-leb (length (sample_rows d rs)) 131072 g,
      stray-each c.kind 0 (sample_rows d rs) (each-by (λ x. in_kind c.kind x ≡ true) (leb (length rs) (64 * sample_count (length rs))) d rs (each-stray c.kind 0 rs h.2)),
    )

-- ---- what a call answers

pub none-drawn : (n k : ℕ) → k ≡ sample_count n → n ≤ 64 * k → None ≡ drawn_rows n
none-drawn n k e l = ap (λ q. drawn_rows_by q (sample_count n)) (sym (le-leb n (64 * sample_count n) (subst (λ (z : ℕ). n ≤ 64 * z) e l)))

pub some-drawn : (n k : ℕ) → k ≡ sample_count n → 64 * k < n → Some (64 * k) ≡ drawn_rows n
some-drawn n k e l =
    ap (λ z. Some (64 * z)) e ∙ ap (λ q. drawn_rows_by q (sample_count n)) (sym (lt-leb n (64 * sample_count n) (subst (λ (z : ℕ). 64 * z < n) e l)))

pub own : (d : Source) (c : Column) (cs ws : List ℕ) (n k : ℕ) → n ≡ length c.rows → k ≡ sample_count n → n ≤ 64 * k → Own d c cs ws cs ws
own d c cs ws n k r e l =
    let l' : n ≤ 64 * sample_count n = subst (λ (z : ℕ). n ≤ 64 * z) e l in
    let q = le-leb (length c.rows) (64 * sample_count (length c.rows)) (subst (λ (z : ℕ). z ≤ 64 * sample_count z) r l') in
    record { same = ap (λ b. record { kind = c.kind; rows = sample_by b d c.rows }) q; cells = refl; words = refl }

sampled-rows : (d : Source) → Within d → (rs : List Row) (n k : ℕ) → n ≡ length rs → k ≡ sample_count n → 64 * k < n → length (sample_rows d rs) ≡ 64 * k
sampled-rows d w rs n k r e l =
    let t : k ≡ sample_count (length rs) = e ∙ ap sample_count r in
    many (length (sample_rows d rs)) n k (sample-length d w rs ∙ (λ i. min (sym r i) (64 * sym t i))) l
  where
    many : (s n k : ℕ) → s ≡ min n (64 * k) → 64 * k < n → s ≡ 64 * k
    many s n k a b = omega arith

pub sampled-words : (d : Source) → Within d → (rs : List Row) (n k : ℕ) → n ≡ length rs → k ≡ sample_count n → 64 * k < n → length (presence (sample_rows d rs)) ≡ k
sampled-words d w rs n k r e l =
    let S = sample_rows d rs in
    length_digits (2 ^ 64) (words_for (length S)) (joined 2 (bits S)) ∙ ap words_for (sampled-rows d w rs n k r e l) ∙ whole k
  where
    whole : (k : ℕ) → words_for (64 * k) ≡ k
    whole k = omega arith

pub drawn-into : (d : Source) → Within d → (c : Column) (cs ws cs' ws' : List ℕ) (n k : ℕ) → Clean c → n ≡ length c.rows → k ≡ sample_count n → 64 * k < n
    → cs' ≡ written (cells (sample_rows d c.rows)) cs → ws' ≡ written (presence (sample_rows d c.rows)) ws → Drawn d c cs ws cs' ws' (64 * k)
drawn-into d w c cs ws cs' ws' n k h r e l p q =
    let S = sample_rows d c.rows in
    let len = sampled-rows d w c.rows n k r e l in
    let lc : 64 * k ≡ length (cells S) = sym (length-cells S ∙ len) in
    let lw : 64 * k / 64 ≡ length (presence S) = whole k ∙ sym (sampled-words d w c.rows n k r e l) in
    let pc : take (64 * k) cs' ≡ cells S = ap (λ z. take z cs') lc ∙ ap (take (length (cells S))) p ∙ take-written (cells S) cs in
    let pw : take (64 * k / 64) ws' ≡ presence S = ap (λ z. take z ws') lw ∙ ap (take (length (presence S))) q ∙ take-written (presence S) ws in
    record {
      rows = len;
      cells = p;
      words = q;
      offer = λ i. record { kind = c.kind; cells = sym pc i; words = sym pw i };
      clean = sample-clean d w false c h;
      member = sample-of-rows d c.rows;
    }
  where
    whole : (k : ℕ) → 64 * k / 64 ≡ k
    whole k = omega arith
