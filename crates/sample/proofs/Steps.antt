-- One stratum more: what is written and what is left to draw.
use Rattle.std.proofs.Common.{◌≡◌, ℕ, zero, suc, ◌+◌, ◌-◌, ◌*◌, ◌/◌, ◌%◌, ◌^◌, ◌<◌, ◌≤◌, false, leb, List, [], ◌∷◌, ◌++◌, length, get_or, take, drop, set, sym, ap, ◌∙◌, subst, add-one, arith, length-drop, length-take}
use borrow.Rule.Slice.PartMut.{put_mid}
use Rattle.std.proofs.lemmas.List.{append-nil, drop_more, drop_all, drop-map, length-map, map-append, take-map}
use Rattle.std.proofs.lemmas.Bool.{lt-leb}
use Rattle.packing.specs.Packing.{joined, written, written_at}
use Rattle.packing.proofs.Written.{written_at-none, written_at-one, written_at-++}
use Rattle.column.specs.declared.views.View.{View}
use Rattle.column.specs.Columns.{Row, Sound, CleanView, cell_of, cells, bits, presence, seen}
use Rattle.column.proofs.ViewLaws.{view-words}
use Rattle.column.proofs.WordLaws.{presence-joined}
use Rattle.sample.specs.Draws.{Bounds, Source, Within}
use Rattle.sample.specs.Samples.{sample_count, strata, seed, bounds_of, drawn, sample_by, sample_rows}
use Rattle.sample.specs.Laws.{stratum_at}
use Rattle.sample.proofs.StrataLaws.{wide, ends}
use Rattle.sample.proofs.Joins.{presence-more, block-word}

-- the bounds asked for the first i strata
abbrev pub asked : List (ℕ × ℕ) → ℕ → List Bounds
asked ps zero = []
asked ps (suc i) = bounds_of (get_or ps i (0, 0)) ∷ asked ps i

-- the rows that the strata from i on give
abbrev pub rest : Source → List (ℕ × ℕ) → ℕ → List Row → List Row
rest d ps i rs = drawn d (asked ps i) (drop i ps) rs

rest_more : (d : Source) (ps : List (ℕ × ℕ)) (i : ℕ) (rs : List Row) → i < length ps
    → rest d ps i rs ≡ take 64 (drop (d seed (bounds_of (get_or ps i (0, 0))) (asked ps i)) rs) ++ rest d ps (i + 1) rs
rest_more d ps i rs h =
    ap (λ z. drawn d (asked ps i) z rs) (drop_more ps i (0, 0) h)
    ∙ ap (λ z. take 64 (drop (d seed (bounds_of (get_or ps i (0, 0))) (asked ps i)) rs) ++ drawn d z (drop (i + 1) ps) rs) (ap (asked ps) (sym (add-one i)))

-- a draw from a stratum's bounds leaves room for 64 rows
pub draw-room : (d : Source) → Within d → (n k i : ℕ) (bs : List Bounds) (p : ℕ × ℕ) (f : ℕ) → i < k → 64 * k ≤ n → p ≡ stratum_at n k i → f ≡ d seed (bounds_of p) bs → f + 64 ≤ n
draw-room d w n k i bs p f h l q e =
    let a = wide n k i h l in
    let b = ends n k i h in
    let o : (stratum_at n k i).0 ≤ (stratum_at n k i).1 - 64 = omega arith in
    let t = w seed (bounds_of (stratum_at n k i)) bs o in
    let g = e ∙ ap (λ z. d seed (bounds_of z) bs) q in
    omega (arith, t, g, b, a)

block-length : (rs : List Row) (f : ℕ) → f + 64 ≤ length rs → length (take 64 (drop f rs)) ≡ 64
block-length rs f h = let a = length-take 64 (drop f rs) in let b = length-drop f rs in omega arith

pub cells-more : (d : Source) (ps : List (ℕ × ℕ)) (i : ℕ) (rs : List Row) (vc out out2 goal : List ℕ) (f : ℕ) → i < length ps → vc ≡ cells rs
    → f ≡ d seed (bounds_of (get_or ps i (0, 0))) (asked ps i) → f + 64 ≤ length rs → 64 * i + 64 ≤ length out
    → out2 ≡ written_at (64 * i) (take 64 (drop f vc)) out → written_at (64 * i) (cells (rest d ps i rs)) out ≡ goal
    → written_at (64 * (i + 1)) (cells (rest d ps (i + 1) rs)) out2 ≡ goal
cells-more d ps i rs vc out out2 goal f h v e r room o now =
    let blk = take 64 (drop f rs) in
    let after = rest d ps (i + 1) rs in
    let whole : cells (rest d ps i rs) ≡ cells blk ++ cells after =
    ap cells (rest_more d ps i rs h ∙ ap (λ z. take 64 (drop z rs) ++ after) (sym e)) ∙ map-append cell_of blk after in
    let part : take 64 (drop f vc) ≡ cells blk = ap (λ z. take 64 (drop f z)) v ∙ ap (take 64) (drop-map cell_of f rs) ∙ take-map cell_of 64 (drop f rs) in
    let len : length (cells blk) ≡ 64 = length-map blk cell_of ∙ block-length rs f r in
    let at : 64 * (i + 1) ≡ 64 * i + length (cells blk) = omega arith in
    let le : 64 * i ≤ length out = omega arith in
    ap (λ z. written_at z (cells after) out2) at
    ∙ ap (λ z. written_at (64 * i + length (cells blk)) (cells after) z) (o ∙ ap (λ z. written_at (64 * i) z out) part)
    ∙ sym (written_at-++ (64 * i) (cells blk) (cells after) out le)
    ∙ ap (λ z. written_at (64 * i) z out) (sym whole)
    ∙ now

pub words_more : (d : Source) (ps : List (ℕ × ℕ)) (i : ℕ) (rs : List Row) (out goal : List ℕ) (f w : ℕ) → i < length ps
    → f ≡ d seed (bounds_of (get_or ps i (0, 0))) (asked ps i) → f + 64 ≤ length rs → i < length out
    → w ≡ joined 2 (bits (take 64 (drop f rs))) → written_at i (presence (rest d ps i rs)) out ≡ goal
    → written_at (i + 1) (presence (rest d ps (i + 1) rs)) (set out i w) ≡ goal
words_more d ps i rs out goal f w h e r room o now =
    let blk = take 64 (drop f rs) in
    let after = rest d ps (i + 1) rs in
    let whole : presence (rest d ps i rs) ≡ w ∷ presence after =
    ap presence (rest_more d ps i rs h ∙ ap (λ z. take 64 (drop z rs) ++ after) (sym e)) ∙ presence-more blk after (block-length rs f r) ∙ ap (λ z. z ∷ presence after) (sym o) in
    let le : i ≤ length out = omega arith in
    ap (λ z. written_at (i + 1) (presence after) z) (sym (written_at-one i w out room))
    ∙ sym (written_at-++ i (w ∷ []) (presence after) out le)
    ∙ ap (λ z. written_at i z out) (sym whole)
    ∙ now

pub put_is : (at f : ℕ) (out cs part : List ℕ) → f + 64 ≤ length cs → part ≡ take (f + 64 - f) (drop f cs) → put_mid at (at + 64 - at) out part ≡ written_at at (take 64 (drop f cs)) out
put_is at f out cs part h e =
    let n : f + 64 - f ≡ 64 = omega arith in
    let m : at + 64 - at ≡ 64 = omega arith in
    let s : part ≡ take 64 (drop f cs) = e ∙ ap (λ z. take z (drop f cs)) n in
    let a = length-take 64 (drop f cs) in
    let b = length-drop f cs in
    let l : 64 ≡ length (take 64 (drop f cs)) = omega arith in
    ap (λ z. put_mid at z out part) (m ∙ l) ∙ ap (λ z. put_mid at (length (take 64 (drop f cs))) out z) s

-- the front of a lent place, all of it written
pub front_is : (new part out : List ℕ) (k : ℕ) → length part ≡ k → new ≡ written part (take k out) → new ++ drop k out ≡ written part out
front_is new part out k e q =
    let t = length-take k out in
    let d : drop (length part) (take k out) ≡ [] = drop_all (length part) (take k out) (omega arith) in
    ap (λ z. z ++ drop k out) (q ∙ ap (λ z. part ++ z) d ∙ append-nil part) ∙ ap (λ z. part ++ drop z out) (sym e)

-- all strata are drawn
rest-none : (d : Source) (ps : List (ℕ × ℕ)) (i : ℕ) (rs : List Row) → length ps ≤ i → rest d ps i rs ≡ []
rest-none d ps i rs h = ap (λ z. drawn d (asked ps i) z rs) (drop_all i ps h)

pub cells-all : (d : Source) (ps : List (ℕ × ℕ)) (i : ℕ) (rs : List Row) (out goal : List ℕ) → length ps ≤ i → written_at (64 * i) (cells (rest d ps i rs)) out ≡ goal → out ≡ goal
cells-all d ps i rs out goal h now = sym (ap (λ z. written_at (64 * i) (cells z) out) (rest-none d ps i rs h) ∙ written_at-none (64 * i) out) ∙ now

pub words-all : (d : Source) (ps : List (ℕ × ℕ)) (i : ℕ) (rs : List Row) (out goal : List ℕ) → length ps ≤ i → written_at i (presence (rest d ps i rs)) out ≡ goal → out ≡ goal
words-all d ps i rs out goal h now = sym (ap (λ z. written_at i (presence z) out) (rest-none d ps i rs h) ∙ written_at-none i out) ∙ now

-- a column with more rows than its sample
pub sample-large : (d : Source) (rs : List Row) (n k : ℕ) → n ≡ length rs → k ≡ sample_count n → 64 * k < n → rest d (strata n k) 0 rs ≡ sample_rows d rs
sample-large d rs n k e f l =
    let l' : 64 * sample_count n < n = subst (λ (z : ℕ). 64 * z < n) f l in
    let g : leb (length rs) (64 * sample_count (length rs)) ≡ false = subst (λ (z : ℕ). leb z (64 * sample_count z) ≡ false) e (lt-leb n (64 * sample_count n) l') in
    ap (λ z. drawn d [] (strata n z) rs) f ∙ ap (λ z. drawn d [] (strata z (sample_count z)) rs) e ∙ ap (λ z. sample_by z d rs) (sym g)

-- the source after one draw more
pub after_more : {S : Type 0} (after : ℕ → List Bounds → S) (ps : List (ℕ × ℕ)) (i : ℕ) (p : ℕ × ℕ) (s : S) → p ≡ get_or ps i (0, 0) → s ≡ after seed (bounds_of p ∷ asked ps i) → s ≡ after seed (asked ps (i + 1))
after_more after ps i p s e m = m ∙ ap (λ q. after seed (bounds_of q ∷ asked ps i)) e ∙ ap (λ z. after seed (asked ps z)) (sym (add-one i))

-- ---- a view of a cleaned column

-- a word for each 64 rows
pub words-room : (v : View) → Sound v → (f : ℕ) → f + 64 ≤ length v.cells.now → f + 64 ≤ 64 * length v.words.now
words-room v s f l = omega (arith, s.words)

pub word-is : (v : View) → CleanView v → (f w : ℕ) → w ≡ joined (2 ^ 64) v.words.now / 2 ^ f % 2 ^ 64 → w ≡ joined 2 (bits (take 64 (drop f (seen v).rows)))
word-is v h f w e =
    e
    ∙ ap (λ z. joined (2 ^ 64) z / 2 ^ f % 2 ^ 64) (view-words v h)
    ∙ ap (λ z. z / 2 ^ f % 2 ^ 64) (presence-joined (seen v).rows)
    ∙ sym (block-word (seen v).rows f)
