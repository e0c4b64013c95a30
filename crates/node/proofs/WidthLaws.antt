-- Cells at a kind's width, and back.
use Rattle.std.proofs.Common.{◌≡◌, ℕ, zero, suc, ◌+◌, ◌-◌, ◌%◌, ◌^◌, ◌<◌, ◌≤◌, Bool, true, false, cond, ltb, ◌⊎◌, List, [], ◌∷◌, ◌++◌, map, length, get_or, take, drop, set, Some, None, Option, sym, refl, ap, ◌∙◌, inl, inr, arith, length-append}
use Rattle.std.specs.List.{AllByRecursion}
use Rattle.std.proofs.lemmas.List.Edits.{map_over_more}
use Rattle.std.proofs.lemmas.List.{drop_more, get_or_at, get_or_default, length-drop, length-map, length-take-le}
use Rattle.std.proofs.lemmas.Bool.{false≢true, ltb-true, ltb-false, lt-ltb, le-ltb, cases_lt, cond-true, cond-false, cond_both}
use Rattle.packing.specs.Packing.{packed_len, low_bits, Below}
use Rattle.packing.proofs.Below.{length-low_bits, below-low_bits}
use Rattle.packing.proofs.Packed.{length-packed, below-packed, unpacked-front, unpacked-take, drop-packed}
use Rattle.column.specs.Kinds.{width, signed, greatest, in_kind}
use Rattle.column.specs.Columns.{Row, Column, cells, values_of, values, stray_by, stray_from, Clean}
use Rattle.column.proofs.KindLaws.{bounds}
use Rattle.column.proofs.RowLaws.{clean-kind}
use Rattle.node.specs.Payloads.{widen_by, widen, at_width, from_width}

-- a kind is one of eight
by_kind : (P : ℕ → Type 0) → P 0 → P 1 → P 2 → P 3 → P 4 → P 5 → P 6 → P 7 → (k : ℕ) → k ≤ 7 → P k
by_kind P p0 p1 p2 p3 p4 p5 p6 p7 zero h = p0
by_kind P p0 p1 p2 p3 p4 p5 p6 p7 (suc zero) h = p1
by_kind P p0 p1 p2 p3 p4 p5 p6 p7 (suc (suc zero)) h = p2
by_kind P p0 p1 p2 p3 p4 p5 p6 p7 (suc (suc (suc zero))) h = p3
by_kind P p0 p1 p2 p3 p4 p5 p6 p7 (suc (suc (suc (suc zero)))) h = p4
by_kind P p0 p1 p2 p3 p4 p5 p6 p7 (suc (suc (suc (suc (suc zero))))) h = p5
by_kind P p0 p1 p2 p3 p4 p5 p6 p7 (suc (suc (suc (suc (suc (suc zero)))))) h = p6
by_kind P p0 p1 p2 p3 p4 p5 p6 p7 (suc (suc (suc (suc (suc (suc (suc zero))))))) h = p7
by_kind P p0 p1 p2 p3 p4 p5 p6 p7 (suc (suc (suc (suc (suc (suc (suc (suc k)))))))) h = absurd (omega arith)

abbrev pub InKind : ℕ → ℕ → Type 0
InKind k w = in_kind k w ≡ true

pub width-most : (k : ℕ) → k ≤ 7 → width k ≤ 64
width-most = by_kind (λ k. width k ≤ 64) (omega arith) (omega arith) (omega arith) (omega arith) (omega arith) (omega arith) (omega arith) (omega arith)

pub width-least : (k : ℕ) → k ≤ 7 → 8 ≤ width k
width-least = by_kind (λ k. 8 ≤ width k) (omega arith) (omega arith) (omega arith) (omega arith) (omega arith) (omega arith) (omega arith) (omega arith)

pub zero_in : (k : ℕ) → k ≤ 7 → InKind k 0
zero_in = by_kind (λ k. InKind k 0) refl refl refl refl refl refl refl refl

-- ---- the low bits of a value, widened, are the value

abbrev Widens : ℕ → Type 0
Widens k = (w : ℕ) → InKind k w → widen_by (signed k) (width k) (w % 2 ^ width k) ≡ w

pub widen_low : (k : ℕ) → k ≤ 7 → Widens k
widen_low =
    by_kind Widens
    (λ w h. let b = bounds 0 w h in omega arith)
    (λ w h. let b = bounds 1 w h in omega arith)
    (λ w h. let b = bounds 2 w h in omega arith)
    (λ w h. let b = bounds 3 w h in omega arith)
    (λ w h. let b = bounds 4 w h in cond_both (ltb (w % 2 ^ 8) (2 ^ 7)) (w % 2 ^ 8) (w % 2 ^ 8 + (2 ^ 64 - 2 ^ 8)) (λ x. x ≡ w) (λ e. let t = ltb-true _ _ e in omega arith) (λ e. let t = ltb-false _ _ e in omega arith))
    (λ w h. let b = bounds 5 w h in cond_both (ltb (w % 2 ^ 16) (2 ^ 15)) (w % 2 ^ 16) (w % 2 ^ 16 + (2 ^ 64 - 2 ^ 16)) (λ x. x ≡ w) (λ e. let t = ltb-true _ _ e in omega arith) (λ e. let t = ltb-false _ _ e in omega arith))
    (λ w h. let b = bounds 6 w h in cond_both (ltb (w % 2 ^ 32) (2 ^ 31)) (w % 2 ^ 32) (w % 2 ^ 32 + (2 ^ 64 - 2 ^ 32)) (λ x. x ≡ w) (λ e. let t = ltb-true _ _ e in omega arith) (λ e. let t = ltb-false _ _ e in omega arith))
    (λ w h. let b = bounds 7 w h in cond_both (ltb (w % 2 ^ 64) (2 ^ 63)) (w % 2 ^ 64) (w % 2 ^ 64 + (2 ^ 64 - 2 ^ 64)) (λ x. x ≡ w) (λ e. omega arith) (λ e. omega arith))

pub widen-all : (k : ℕ) (ws : List ℕ) → k ≤ 7 → AllByRecursion (InKind k) ws → widen k (low_bits (width k) ws) ≡ ws
widen-all k [] h a = refl
widen-all k (w ∷ ws) h a = λ i. widen_low k h w a.0 i ∷ widen-all k ws h a.1 i

-- ---- cells as bytes

pub length-at_width : (k : ℕ) (ws : List ℕ) → length (at_width k ws) ≡ packed_len (width k) (length ws)
length-at_width k ws = length-packed (width k) (low_bits (width k) ws) ∙ ap (packed_len (width k)) (length-low_bits (width k) ws)

pub below-at_width : (k : ℕ) (ws : List ℕ) → Below 256 (at_width k ws)
below-at_width k ws = below-packed (width k) (low_bits (width k) ws)

-- values of the kind come back, whatever follows
pub width_back : (k n : ℕ) (ws rest : List ℕ) → k ≤ 7 → length ws ≡ n → AllByRecursion (InKind k) ws → from_width k n (at_width k ws ++ rest) ≡ ws
width_back k n ws rest h e a =
    let xs = low_bits (width k) ws in
    let l : length xs ≡ n = length-low_bits (width k) ws ∙ e in
    ap (widen k) (unpacked-take (width k) n (at_width k ws ++ rest) ∙ unpacked-front (width k) n xs rest l (below-low_bits (width k) ws)) ∙ widen-all k ws h a

-- what follows them
pub after-width : (k n : ℕ) (ws rest : List ℕ) → length ws ≡ n → drop (packed_len (width k) n) (at_width k ws ++ rest) ≡ rest
after-width k n ws rest e = drop-packed (width k) n (low_bits (width k) ws) rest (length-low_bits (width k) ws ∙ e)

-- ---- clean columns

stray-step : (k i w : ℕ) (later : Option ℕ) → stray_by (in_kind k w) i later ≡ None → InKind k w × (later ≡ None)
stray-step k i w later e = go (in_kind k w) refl e
  where
    go : (q : Bool) → in_kind k w ≡ q → stray_by q i later ≡ None → InKind k w × (later ≡ None)
    go true g f = (g, f)
    go false g f = absurd (let z : ◌≡◌ {A = ℕ} 0 1 = cc in omega arith)

stray-values : (k i : ℕ) (rs : List Row) → stray_from k i rs ≡ None → AllByRecursion (InKind k) (values_of rs)
stray-values k i [] e = tt
stray-values k i (None ∷ rs) e = stray-values k (suc i) rs e
stray-values k i (Some w ∷ rs) e = let s = stray-step k i w (stray_from k (suc i) rs) e in (s.0, stray-values k (suc i) rs s.1)

cells-all : (P : ℕ → Type 0) (rs : List Row) → P 0 → AllByRecursion P (values_of rs) → AllByRecursion P (cells rs)
cells-all P [] z a = tt
cells-all P (None ∷ rs) z a = (z, cells-all P rs z a)
cells-all P (Some w ∷ rs) z a = (a.0, cells-all P rs z a.1)

pub clean-values : (c : Column) → Clean c → AllByRecursion (InKind c.kind) (values c)
clean-values c h = stray-values c.kind 0 c.rows h.2

pub clean-cells : (c : Column) → Clean c → AllByRecursion (InKind c.kind) (cells c.rows)
clean-cells c h = cells-all (InKind c.kind) c.rows (zero_in c.kind (clean-kind c h)) (clean-values c h)

-- ---- the sign, cell by cell: those above the greatest value move up

abbrev pub raised : ℕ → ℕ → ℕ → ℕ
raised g p w = cond (ltb g w) (w + p) w

flipped : (g p w : ℕ) → raised g p w ≡ cond (ltb w (suc g)) w (w + p)
flipped g p w = go (cases_lt g w)
  where
    go : (g < w) ⊎ (w ≤ g) → raised g p w ≡ cond (ltb w (suc g)) w (w + p)
    go (inl l) = cond-true (ltb g w) (w + p) w (lt-ltb g w l) ∙ sym (cond-false (ltb w (suc g)) w (w + p) (le-ltb w (suc g) l))
    go (inr l) = cond-false (ltb g w) (w + p) w (le-ltb g w l) ∙ sym (cond-true (ltb w (suc g)) w (w + p) (lt-ltb w (suc g) (omega arith)))

-- how far a negative value's cell at the width stands below its word
abbrev pub gap : ℕ → ℕ
gap k = 2 ^ 64 - 2 ^ width k

pub raised-widens : (k : ℕ) → k ≤ 7 → signed k ≡ true → (w : ℕ) → raised (greatest k) (gap k) w ≡ widen_by (signed k) (width k) w
raised-widens =
    by_kind (λ k. signed k ≡ true → (w : ℕ) → raised (greatest k) (gap k) w ≡ widen_by (signed k) (width k) w)
    (λ e w. absurd (false≢true e)) (λ e w. absurd (false≢true e)) (λ e w. absurd (false≢true e)) (λ e w. absurd (false≢true e))
    (λ e w. flipped (2 ^ 7 - 1) (gap 4) w) (λ e w. flipped (2 ^ 15 - 1) (gap 5) w) (λ e w. flipped (2 ^ 31 - 1) (gap 6) w) (λ e w. flipped (2 ^ 63 - 1) (gap 7) w)

-- the sum is a word
pub gap-room : (k : ℕ) → k ≤ 7 → (w : ℕ) → w < 2 ^ width k → w + gap k < 2 ^ 64
gap-room =
    by_kind (λ k. (w : ℕ) → w < 2 ^ width k → w + gap k < 2 ^ 64)
    (λ w l. omega arith) (λ w l. omega arith) (λ w l. omega arith) (λ w l. omega arith) (λ w l. omega arith) (λ w l. omega arith) (λ w l. omega arith) (λ w l. omega arith)

pub raise-all : (k : ℕ) (ws : List ℕ) → k ≤ 7 → signed k ≡ true → map (raised (greatest k) (gap k)) ws ≡ widen k ws
raise-all k [] h e = refl
raise-all k (w ∷ ws) h e = λ i. raised-widens k h e w i ∷ raise-all k ws h e i

pub stay_all : (k : ℕ) (ws : List ℕ) → signed k ≡ false → widen k ws ≡ ws
stay_all k [] e = refl
stay_all k (w ∷ ws) e = λ i. ap (λ q. widen_by q (width k) w) e i ∷ stay_all k ws e i

-- the loop's turn: where raised and not
pub raised_at : (f : ℕ → ℕ) (xs ys : List ℕ) (i : ℕ) → i < length xs → ys ≡ map f (take i xs) ++ drop i xs → get_or ys i 0 ≡ get_or xs i 0
raised_at f xs ys i h e =
    ap (λ zs. get_or zs i 0) (e ∙ ap (λ zs. map f (take i xs) ++ zs) (drop_more xs i 0 h))
    ∙ get_or_at (map f (take i xs)) (get_or xs i 0) (drop (i + 1) xs) 0 i (length-map (take i xs) f ∙ length-take-le i xs (omega arith))

raised-turn : (g p : ℕ) (xs ys : List ℕ) (i : ℕ) → i < length xs → ys ≡ map (raised g p) (take i xs) ++ drop i xs → (zs : List ℕ) → zs ≡ set ys i (raised g p (get_or ys i 0))
    → zs ≡ map (raised g p) (take (i + 1) xs) ++ drop (i + 1) xs
raised-turn g p xs ys i h e zs z =
    let l = ap length e ∙ length-append (map (raised g p) (take i xs)) (drop i xs) in
    let a = length-map (take i xs) (raised g p) ∙ length-take-le i xs (omega arith) in
    let d = length-drop i xs in
    z ∙ map_over_more (raised g p) xs ys i (get_or ys i 0) h e (get_or_default ys i 0 (get_or ys i 0) (omega arith))

pub raised-more : (g p : ℕ) (xs ys : List ℕ) (i : ℕ) → i < length xs → ys ≡ map (raised g p) (take i xs) ++ drop i xs → g < get_or ys i 0
    → (zs : List ℕ) → zs ≡ set ys i (get_or ys i 0 + p) → zs ≡ map (raised g p) (take (i + 1) xs) ++ drop (i + 1) xs
raised-more g p xs ys i h e l zs z =
    raised-turn g p xs ys i h e zs (z ∙ ap (set ys i) (sym (cond-true (ltb g (get_or ys i 0)) (get_or ys i 0 + p) (get_or ys i 0) (lt-ltb g (get_or ys i 0) l))))

pub raised-same : (g p : ℕ) (xs ys : List ℕ) (i : ℕ) → i < length xs → ys ≡ map (raised g p) (take i xs) ++ drop i xs → get_or ys i 0 ≤ g
    → (zs : List ℕ) → zs ≡ set ys i (get_or ys i 0) → zs ≡ map (raised g p) (take (i + 1) xs) ++ drop (i + 1) xs
raised-same g p xs ys i h e l zs z =
    raised-turn g p xs ys i h e zs (z ∙ ap (set ys i) (sym (cond-false (ltb g (get_or ys i 0)) (get_or ys i 0 + p) (get_or ys i 0) (le-ltb g (get_or ys i 0) l))))

pub below_at : (b : ℕ) (xs : List ℕ) (i : ℕ) → i < length xs → Below b xs → get_or xs i 0 < b
below_at b [] i h a = absurd (omega arith)
below_at b (x ∷ xs) zero h a = a.0
below_at b (x ∷ xs) (suc i) h a = below_at b xs i (omega arith) a.1
