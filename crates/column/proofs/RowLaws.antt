-- Rows from bits and cells.
use Rattle.std.proofs.Common.{◌≡◌, ℕ, zero, suc, ◌/◌, ◌%◌, ◌^◌, ◌<◌, ◌≤◌, ◌||◌, eqb, List, [], ◌∷◌, ◌++◌, length, get_or, Some, None, sym, refl, ap, ◌∙◌, zero-le, suc-le-suc, le_refl, zero-lt-suc, div-one, one-add, arith, shr-shr}
use Rattle.std.specs.List.{AllByRecursion}
use Rattle.std.proofs.lemmas.Bool.{leb-true}
use Rattle.std.proofs.lemmas.List.{length-map}
use Rattle.packing.specs.Packing.{digits, Below}
pub use Rattle.packing.proofs.Digits.{length_digits}
use Rattle.column.specs.Columns.{Row, Column, Clean, Offer, cell_of, bit_of, cells, bits, row_of, rows_of, values_of, has_blank, word_bits, offered}
use Rattle.column.specs.Views.{is_value}

pub length-rows : (bs ws : List ℕ) → length (rows_of bs ws) ≡ length bs
length-rows [] ws = refl
length-rows (b ∷ bs) [] = ap suc (length-rows bs [])
length-rows (b ∷ bs) (w ∷ ws) = ap suc (length-rows bs ws)

pub length-offered : (o : Offer) → length (offered o) ≡ length o.cells
length-offered o = length-rows (word_bits (length o.cells) o.words) o.cells ∙ length_digits 2 (length o.cells) _

-- cells of rows are as many as the rows
pub length-cells : (rs : List Row) → length (cells rs) ≡ length rs
length-cells rs = length-map rs cell_of

-- ---- the bit of a place

pub digit_at : (n x i : ℕ) → i < n → get_or (digits 2 n x) i 0 ≡ x / 2 ^ i % 2
digit_at zero x i h = absurd (omega arith)
digit_at (suc n) x zero h = ap (λ z. z % 2) (sym (div-one x))
digit_at (suc n) x (suc i) h = digit_at n (x / 2) i (omega arith) ∙ ap (λ z. z % 2) (shr-shr x 1 i) ∙ ap (λ z. x / 2 ^ z % 2) (one-add i)

-- the row of a place
pub row_at : (bs ws : List ℕ) (i : ℕ) → i < length bs → get_or (rows_of bs ws) i None ≡ row_of (get_or bs i 0) (get_or ws i 0)
row_at [] ws i h = absurd (omega arith)
row_at (b ∷ bs) [] zero h = refl
row_at (b ∷ bs) [] (suc i) h = row_at bs [] i (omega arith)
row_at (b ∷ bs) (w ∷ ws) zero h = refl
row_at (b ∷ bs) (w ∷ ws) (suc i) h = row_at bs ws i (omega arith)

pub row-set : (b w : ℕ) → b ≡ 1 → row_of b w ≡ Some w
row-set b w e = ap (λ z. row_of z w) e

pub row-unset : (b w : ℕ) → b < 2 → (b ≡ 1 → ⊥) → row_of b w ≡ None
row-unset zero w l h = refl
row-unset (suc zero) w l h = absurd (h refl)
row-unset (suc (suc b)) w l h = absurd (omega arith)

pub cell_set : (b w : ℕ) → b ≡ 1 → w ≡ cell_of (row_of b w)
cell_set b w e = sym (ap cell_of (row-set b w e))

pub cell-unset : (b w : ℕ) → b < 2 → (b ≡ 1 → ⊥) → 0 ≡ cell_of (row_of b w)
cell-unset b w l h = sym (ap cell_of (row-unset b w l h))

pub row_is : (b w : ℕ) → b < 2 → is_value (row_of b w) ≡ eqb b 1
row_is zero w h = refl
row_is (suc zero) w h = refl
row_is (suc (suc b)) w h = absurd (omega arith)

-- ---- the two lists of rows that bits and cells made

bit-row : (b w : ℕ) → b < 2 → bit_of (row_of b w) ≡ b
bit-row zero w h = refl
bit-row (suc zero) w h = refl
bit-row (suc (suc b)) w h = absurd (omega arith)

pub bits-rows : (n x : ℕ) (ws : List ℕ) → bits (rows_of (digits 2 n x) ws) ≡ digits 2 n x
bits-rows zero x ws = refl
bits-rows (suc n) x [] = λ i. bit-row (x % 2) 0 (omega arith) i ∷ bits-rows n (x / 2) [] i
bits-rows (suc n) x (w ∷ ws) = λ i. bit-row (x % 2) w (omega arith) i ∷ bits-rows n (x / 2) ws i

row-again : (b w : ℕ) → row_of b (cell_of (row_of b w)) ≡ row_of b w
row-again zero w = refl
row-again (suc b) w = refl

-- the cells with 0 under blanks make the same rows
pub rows-again : (bs ws : List ℕ) → rows_of bs (cells (rows_of bs ws)) ≡ rows_of bs ws
rows-again [] ws = refl
rows-again (b ∷ bs) [] = λ i. row-again b 0 i ∷ rows-again bs [] i
rows-again (b ∷ bs) (w ∷ ws) = λ i. row-again b w i ∷ rows-again bs ws i

row-alike : (b x y : ℕ) → b < 2 → (b ≡ 1 → x ≡ y) → row_of b x ≡ row_of b y
row-alike zero x y l h = refl
row-alike (suc zero) x y l h = ap {B = Row} Some (h refl)
row-alike (suc (suc b)) x y l h = absurd (omega arith)

-- cells that differ only where the bit is 0 make the same rows
pub rows_alike : (n x : ℕ) (us vs : List ℕ) → ((i : ℕ) → get_or (digits 2 n x) i 0 ≡ 1 → get_or us i 0 ≡ get_or vs i 0) → rows_of (digits 2 n x) us ≡ rows_of (digits 2 n x) vs
rows_alike zero x us vs h = refl
rows_alike (suc n) x [] [] h = refl
rows_alike (suc n) x [] (v ∷ vs) h = λ i. row-alike (x % 2) 0 v (omega arith) (h 0) i ∷ rows_alike n (x / 2) [] vs (λ k. h (suc k)) i
rows_alike (suc n) x (u ∷ us) [] h = λ i. row-alike (x % 2) u 0 (omega arith) (h 0) i ∷ rows_alike n (x / 2) us [] (λ k. h (suc k)) i
rows_alike (suc n) x (u ∷ us) (v ∷ vs) h = λ i. row-alike (x % 2) u v (omega arith) (h 0) i ∷ rows_alike n (x / 2) us vs (λ k. h (suc k)) i

-- what holds of each cell, and of 0, holds of each value
all_row : (P : ℕ → Type 0) (b w : ℕ) (rs : List Row) → P w → AllByRecursion P (values_of rs) → AllByRecursion P (values_of (row_of b w ∷ rs))
all_row P zero w rs p a = a
all_row P (suc b) w rs p a = (p, a)

pub all-rows : (P : ℕ → Type 0) (bs ws : List ℕ) → P 0 → AllByRecursion P ws → AllByRecursion P (values_of (rows_of bs ws))
all-rows P [] ws p a = tt
all-rows P (b ∷ bs) [] p a = all_row P b 0 (rows_of bs []) p (all-rows P bs [] p a)
all-rows P (b ∷ bs) (w ∷ ws) p a = all_row P b w (rows_of bs ws) a.0 (all-rows P bs ws p a.1)

-- ---- rows in two parts

pub rows_append : (bs cs xs ys : List ℕ) → length bs ≡ length xs → rows_of (bs ++ cs) (xs ++ ys) ≡ rows_of bs xs ++ rows_of cs ys
rows_append [] cs [] ys e = refl
rows_append [] cs (x ∷ xs) ys e = absurd (omega arith)
rows_append (b ∷ bs) cs [] ys e = absurd (omega arith)
rows_append (b ∷ bs) cs (x ∷ xs) ys e = ap (λ (rs : List Row). row_of b x ∷ rs) (rows_append bs cs xs ys (omega arith))

pub values-append : (xs ys : List Row) → values_of (xs ++ ys) ≡ values_of xs ++ values_of ys
values-append [] ys = refl
values-append (None ∷ xs) ys = values-append xs ys
values-append (Some w ∷ xs) ys = ap (λ vs. w ∷ vs) (values-append xs ys)

pub blank-append : (xs ys : List Row) → has_blank (xs ++ ys) ≡ (has_blank xs || has_blank ys)
blank-append [] ys = refl
blank-append (None ∷ xs) ys = refl
blank-append (Some w ∷ xs) ys = blank-append xs ys

-- ---- bits, cells and values of rows

pub length-bits : (rs : List Row) → length (bits rs) ≡ length rs
length-bits rs = length-map rs bit_of

pub below-bits : (rs : List Row) → Below 2 (bits rs)
below-bits [] = tt
below-bits (None ∷ rs) = (zero-lt-suc 1, below-bits rs)
below-bits (Some w ∷ rs) = (le_refl 2, below-bits rs)

-- rows come back from their bits and cells
pub rows_back : (rs : List Row) → rows_of (bits rs) (cells rs) ≡ rs
rows_back [] = refl
rows_back (None ∷ rs) = ap (λ (xs : List Row). None ∷ xs) (rows_back rs)
rows_back (Some w ∷ rs) = ap (λ (xs : List Row). Some w ∷ xs) (rows_back rs)

-- no more values than rows
pub length-values : (rs : List Row) → length (values_of rs) ≤ length rs
length-values [] = zero-le
length-values (None ∷ rs) = let h = length-values rs in omega arith
length-values (Some w ∷ rs) = suc-le-suc (length-values rs)

-- ---- clean columns

pub clean-kind : (c : Column) → Clean c → c.kind ≤ 7
clean-kind c h = leb-true c.kind 7 h.0

pub clean-short : (c : Column) → Clean c → length c.rows ≤ 131072
clean-short c h = leb-true (length c.rows) 131072 h.1
