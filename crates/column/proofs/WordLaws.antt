-- Presence words: their bits by rows, and rows by blocks of 64.
use Rattle.std.proofs.Common.{◌≡◌, ℕ, zero, suc, ◌+◌, ◌-◌, ◌*◌, ◌/◌, ◌%◌, ◌^◌, ◌<◌, ◌≤◌, eqb, ltb, ◌⊎◌, List, [], ◌∷◌, ◌++◌, length, get_or, drop, None, sym, ap, ◌∙◌, inl, inr, le_trans, le_of_eq, lt_of_lt_of_le, pow_mono, mul_assoc, pow-suc, zero-add, zero-mul, mul-one, div-one, one-add, arith, shr-shr}
use native.Mathlib.Nat.{zero-div, div-eq_of_lt}
use Rattle.std.specs.List.{AllByRecursion}
use Rattle.std.proofs.lemmas.Bool.{cases_lt, lt-ltb, le-ltb, eq-eqb, ne_eqb}
use Rattle.std.proofs.lemmas.Nat.{div-mul-add, mod_below, pow_pos, pow-add, shr_split}
use Rattle.std.proofs.lemmas.List.{drop_more, drop_all, nil_from_length}
use Rattle.packing.specs.Packing.{joined, digits}
use Rattle.packing.proofs.Digits.{bits-lt, joined-digits, digits-joined}
use Rattle.packing.proofs.Packed.{pow-mul}
use Rattle.column.specs.Columns.{Row, Column, Offer, bits, cells, row_of, rows_of, word_bits, words_for, presence, offer_of, offered, cleaned}
use Rattle.column.specs.Views.{is_value, block_rows}
use Rattle.column.proofs.RowLaws.{length_digits, length-rows, length-bits, length-cells, below-bits, rows_back, digit_at, row_at, row_is}

-- each word is a 64-bit word
abbrev pub Words : List ℕ → Type 0
Words ws = AllByRecursion (λ w. w < 2 ^ 64) ws

-- ---- one bit

doubled : (J d : ℕ) → J * 2 ^ suc d ≡ J * 2 ^ d * 2
doubled J d = ap (λ z. J * z) (pow-suc 2 d) ∙ sym (mul_assoc J (2 ^ d) 2)

halved : (w i : ℕ) → w / 2 ^ suc i ≡ w / 2 / 2 ^ i
halved w i = sym (shr-shr w 1 i ∙ ap (λ z. w / 2 ^ z) (one-add i))

-- bits below d are those of the part below 2 ^ d
pub bit-low : (d i J w : ℕ) → i < d → (J * 2 ^ d + w) / 2 ^ i % 2 ≡ w / 2 ^ i % 2
bit-low zero i J w h = absurd (omega arith)
bit-low (suc d) zero J w h =
    let e = doubled J d in
    ap (λ z. z % 2) (div-one (J * 2 ^ suc d + w)) ∙ omega arith ∙ ap (λ z. z % 2) (sym (div-one w))
bit-low (suc d) (suc i) J w h =
    let e = doubled J d in
    let half : (J * 2 ^ suc d + w) / 2 ≡ J * 2 ^ d + w / 2 = omega arith in
    ap (λ z. z % 2) (halved (J * 2 ^ suc d + w) i) ∙ ap (λ z. z / 2 ^ i % 2) half ∙ bit-low d i J (w / 2) (omega arith) ∙ ap (λ z. z % 2) (sym (halved w i))

-- bits from d on are those of the part above
pub bit_high : (d i J w : ℕ) → w < 2 ^ d → (J * 2 ^ d + w) / 2 ^ (d + i) ≡ J / 2 ^ i
bit_high d i J w h = sym (shr-shr (J * 2 ^ d + w) d i) ∙ ap (λ z. z / 2 ^ i) (div-mul-add J (2 ^ d) w h)

-- bit i of the words is bit i % 64 of the word i / 64
pub words-bit : (ws : List ℕ) (i : ℕ) → Words ws → joined (2 ^ 64) ws / 2 ^ i % 2 ≡ get_or ws (i / 64) 0 / 2 ^ (i % 64) % 2
words-bit [] i a = ap (λ z. z % 2) (zero-div (2 ^ i)) ∙ sym (ap (λ z. z % 2) (zero-div (2 ^ (i % 64))))
words-bit (w ∷ ws) i a = go (cases_lt i 64) (words-bit ws (i - 64) a.1)
  where
    go : (i < 64) ⊎ (64 ≤ i) → joined (2 ^ 64) ws / 2 ^ (i - 64) % 2 ≡ get_or ws ((i - 64) / 64) 0 / 2 ^ ((i - 64) % 64) % 2 → joined (2 ^ 64) (w ∷ ws) / 2 ^ i % 2 ≡ get_or (w ∷ ws) (i / 64) 0 / 2 ^ (i % 64) % 2
    go (inl h) ih =
        let q : i / 64 ≡ 0 = omega arith in
        let r : i % 64 ≡ i = omega arith in
        bit-low 64 i (joined (2 ^ 64) ws) w h ∙ (λ k. get_or (w ∷ ws) (sym q k) 0 / 2 ^ (sym r k) % 2)
    go (inr h) ih =
        let j = i - 64 in
        let s : i ≡ 64 + j = omega arith in
        let q : i / 64 ≡ suc (j / 64) = omega arith in
        let r : i % 64 ≡ j % 64 = omega arith in
        ap (λ z. joined (2 ^ 64) (w ∷ ws) / 2 ^ z % 2) s ∙ ap (λ z. z % 2) (bit_high 64 j (joined (2 ^ 64) ws) w a.0) ∙ ih ∙ (λ k. get_or (w ∷ ws) (sym q k) 0 / 2 ^ (sym r k) % 2)

pub word-bit : (n : ℕ) (ws : List ℕ) (i : ℕ) → Words ws → i < n → get_or (word_bits n ws) i 0 ≡ get_or ws (i / 64) 0 / 2 ^ (i % 64) % 2
word-bit n ws i a h = digit_at n (joined (2 ^ 64) ws) i h ∙ words-bit ws i a

-- whether a row is a value is its bit
pub row-present : (o : Offer) (i : ℕ) → Words o.words → i < length o.cells → eqb (get_or o.words (i / 64) 0 / 2 ^ (i % 64) % 2) 1 ≡ is_value (get_or (offered o) i None)
row-present o i a h =
    let n = length o.cells in
    let bs = word_bits n o.words in
    let b = get_or o.words (i / 64) 0 / 2 ^ (i % 64) % 2 in
    let within : i < length bs = omega (arith, length_digits 2 n (joined (2 ^ 64) o.words)) in
    sym (ap is_value (row_at bs o.cells i within) ∙ ap (λ z. is_value (row_of z (get_or o.cells i 0))) (word-bit n o.words i a h) ∙ row_is b (get_or o.cells i 0) (omega arith))

-- ---- blocks

-- d bits, and those of the number above them
pub digits-split : (d w J : ℕ) (xs ys : List ℕ) → length xs ≤ d → (length ys ≡ 0) ⊎ (length xs ≡ d) → w < 2 ^ d
    → digits 2 (length (xs ++ ys)) (J * 2 ^ d + w) ≡ digits 2 (length xs) w ++ digits 2 (length ys) J
digits-split d w J [] ys l (inl e) h = ap (λ n. digits 2 n (J * 2 ^ d + w)) e ∙ sym (ap (λ n. digits 2 n J) e)
digits-split d w J [] ys l (inr e) h =
    let p : 2 ^ d ≡ 1 = ap (λ z. 2 ^ z) (sym e) in
    let m : J * 2 ^ d ≡ J = ap (λ z. J * z) p ∙ mul-one J in
    let n : J * 2 ^ d + w ≡ J = omega arith in
    ap (digits 2 (length ys)) n
digits-split zero w J (x ∷ xs) ys l o h = absurd (omega arith)
digits-split (suc d) w J (x ∷ xs) ys l o h =
    let e = doubled J d in
    let p : 2 ^ suc d ≡ 2 ^ d * 2 = pow-suc 2 d in
    let low : (J * 2 ^ suc d + w) % 2 ≡ w % 2 = omega arith in
    let high : (J * 2 ^ suc d + w) / 2 ≡ J * 2 ^ d + w / 2 = omega arith in
    let o2 : (length ys ≡ 0) ⊎ (length xs ≡ d) = elim o [ inl q ↦ inl q | inr q ↦ inr (omega (arith, q)) ] in
    (λ i. low i ∷ digits 2 (length (xs ++ ys)) (high i)) ∙ ap (λ bs. w % 2 ∷ bs) (digits-split d (w / 2) J xs ys (omega arith) o2 (omega arith))

-- the rows of a block from bit i on, by the first of them
pub block_more : (w i : ℕ) (xs : List ℕ) → i < length xs → block_rows (w / 2 ^ i) (drop i xs) ≡ row_of (w / 2 ^ i % 2) (get_or xs i 0) ∷ block_rows (w / 2 ^ (i + 1)) (drop (i + 1) xs)
block_more w i xs h =
    ap (block_rows (w / 2 ^ i)) (drop_more xs i 0 h)
    ∙ (λ k. row_of (w / 2 ^ i % 2) (get_or xs i 0) ∷ block_rows (shr-shr w i 1 k) (drop (i + 1) xs))

pub block-end : (w i : ℕ) (xs : List ℕ) → length xs ≤ i → block_rows (w / 2 ^ i) (drop i xs) ≡ []
block-end w i xs h = ap (block_rows (w / 2 ^ i)) (drop_all i xs h)

pub block_start : (w : ℕ) (xs : List ℕ) → block_rows (w / 2 ^ 0) xs ≡ block_rows w xs
block_start w xs = ap (λ z. block_rows z xs) (div-one w)

pub length-block : (w : ℕ) (xs : List ℕ) → length (block_rows w xs) ≡ length xs
length-block w xs = length-rows (digits 2 (length xs) w) xs ∙ length_digits 2 (length xs) w

-- rows by presence words
abbrev pub word_rows : List ℕ → List ℕ → List Row
word_rows ws cells = rows_of (word_bits (length cells) ws) cells

-- no cells are left
pub rows_none : (ws cells : List ℕ) → length cells ≡ 0 → word_rows ws cells ≡ []
rows_none ws cells h = ap (word_rows ws) (nil_from_length cells h)

-- ---- spare bits

ltb-same : (a b c d : ℕ) → (a < b → c < d) → (b ≤ a → d ≤ c) → ltb a b ≡ ltb c d
ltb-same a b c d f g = elim (cases_lt a b) [ inl h ↦ lt-ltb a b h ∙ sym (lt-ltb c d (f h)) | inr h ↦ le-ltb a b h ∙ sym (le-ltb c d (g h)) ]

last-spare : (w n : ℕ) → ltb w (2 ^ n) ≡ eqb (w / 2 ^ n) 0
last-spare w n =
    let m = mod_below w (2 ^ n) (pow_pos n) in
    let e = shr_split w n in
    elim (cases_lt w (2 ^ n)) [
      | inl h ↦ lt-ltb w (2 ^ n) h ∙ sym (eq-eqb (w / 2 ^ n) 0 (div-eq_of_lt h))
      | inr h ↦ le-ltb w (2 ^ n) h ∙ sym (ne_eqb (w / 2 ^ n) 0 (λ z. let y : w / 2 ^ n * 2 ^ n ≡ 0 = ap (λ x. x * 2 ^ n) z ∙ zero-mul (2 ^ n) in omega (arith, h, y)))
    ]

more-spare : (J w m : ℕ) → w < 2 ^ 64 → ltb (J * 2 ^ 64 + w) (2 ^ (64 + m)) ≡ ltb J (2 ^ m)
more-spare J w m h =
    let p : 2 ^ (64 + m) ≡ 2 ^ 64 * 2 ^ m = pow-add 2 64 m in
    ltb-same (J * 2 ^ 64 + w) (2 ^ (64 + m)) J (2 ^ m) (λ l. omega arith) (λ l. omega arith)

-- a bit past row n is set, or not, as the last word's bits from n % 64 on tell
pub words-spare : (ws : List ℕ) (n : ℕ) → Words ws → length ws ≡ words_for n → ltb (joined (2 ^ 64) ws) (2 ^ n) ≡ eqb (get_or ws (n / 64) 0 / 2 ^ (n % 64)) 0
words-spare [] n a l = let z : n ≡ 0 = omega arith in (λ i. ltb 0 (2 ^ z i)) ∙ ap (λ x. eqb x 0) (sym (zero-div (2 ^ (n % 64))))
words-spare (w ∷ ws) n a l = go (cases_lt n 64) (λ h. words-spare ws (n - 64) a.1 (omega arith))
  where
    go : (n < 64) ⊎ (64 ≤ n) → (64 ≤ n → ltb (joined (2 ^ 64) ws) (2 ^ (n - 64)) ≡ eqb (get_or ws ((n - 64) / 64) 0 / 2 ^ ((n - 64) % 64)) 0) → ltb (joined (2 ^ 64) (w ∷ ws)) (2 ^ n) ≡ eqb (get_or (w ∷ ws) (n / 64) 0 / 2 ^ (n % 64)) 0
    go (inl h) ih =
        let q : n / 64 ≡ 0 = omega arith in
        let r : n % 64 ≡ n = omega arith in
        let z : ws ≡ [] = nil_from_length ws (omega arith) in
        (λ i. ltb (joined (2 ^ 64) (w ∷ z i)) (2 ^ n)) ∙ ap (λ x. ltb x (2 ^ n)) (zero-add w) ∙ last-spare w n ∙ (λ i. eqb (get_or (w ∷ ws) (sym q i) 0 / 2 ^ (sym r i)) 0)
    go (inr h) ih =
        let m = n - 64 in
        let s : n ≡ 64 + m = omega arith in
        let q : n / 64 ≡ suc (m / 64) = omega arith in
        let r : n % 64 ≡ m % 64 = omega arith in
        ap (λ z. ltb (joined (2 ^ 64) (w ∷ ws)) (2 ^ z)) s ∙ more-spare (joined (2 ^ 64) ws) w m a.0 ∙ ih h ∙ (λ i. eqb (get_or (w ∷ ws) (sym q i) 0 / 2 ^ (sym r i)) 0)

-- ---- presence words of rows, and back

-- the words of n bits hold every number of n bits
pub words-hold : (n x : ℕ) → x < 2 ^ n → joined (2 ^ 64) (digits (2 ^ 64) (words_for n) x) ≡ x
words-hold n x h =
    let fits : 2 ^ n ≤ (2 ^ 64) ^ words_for n = le_trans (pow_mono (omega arith)) (le_of_eq (pow-mul 2 64 (words_for n))) in
    joined-digits (2 ^ 64) (words_for n) x (omega arith) (lt_of_lt_of_le h fits)

-- presence words join to the number of the bits
pub presence-joined : (rs : List Row) → joined (2 ^ 64) (presence rs) ≡ joined 2 (bits rs)
presence-joined rs = words-hold (length rs) (joined 2 (bits rs)) (bits-lt (length rs) (bits rs) (length-bits rs) (below-bits rs))

pub presence-back : (rs : List Row) → word_bits (length rs) (presence rs) ≡ bits rs
presence-back rs =
    ap (digits 2 (length rs)) (presence-joined rs)
    ∙ ap (λ n. digits 2 n (joined 2 (bits rs))) (sym (length-bits rs))
    ∙ digits-joined 2 (bits rs) (below-bits rs)

-- a column as it is handed in reads back as itself
pub cleaned-stored : (c : Column) → cleaned (offer_of c) ≡ c
cleaned-stored c =
    ap (λ rs. record { kind = c.kind; rows = rs })
    (ap (λ k. rows_of (word_bits k (presence c.rows)) (cells c.rows)) (length-cells c.rows)
    ∙ ap (λ bs. rows_of bs (cells c.rows)) (presence-back c.rows)
    ∙ rows_back c.rows)
