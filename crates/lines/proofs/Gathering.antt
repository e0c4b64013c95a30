-- One row more, and the end: cells, full presence words and the bits of the rows after them.
use Rattle.std.proofs.Common.{◌≡◌, ℕ, suc, ◌+◌, ◌*◌, ◌/◌, ◌%◌, ◌^◌, ◌<◌, ◌≤◌, Bool, true, false, eqb, List, [], ◌∷◌, ◌++◌, length, is_some, Some, None, vec_items, vec_len, unwrap_or, sym, ap, ◌∙◌, subst, ap₂, mul-le-mul_right, mod-eq_of_lt, mul_assoc, add-mul, pow-suc, zero-add, zero-mul, arith, pow_pos, pow_mono, pow-add}
use lib.Bits.{bit_or, or_shifted_r}
use mir.Val.{bool_byte}
use Rattle.std.proofs.lemmas.List.{length-map, length_push, map_push}
use Rattle.std.proofs.lemmas.Bool.{eqb-true, eqb-false}
use Rattle.packing.specs.Packing.{joined, digits, Below}
use Rattle.packing.proofs.Digits.{joined-++, digits-joined}
use Rattle.packing.proofs.Below.{below-append}
use Rattle.packing.proofs.Packed.{pow-mul}
use Rattle.column.specs.Columns.{Row, Offer, cell_of, bit_of, cells, bits, presence, words_for, offer_of}
use Rattle.lines.specs.declared.rows.Rows.{Rows}
use Rattle.lines.specs.Held.{Gathers}

bit-small : (r : Row) → bit_of r ≤ 1
bit-small None = omega arith
bit-small (Some w) = omega arith

cell-is : (r : Row) (u : ℕ) → u ≡ unwrap_or r 0 → u ≡ cell_of r
cell-is None u e = e
cell-is (Some w) u e = e

bit_is : (r : Row) (f : ℕ) (s : Bool) → f ≡ bool_byte s → s ≡ is_some r → f ≡ bit_of r
bit_is None f s e h = e ∙ ap bool_byte h
bit_is (Some w) f s e h = e ∙ ap bool_byte h

-- a bit in its place is a word
pub bit-placed : (r : Row) (p f : ℕ) (s : Bool) → f ≡ bool_byte s → s ≡ is_some r → f * 2 ^ (p % 64) % 2 ^ 64 ≡ bit_of r * 2 ^ (p % 64)
bit-placed r p f s e h =
    let top : 2 ^ (p % 64) ≤ 2 ^ 63 = pow_mono {i = p % 64} {j = 63} (omega arith) in
    let most : bit_of r * 2 ^ (p % 64) ≤ 1 * 2 ^ (p % 64) = mul-le-mul_right (2 ^ (p % 64)) (bit-small r) in
    ap (λ d. d * 2 ^ (p % 64) % 2 ^ 64) (bit_is r f s e h) ∙ mod-eq_of_lt (omega arith)

-- a power of 2 by blocks of 64
pub pow-blocks : (n : ℕ) → 2 ^ (n % 64) * (2 ^ 64) ^ (n / 64) ≡ 2 ^ n
pow-blocks n =
    ap (λ p. 2 ^ (n % 64) * p) (sym (pow-mul 2 64 (n / 64)))
    ∙ sym (pow-add 2 (n % 64) (64 * (n / 64)))
    ∙ ap (λ e. 2 ^ e) (omega arith)

bits-push : (rs : List Row) (r : Row) → joined 2 (bits (rs ++ (r ∷ []))) ≡ bit_of r * 2 ^ length rs + joined 2 (bits rs)
bits-push rs r =
    ap (joined 2) (map_push bit_of rs r)
    ∙ joined-++ 2 (bits rs) (bit_of r ∷ [])
    ∙ ap₂ (λ d n. d * 2 ^ n + joined 2 (bits rs)) (omega arith) (length-map rs bit_of)

-- the bit of one row more
module _ (rs : List Row) (r : Row) (word J : ℕ)
    (small : word < 2 ^ (length rs % 64))
    (sum : word * (2 ^ 64) ^ (length rs / 64) + J ≡ joined 2 (bits rs))
  where
    one_bit : bit_or word (bit_of r * 2 ^ (length rs % 64)) ≡ bit_of r * 2 ^ (length rs % 64) + word
    one_bit = or_shifted_r (bit_of r) (length rs % 64) word small

    bit-sum : (w : ℕ) → w ≡ bit_of r * 2 ^ (length rs % 64) + word → w * (2 ^ 64) ^ (length rs / 64) + J ≡ joined 2 (bits (rs ++ (r ∷ [])))
    bit-sum w e =
        let n = length rs in
        let q = (2 ^ 64) ^ (n / 64) in
        let a : w * q ≡ bit_of r * 2 ^ (n % 64) * q + word * q = ap (λ x. x * q) e ∙ add-mul (bit_of r * 2 ^ (n % 64)) word q in
        let b : bit_of r * 2 ^ (n % 64) * q ≡ bit_of r * 2 ^ n = mul_assoc (bit_of r) (2 ^ (n % 64)) q ∙ ap (λ x. bit_of r * x) (pow-blocks n) in
        omega (arith, a, b, sum, bits-push rs r)

    bit-lt : (w : ℕ) → w ≡ bit_of r * 2 ^ (length rs % 64) + word → w < 2 ^ suc (length rs % 64)
    bit-lt w e =
        let p = 2 ^ (length rs % 64) in
        let most : bit_of r * p ≤ 1 * p = mul-le-mul_right p (bit-small r) in
        omega (arith, e, most, small, pow-suc 2 (length rs % 64))

-- ---- one row more

-- rows that the cells hold
pub count-is : (rs : List Row) (b : Rows) (p : ℕ) → Gathers rs b → p ≡ vec_len b.cells → p ≡ length rs
count-is rs b p g at = at ∙ b.cells.ok.0 ∙ ap length g.cells ∙ length-map rs cell_of

module _ (rs : List Row) (r : Row) (b b2 : Rows) (p u d : ℕ)
    (g : Gathers rs b)
    (at : p ≡ vec_len b.cells)
    (cell : u ≡ unwrap_or r 0)
    (bit : d ≡ bit_of r * 2 ^ (p % 64))
    (new : vec_items b2.cells ≡ vec_items b.cells ++ (u ∷ []))
  where
    rows-so-far : p ≡ length rs
    rows-so-far = count-is rs b p g at

    new-cells : vec_items b2.cells ≡ cells (rs ++ (r ∷ []))
    new-cells = new ∙ ap₂ (λ xs x. xs ++ (x ∷ [])) g.cells (cell-is r u cell) ∙ sym (map_push cell_of rs r)

    new_word : bit_or b.word d ≡ bit_of r * 2 ^ (length rs % 64) + b.word
    new_word =
        ap (bit_or b.word) (bit ∙ ap (λ n. bit_of r * 2 ^ (n % 64)) rows-so-far)
        ∙ one_bit rs r b.word (joined (2 ^ 64) (vec_items b.words)) g.small g.sum

    -- the word goes on
    pub gather-on : false ≡ eqb (p % 64) 63 → vec_items b2.words ≡ vec_items b.words → vec_len b2.words ≡ vec_len b.words
        → b2.word ≡ bit_or b.word d → Gathers (rs ++ (r ∷ [])) b2
    gather-on free words len word =
        let n = length rs in
        let n1 : length (rs ++ (r ∷ [])) ≡ n + 1 = length_push rs r in
        let e = rows-so-far in
        let w : b2.word ≡ bit_of r * 2 ^ (n % 64) + b.word = word ∙ new_word in
        let apart : n % 64 ≡ 63 → ⊥ = λ h. eqb-false (p % 64) 63 (sym free) (ap (λ m. m % 64) e ∙ h) in
        let blocks : length (rs ++ (r ∷ [])) / 64 ≡ n / 64 = omega (arith, apart) in
        let place : suc (n % 64) ≡ length (rs ++ (r ∷ [])) % 64 = omega (arith, apart) in
        record {
          cells = new-cells;
          count = len ∙ g.count ∙ sym blocks;
          below = subst (Below (2 ^ 64)) (sym words) g.below;
          small = subst (λ i. b2.word < 2 ^ i) place (bit-lt rs r b.word (joined (2 ^ 64) (vec_items b.words)) g.small g.sum b2.word w);
          sum =
              ap₂ (λ m ws. b2.word * (2 ^ 64) ^ m + joined (2 ^ 64) ws) blocks words
              ∙ bit-sum rs r b.word (joined (2 ^ 64) (vec_items b.words)) g.small g.sum b2.word w;
        }

    -- the word is full
    pub gather-full : true ≡ eqb (p % 64) 63 → vec_items b2.words ≡ vec_items b.words ++ (bit_or b.word d ∷ []) → vec_len b2.words ≡ vec_len b.words + 1
        → b2.word ≡ 0 → Gathers (rs ++ (r ∷ [])) b2
    gather-full full words len word =
        let n = length rs in
        let J = joined (2 ^ 64) (vec_items b.words) in
        let n1 : length (rs ++ (r ∷ [])) ≡ n + 1 = length_push rs r in
        let e = rows-so-far in
        let here : n % 64 ≡ 63 = ap (λ m. m % 64) (sym e) ∙ eqb-true (p % 64) 63 (sym full) in
        let w = bit_or b.word d in
        let word_lt : w < 2 ^ 64 = subst (λ i. w < 2 ^ suc i) here (bit-lt rs r b.word J g.small g.sum w new_word) in
        record {
          cells = new-cells;
          count = omega (arith, len, g.count);
          below = subst (Below (2 ^ 64)) (sym words) (below-append (2 ^ 64) (vec_items b.words) (w ∷ []) g.below (word_lt, tt));
          small = subst (λ x. x < 2 ^ (length (rs ++ (r ∷ [])) % 64)) (sym word) (pow_pos (length (rs ++ (r ∷ [])) % 64));
          sum =
              ap₂ (λ x ws. x * (2 ^ 64) ^ (length (rs ++ (r ∷ [])) / 64) + joined (2 ^ 64) ws) word words
              ∙ ap₂ (λ x y. x + y) (zero-mul ((2 ^ 64) ^ (length (rs ++ (r ∷ [])) / 64))) (joined-++ (2 ^ 64) (vec_items b.words) (w ∷ []))
              ∙ zero-add (joined (2 ^ 64) (w ∷ []) * (2 ^ 64) ^ length (vec_items b.words) + J)
              ∙ ap₂ (λ x m. x * (2 ^ 64) ^ m + J) (omega arith) (sym b.words.ok.0 ∙ g.count)
              ∙ bit-sum rs r b.word J g.small g.sum w new_word;
        }

-- ---- the end

words_are : (ws : List ℕ) (n x : ℕ) → Below (2 ^ 64) ws → length ws ≡ n → joined (2 ^ 64) ws ≡ x → ws ≡ digits (2 ^ 64) n x
words_are ws n x h l e = sym (digits-joined (2 ^ 64) ws h) ∙ ap₂ (digits (2 ^ 64)) l e

-- the column of rows, as it is handed in
offer-is : (k : ℕ) (rs : List Row) (xs ws : List ℕ) → xs ≡ cells rs → ws ≡ presence rs
    → ◌≡◌ {A = Offer} (record { kind = k; cells = xs; words = ws }) (offer_of (record { kind = k; rows = rs }))
offer-is k rs xs ws e f = ap₂ (λ ys vs. record { kind = k; cells = ys; words = vs }) e f

-- no bit is left over
pub finish-even : (k : ℕ) (rs : List Row) (b : Rows) (p : ℕ) (ws : List ℕ) → Gathers rs b → p ≡ vec_len b.cells → p % 64 ≤ 0 → ws ≡ vec_items b.words
    → ◌≡◌ {A = Offer} (record { kind = k; cells = vec_items b.cells; words = ws }) (offer_of (record { kind = k; rows = rs }))
finish-even k rs b p ws g at h e =
    let i = count-is rs b p g at in
    let even : length rs % 64 ≡ 0 = omega arith in
    let none : b.word ≡ 0 = omega (arith, subst (λ i. b.word < 2 ^ i) even g.small) in
    let J = joined (2 ^ 64) (vec_items b.words) in
    offer-is k rs (vec_items b.cells) ws g.cells
    (e ∙ words_are (vec_items b.words) (words_for (length rs)) (joined 2 (bits rs)) g.below
    (sym b.words.ok.0 ∙ g.count ∙ omega (arith, even))
    (sym (ap (λ w. w * (2 ^ 64) ^ (length rs / 64) + J) none ∙ ap (λ x. x + J) (zero-mul ((2 ^ 64) ^ (length rs / 64))) ∙ zero-add J) ∙ g.sum))

-- the bits left over are the last word
pub finish-odd : (k : ℕ) (rs : List Row) (b : Rows) (p : ℕ) (ws : List ℕ) → Gathers rs b → p ≡ vec_len b.cells → 0 < p % 64 → ws ≡ vec_items b.words ++ (b.word ∷ [])
    → ◌≡◌ {A = Offer} (record { kind = k; cells = vec_items b.cells; words = ws }) (offer_of (record { kind = k; rows = rs }))
finish-odd k rs b p ws g at h e =
    let i = count-is rs b p g at in
    let vs = vec_items b.words in
    let top : 2 ^ (length rs % 64) ≤ 2 ^ 63 = pow_mono {i = length rs % 64} {j = 63} (omega arith) in
    offer-is k rs (vec_items b.cells) ws g.cells
    (e ∙ words_are (vs ++ (b.word ∷ [])) (words_for (length rs)) (joined 2 (bits rs))
    (below-append (2 ^ 64) vs (b.word ∷ []) g.below (omega (arith, g.small), tt))
    (length_push vs b.word ∙ omega (arith, b.words.ok.0, g.count))
    (joined-++ (2 ^ 64) vs (b.word ∷ []) ∙ ap₂ (λ x m. x * (2 ^ 64) ^ m + joined (2 ^ 64) vs) (omega arith) (sym b.words.ok.0 ∙ g.count) ∙ g.sum))
