-- Masks: their length, their bytes as presence words give them, and the bits back.
use Rattle.std.proofs.Common.{◌≡◌, ℕ, zero, suc, ◌+◌, ◌/◌, ◌^◌, ◌<◌, ◌≤◌, Bool, true, false, List, [], ◌∷◌, length, Some, None, sym, refl, ap, ◌∙◌, zero-le, le_refl, zero-lt-suc, arith}
use mir.Val.{bool_byte}
use Rattle.std.proofs.lemmas.Bool.{true≢false}
use Rattle.packing.specs.Packing.{joined, digits, packed_len, packed, unpacked, Below}
use Rattle.packing.proofs.Digits.{length_digits, below-digits, digits-joined, bits-lt}
use Rattle.packing.proofs.Packed.{length-packed, below-packed, unpacked-packed}
use Rattle.column.specs.Columns.{Row, bits, has_blank, word_bits, words_for, presence}
use Rattle.column.proofs.RowLaws.{length-bits, below-bits}
use Rattle.column.proofs.WordLaws.{words-hold, presence-joined}
use Rattle.node.specs.Payloads.{flag_by, flag_of, mask_by, mask, mask_len, ones, unmask, words_of}

-- ---- the mask

pub length-mask : (rs : List Row) → length (mask rs) ≡ mask_len (has_blank rs) (length rs)
length-mask rs = go (has_blank rs)
  where
    go : (q : Bool) → length (mask_by q rs) ≡ mask_len q (length rs)
    go true = length-packed 1 (bits rs) ∙ ap (packed_len 1) (length-bits rs)
    go false = refl

pub below-mask : (rs : List Row) → Below 256 (mask rs)
below-mask rs = go (has_blank rs)
  where
    go : (q : Bool) → Below 256 (mask_by q rs)
    go true = below-packed 1 (bits rs)
    go false = tt

pub mask-small : (q : Bool) (n : ℕ) → mask_len q n ≤ (n + 7) / 8
mask-small true n = omega arith
mask-small false n = zero-le

pub flag_small : (rs : List Row) → flag_of rs < 256
flag_small rs = go (has_blank rs)
  where
    go : (q : Bool) → flag_by q < 256
    go true = omega arith
    go false = omega arith

-- a flag as a byte
pub flag_is : (q : Bool) → bool_byte q ≡ flag_by q
flag_is true = refl
flag_is false = refl

ones-bits : (rs : List Row) → has_blank rs ≡ false → ones (length rs) ≡ bits rs
ones-bits [] e = refl
ones-bits (None ∷ rs) e = absurd (true≢false e)
ones-bits (Some w ∷ rs) e = ap (λ xs. 1 ∷ xs) (ones-bits rs e)

pub mask-back : (rs : List Row) → unmask (flag_of rs) (length rs) (mask rs) ≡ bits rs
mask-back rs = go (has_blank rs) refl
  where
    go : (q : Bool) → has_blank rs ≡ q → unmask (flag_by q) (length rs) (mask_by q rs) ≡ bits rs
    go true e = ap (λ n. unpacked 1 n (packed 1 (bits rs))) (sym (length-bits rs)) ∙ unpacked-packed 1 (bits rs) (below-bits rs)
    go false e = ones-bits rs e

-- ---- presence words

-- the mask's bytes are those of the presence words
pub mask-words : (rs : List Row) → packed 1 (bits rs) ≡ digits 256 (packed_len 1 (length rs)) (joined (2 ^ 64) (presence rs))
mask-words rs = λ i. digits 256 (packed_len 1 (length-bits rs i)) (sym (presence-joined rs) i)

pub word-bits : (n : ℕ) (bs : List ℕ) → length bs ≡ n → Below 2 bs → word_bits n (words_of n bs) ≡ bs
word-bits n bs e h =
    ap (digits 2 n) (words-hold n (joined 2 bs) (bits-lt n bs e h)) ∙ ap (λ m. digits 2 m (joined 2 bs)) (sym e) ∙ digits-joined 2 bs h

pub length-words : (n : ℕ) (bs : List ℕ) → length (words_of n bs) ≡ words_for n
length-words n bs = length_digits (2 ^ 64) (words_for n) (joined 2 bs)

-- ---- bits from a flag and bytes

pub length-ones : (n : ℕ) → length (ones n) ≡ n
length-ones zero = refl
length-ones (suc n) = ap suc (length-ones n)

below-ones : (n : ℕ) → Below 2 (ones n)
below-ones zero = tt
below-ones (suc n) = (le_refl 2, below-ones n)

pub length-unmask : (f n : ℕ) (bs : List ℕ) → length (unmask f n bs) ≡ n
length-unmask zero n bs = length-ones n
length-unmask (suc f) n bs = length_digits 2 n (joined 256 bs)

pub below-unmask : (f n : ℕ) (bs : List ℕ) → Below 2 (unmask f n bs)
below-unmask zero n bs = below-ones n
below-unmask (suc f) n bs = below-digits 2 n (joined 256 bs) (zero-lt-suc 1)

-- ---- by whether there is a blank

pub mask-len-by : (q : Bool) (n : ℕ) (rs : List Row) → length rs ≡ n → has_blank rs ≡ q → mask_len q n ≡ length (mask rs)
mask-len-by q n rs l e = sym (length-mask rs ∙ (λ i. mask_len (e i) (l i)))

pub no-mask : (rs : List Row) → has_blank rs ≡ false → mask rs ≡ []
no-mask rs e = ap (λ q. mask_by q rs) e

pub mask-of-words : (rs : List Row) (ws : List ℕ) (len : ℕ) → has_blank rs ≡ true → ws ≡ presence rs → len ≡ packed_len 1 (length rs) → digits 256 len (joined (2 ^ 64) ws) ≡ mask rs
mask-of-words rs ws len e w l = (λ i. digits 256 (l i) (joined (2 ^ 64) (w i))) ∙ sym (mask-words rs) ∙ ap (λ q. mask_by q rs) (sym e)
