-- Cells cleared one by one, and the spare bits of presence words.
use Rattle.std.proofs.Common.{◌≡◌, ℕ, ◌+◌, ◌/◌, ◌%◌, ◌^◌, ◌<◌, ◌≤◌, List, [], ◌∷◌, ◌++◌, length, get_or, take, drop, set, None, sym, ap, ◌∙◌, zero-lt-suc, arith}
use Rattle.std.proofs.lemmas.List.{take_more, drop_more, take_more_set, drop-set-lt, get_or-map, length-map, take_all}
use Rattle.packing.specs.Packing.{joined, digits}
use Rattle.packing.proofs.Digits.{digits-joined, joined-digits-mod}
use Rattle.column.specs.Columns.{row_of, cell_of, cells as cells_of, word_bits, words_for, presence}
use Rattle.column.proofs.RowLaws.{length_digits, row_at, cell_set, cell-unset, bits-rows}
use Rattle.column.proofs.WordLaws.{Words, word-bit}
use Rattle.node.specs.Payloads.{words_of}
use Rattle.node.specs.Reading.{held_rows}
use Rattle.reading.proofs.PlaceLaws.{length-held}
use Rattle.node.proofs.SpareLaws.{Loaded, part-cleared, whole-loaded}

-- ---- cell by cell

-- up to place i it is the goal, from there on it is as it was
pub record Done (goal old now : List ℕ) (i : ℕ) : Type 0 where
  pub before : take i now ≡ take i goal
  pub after : drop i now ≡ drop i old

done-more : (goal old now : List ℕ) (i v : ℕ) → i < length now → i < length goal → i < length old → Done goal old now i → v ≡ get_or goal i 0 → (next : List ℕ) → next ≡ set now i v → Done goal old next (i + 1)
done-more goal old now i v h hg ho d e next n =
    let a = drop_more now i 0 h in
    let b = drop_more old i 0 ho in
    let rest : drop (i + 1) now ≡ drop (i + 1) old = cc (a, b, d.after) in
    record {
      before = ap (take (i + 1)) n ∙ take_more_set now i v h ∙ (λ j. d.before j ++ (e j ∷ [])) ∙ sym (take_more goal i 0 hg);
      after = ap (drop (i + 1)) n ∙ drop-set-lt (i + 1) now i v (omega arith) ∙ rest;
    }

pub done-all : (goal old now : List ℕ) (i : ℕ) → length now ≤ i → length goal ≤ i → Done goal old now i → now ≡ goal
done-all goal old now i h hg d = sym (take_all i now h) ∙ d.before ∙ take_all i goal hg

-- the goal: 0 under blanks
abbrev pub cleared : List ℕ → List ℕ → List ℕ
cleared cs ws = cells_of (held_rows cs ws)

abbrev pub bit_at : List ℕ → ℕ → ℕ
bit_at ws i = get_or ws (i / 64) 0 / 2 ^ (i % 64) % 2

pub length-cleared : (cs ws : List ℕ) → length (cleared cs ws) ≡ length cs
length-cleared cs ws = length-map (held_rows cs ws) cell_of ∙ length-held cs ws

cleared-at : (cs ws : List ℕ) (i : ℕ) → Words ws → i < length cs → get_or (cleared cs ws) i 0 ≡ cell_of (row_of (bit_at ws i) (get_or cs i 0))
cleared-at cs ws i a h =
    let l = length-held cs ws in
    let m = length_digits 2 (length cs) (joined (2 ^ 64) ws) in
    get_or-map cell_of (held_rows cs ws) i None 0 (omega arith)
    ∙ ap cell_of (row_at (word_bits (length cs) ws) cs i (omega arith))
    ∙ ap (λ b. cell_of (row_of b (get_or cs i 0))) (word-bit (length cs) ws i a h)

-- a value stays
pub done-value : (cs ws now : List ℕ) (i : ℕ) → Words ws → i < length cs → length now ≡ length cs → Done (cleared cs ws) cs now i → bit_at ws i ≡ 1
    → (next : List ℕ) → next ≡ set now i (get_or now i 0) → Done (cleared cs ws) cs next (i + 1)
done-value cs ws now i a h l d e next n =
    let k = length-cleared cs ws in
    let here : i < length now = omega arith in
    let p = drop_more now i 0 here in
    let q = drop_more cs i 0 h in
    let same : get_or now i 0 ≡ get_or cs i 0 = cc (p, q, d.after) in
    done-more (cleared cs ws) cs now i (get_or now i 0) here (omega arith) h d
    (same ∙ cell_set (bit_at ws i) (get_or cs i 0) e ∙ sym (cleared-at cs ws i a h)) next n

-- a blank becomes 0
pub done-blank : (cs ws now : List ℕ) (i : ℕ) → Words ws → i < length cs → length now ≡ length cs → Done (cleared cs ws) cs now i → (bit_at ws i ≡ 1 → ⊥)
    → (next : List ℕ) → next ≡ set now i 0 → Done (cleared cs ws) cs next (i + 1)
done-blank cs ws now i a h l d e next n =
    let k = length-cleared cs ws in
    done-more (cleared cs ws) cs now i 0 (omega arith) (omega arith) h d
    (cell-unset (bit_at ws i) (get_or cs i 0) (omega arith) e ∙ sym (cleared-at cs ws i a h)) next n

-- ---- spare bits

-- the words of a number, of which the low n bits count
of-number : (n : ℕ) (ws : List ℕ) → Words ws → length ws ≡ words_for n → Loaded 1 n (joined (2 ^ 64) ws ∷ []) ws
of-number n ws a l =
    let x = joined (2 ^ 64) ws in
    let e : joined 256 (x ∷ []) ≡ x = omega arith in
    record {
      number = x;
      is = sym (digits-joined (2 ^ 64) ws a) ∙ ap (λ m. digits (2 ^ 64) m x) l;
      low = sym (joined-digits-mod 2 n x (zero-lt-suc 1)) ∙ ap (λ y. joined 2 (digits 2 n y)) (sym e);
    }

the-bits : (n : ℕ) (ws : List ℕ) → words_of n (digits 2 n (joined 256 (joined (2 ^ 64) ws ∷ []))) ≡ words_of n (word_bits n ws)
the-bits n ws =
    let x = joined (2 ^ 64) ws in
    let e : joined 256 (x ∷ []) ≡ x = omega arith in
    ap (λ y. words_of n (digits 2 n y)) e

pub part-spare : (n : ℕ) (ws : List ℕ) (x : ℕ) → Words ws → length ws ≡ words_for n → (n % 64 ≡ 0 → ⊥) → x ≡ get_or ws (n / 64) 0 % 2 ^ (n % 64) → set ws (n / 64) x ≡ words_of n (word_bits n ws)
part-spare n ws x a l h e = part-cleared 1 n (joined (2 ^ 64) ws ∷ []) ws (of-number n ws a l) h x e ∙ the-bits n ws

pub none-spare : (n : ℕ) (ws : List ℕ) → Words ws → length ws ≡ words_for n → n % 64 ≡ 0 → ws ≡ words_of n (word_bits n ws)
none-spare n ws a l h = whole-loaded 1 n (joined (2 ^ 64) ws ∷ []) ws (of-number n ws a l) h ∙ the-bits n ws

-- they are the presence words of the rows
pub presence-held : (cs ws : List ℕ) → words_of (length cs) (word_bits (length cs) ws) ≡ presence (held_rows cs ws)
presence-held cs ws =
    λ i. digits (2 ^ 64) (words_for (sym (length-held cs ws) i)) (joined 2 (sym (bits-rows (length cs) (joined (2 ^ 64) ws) cs) i))
