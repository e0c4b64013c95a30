-- Cells with 0 under blanks.
use Rattle.std.proofs.Common.{◌≡◌, ℕ, zero, suc, ◌+◌, ◌-◌, ◌/◌, ◌%◌, ◌^◌, ◌<◌, ◌≤◌, false, List, [], ◌∷◌, ◌++◌, length, get_or, take, drop, set, replicate, sym, refl, ap, ◌∙◌, arith}
use borrow.Rule.Slice.PartMut.{put_mid}
use Rattle.std.proofs.lemmas.Bool.{true≢false}
use Rattle.std.proofs.lemmas.List.{take_more_set, take-append-drop, append_assoc, map-append, drop_more, drop-set-lt}
use Rattle.std.proofs.lemmas.Slice.{take-put_mid, drop-put_mid}
use Rattle.packing.specs.Packing.{digits, written}
use Rattle.column.specs.Words.{words_for}
use Rattle.column.specs.Columns.{row_of, rows_of, cell_of, cells as cells_of, has_blank}
use Rattle.column.specs.Views.{block_rows}
use Rattle.column.proofs.RowLaws.{length_digits, length-offered, length-cells, cell_set, cell-unset}
use Rattle.column.proofs.WordLaws.{word_rows, block_more, length-block, rows_none}
use Rattle.column.proofs.NextLaws.{Next, next-length, next-worded, next-rows}
use Rattle.column.proofs.BlankLaws.{ones-block}

-- ---- one block

pub cells-blank : (n : ℕ) (xs : List ℕ) → cells_of (rows_of (digits 2 n 0) xs) ≡ replicate n 0
cells-blank zero xs = refl
cells-blank (suc n) [] = ap (λ ys. 0 ∷ ys) (cells-blank n [])
cells-blank (suc n) (x ∷ xs) = ap (λ ys. 0 ∷ ys) (cells-blank n xs)

-- no blank: the cells as they stand
pub cells-full : (bs ws : List ℕ) → length bs ≡ length ws → has_blank (rows_of bs ws) ≡ false → cells_of (rows_of bs ws) ≡ ws
cells-full [] [] l e = refl
cells-full [] (w ∷ ws) l e = absurd (omega arith)
cells-full (b ∷ bs) [] l e = absurd (omega arith)
cells-full (zero ∷ bs) (w ∷ ws) l e = absurd (true≢false e)
cells-full (suc b ∷ bs) (w ∷ ws) l e = ap (λ ys. w ∷ ys) (cells-full bs ws (omega arith) e)

pub cells-ones : (w : ℕ) (xs : List ℕ) → w ≡ 2 ^ 64 - 1 → length xs ≤ 64 → cells_of (block_rows w xs) ≡ xs
cells-ones w xs e h = cells-full (digits 2 (length xs) w) xs (length_digits 2 (length xs) w) (ones-block w xs e h)

-- row i is written, and the cells after it still stand
module _ (w i : ℕ) (xs out goal : List ℕ) (h : i < length xs) (l : i < length out) (now : (take i out ++ cells_of (block_rows (w / 2 ^ i) (drop i xs)) ≡ goal) × (drop i out ≡ drop i xs)) where
  stands : get_or out i 0 ∷ drop (i + 1) out ≡ get_or xs i 0 ∷ drop (i + 1) xs
  stands = sym (drop_more out i 0 l) ∙ now.1 ∙ drop_more xs i 0 h

  clean-more : (y : ℕ) (out2 : List ℕ) → y ≡ cell_of (row_of (w / 2 ^ i % 2) (get_or xs i 0)) → out2 ≡ set out i y
      → (take (i + 1) out2 ++ cells_of (block_rows (w / 2 ^ (i + 1)) (drop (i + 1) xs)) ≡ goal) × (drop (i + 1) out2 ≡ drop (i + 1) xs)
  clean-more y out2 e o =
      let rest = cells_of (block_rows (w / 2 ^ (i + 1)) (drop (i + 1) xs)) in (
        ap (λ z. take (i + 1) z ++ rest) o ∙ ap (λ z. z ++ rest) (take_more_set out i y l) ∙ append_assoc (take i out) (y ∷ []) rest
            ∙ ap (λ z. take i out ++ (z ∷ rest)) e ∙ ap (λ z. take i out ++ cells_of z) (sym (block_more w i xs h)) ∙ now.0,
        ap (drop (i + 1)) o ∙ drop-set-lt (i + 1) out i y (omega arith) ∙ ap (drop 1) stands,
      )

  -- a value stays as it was copied
  pub clean-value : (out2 : List ℕ) → w / 2 ^ i % 2 ≡ 1 → out2 ≡ set out i (get_or out i 0)
      → (take (i + 1) out2 ++ cells_of (block_rows (w / 2 ^ (i + 1)) (drop (i + 1) xs)) ≡ goal) × (drop (i + 1) out2 ≡ drop (i + 1) xs)
  clean-value out2 e o = clean-more (get_or out i 0) out2 (ap (λ z. get_or z 0 0) stands ∙ cell_set (w / 2 ^ i % 2) (get_or xs i 0) e) o

  pub clean-blank : (out2 : List ℕ) → (w / 2 ^ i % 2 ≡ 1 → ⊥) → out2 ≡ set out i 0
      → (take (i + 1) out2 ++ cells_of (block_rows (w / 2 ^ (i + 1)) (drop (i + 1) xs)) ≡ goal) × (drop (i + 1) out2 ≡ drop (i + 1) xs)
  clean-blank out2 e o = clean-more 0 out2 (cell-unset (w / 2 ^ i % 2) (get_or xs i 0) (omega arith) e) o

-- ---- block by block

-- what is written, what is to come in the words ws and the cells cs, and what stays of what stood there before
pub record Cleaning (words cells old out ws cs : List ℕ) (at : ℕ) : Type 0 where
  pub worded : length ws ≡ words_for (length cs)
  pub left : length cs ≡ length cells - at
  pub made : take (length cells - length cs) out ++ (cells_of (word_rows ws cs) ++ drop (length cells) out) ≡ cells_of (word_rows words cells) ++ drop (length cells) old

pub cleans-more : {words cells old out ws cs : List ℕ} {at : ℕ} → Cleaning words cells old out ws cs at → {word : ℕ} {block ws2 cs2 : List ℕ} → Next ws cs word block ws2 cs2 → 0 < length cs → length cells ≤ length out → (start m at2 : ℕ) (part out2 : List ℕ)
    → start ≡ at → m ≡ length block → at2 ≡ at + 64 → part ≡ cells_of (block_rows word block) → out2 ≡ put_mid start m out part → Cleaning words cells old out2 ws2 cs2 at2
cleans-more {words} {cells} {old} {out} {ws} {cs} {at} k {word} {block} {ws2} {cs2} n h l start m at2 part out2 st e a f o0 =
    let blk = block_rows word block in
    let after = word_rows ws2 cs2 in
    let long = next-length n in
    let o : out2 ≡ put_mid at m out part = o0 ∙ ap (λ z. put_mid z m out part) st in
    let len : length part ≡ m = ap length f ∙ length-cells blk ∙ length-block word block ∙ sym e in
    let front : take (length cells - length cs2) out2 ≡ take at out ++ part = ap (take (length cells - length cs2)) o ∙ take-put_mid at m out part (length cells - length cs2) (omega (arith, k.left, len, long, e, h)) (omega (arith, k.left, len, long, e, h)) in
    let back : drop (length cells) out2 ≡ drop (length cells) out = ap (drop (length cells)) o ∙ drop-put_mid at m out part (length cells) (omega (arith, k.left, long, e, h)) (omega (arith, k.left, h, l)) len in
    let before : take at out ≡ take (length cells - length cs) out = ap (λ z. take z out) (omega (arith, k.left, h)) in
    let rest : part ++ cells_of after ≡ cells_of (word_rows ws cs) = ap (λ z. z ++ cells_of after) f ∙ sym (ap cells_of (next-rows n) ∙ map-append cell_of blk after) in
    record {
      worded = next-worded n k.worded;
      left = omega (arith, k.left, long, n.size, a);
      made =
          (λ i. front i ++ (cells_of after ++ back i))
          ∙ append_assoc (take at out) part (cells_of after ++ drop (length cells) out)
          ∙ ap (λ z. take at out ++ z) (sym (append_assoc part (cells_of after) (drop (length cells) out)))
          ∙ (λ i. before i ++ (rest i ++ drop (length cells) out))
          ∙ k.made;
    }

pub cleans-end : {words cells old out ws cs : List ℕ} {at : ℕ} → Cleaning words cells old out ws cs at → length cs ≡ 0 → out ≡ written (cells_of (word_rows words cells)) old
cleans-end {words} {cells} {old} {out} {ws} {cs} k h =
    let n = length cells in
    let len : n ≡ length (cells_of (word_rows words cells)) = sym (length-cells (word_rows words cells) ∙ length-offered (record { kind = 0; cells = cells; words = words })) in
    sym (take-append-drop n out)
    ∙ ap (λ z. take z out ++ drop n out) (omega (arith, h))
    ∙ ap (λ z. take (n - length cs) out ++ (cells_of z ++ drop n out)) (sym (rows_none ws cs h))
    ∙ k.made
    ∙ ap (λ z. cells_of (word_rows words cells) ++ drop z old) len
