-- The values of the rows, block after block.
use Rattle.std.proofs.Common.{◌≡◌, ℕ, zero, suc, ◌+◌, ◌/◌, ◌%◌, ◌^◌, ◌<◌, cond, eqb, ◌⊎◌, List, [], ◌∷◌, ◌++◌, length, sym, refl, ap, ◌∙◌, inl, inr, div-one, arith, shr-shr}
use Rattle.packing.specs.Packing.{digits}
use Rattle.column.specs.Columns.{Row, row_of, rows_of, values_of}
use Rattle.column.specs.Views.{block_rows}
use Rattle.column.proofs.RowLaws.{values-append}
use Rattle.column.proofs.WordLaws.{word_rows}
use Rattle.column.proofs.NextLaws.{Next, next-rows}
use Rattle.stats.specs.Blocks.{bit, kept_from, shown}

row-way : (r x : ℕ) (rs : List Row) → r < 2 → values_of (row_of r x ∷ rs) ≡ cond (eqb r 1) (x ∷ values_of rs) (values_of rs)
row-way zero x rs h = refl
row-way (suc zero) x rs h = refl
row-way (suc (suc r)) x rs h = absurd (omega (arith, h))

-- the values of a block from bit j on
kept-rows : (w j : ℕ) (xs : List ℕ) → kept_from w j xs ≡ values_of (block_rows (w / 2 ^ j) xs)
kept-rows w j [] = refl
kept-rows w j (x ∷ xs) =
    let rest = block_rows (w / 2 ^ j / 2) xs in
    let same : kept_from w (j + 1) xs ≡ values_of rest = kept-rows w (j + 1) xs ∙ ap (λ z. values_of (block_rows z xs)) (sym (shr-shr w j 1)) in
    ap (λ z. cond (bit w j) (x ∷ z) z) same ∙ sym (row-way (w / 2 ^ j % 2) x rest (omega arith))

-- the next block's values, and those after it
pub block-more : {ws cs : List ℕ} {word : ℕ} {block ws2 cs2 : List ℕ} → Next ws cs word block ws2 cs2 → shown ws cs ≡ kept_from word 0 block ++ shown ws2 cs2
block-more {ws} {cs} {word} {block} {ws2} {cs2} n =
    let kept : kept_from word 0 block ≡ values_of (block_rows word block) = kept-rows word 0 block ∙ ap (λ z. values_of (block_rows z block)) (div-one word) in
    ap values_of (next-rows n) ∙ values-append (block_rows word block) (word_rows ws2 cs2) ∙ ap (λ z. z ++ shown ws2 cs2) (sym kept)

pub blank-rows : (cells : List ℕ) → values_of (rows_of (digits 2 (length cells) 0) cells) ≡ []
blank-rows [] = refl
blank-rows (c ∷ cs) = blank-rows cs

-- no cell, or no word
pub shown-none : (ws cells : List ℕ) → (length cells ≡ 0) ⊎ (length ws ≡ 0) → shown ws cells ≡ []
shown-none ws [] o = refl
shown-none [] (c ∷ cs) o = blank-rows (c ∷ cs)
shown-none (w ∷ ws) (c ∷ cs) (inl e) = absurd (omega (arith, e))
shown-none (w ∷ ws) (c ∷ cs) (inr e) = absurd (omega (arith, e))
