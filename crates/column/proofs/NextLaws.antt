-- A view's blocks, one after another: 64 cells and their presence word each, the last perhaps with fewer cells.
use Rattle.std.proofs.Common.{◌≡◌, ℕ, suc, ◌+◌, ◌^◌, ◌<◌, min, ◌⊎◌, List, ◌∷◌, ◌++◌, length, ap, ◌∙◌, inl, inr, arith}
use Rattle.std.proofs.lemmas.Bool.{cases_lt}
use Rattle.std.proofs.lemmas.List.{length-append}
use Rattle.packing.specs.Packing.{joined, digits}
use Rattle.column.specs.Words.{words_for}
use Rattle.column.specs.Columns.{rows_of, word_bits}
use Rattle.column.specs.Views.{block_rows}
use Rattle.column.proofs.RowLaws.{length_digits, rows_append}
use Rattle.column.proofs.WordLaws.{word_rows, digits-split}

-- the first block of the words ws and cells cs, and what follows it
pub record Next (ws cs : List ℕ) (word : ℕ) (block ws2 cs2 : List ℕ) : Type 0 where
  pub words : ws ≡ word ∷ ws2
  pub cells : cs ≡ block ++ cs2
  pub size : length block ≡ min 64 (length cs)
  pub fits : word < 2 ^ 64

-- as the loop over the two gives it
pub next-by : {n : ℕ} {ws cs : List ℕ} {word : ℕ} {block ws2 cs2 : List ℕ} → n ≡ 64 → cs ≡ block ++ cs2 → length block ≡ min n (length cs) → ws ≡ word ∷ ws2 → word < 2 ^ 64 → Next ws cs word block ws2 cs2
next-by {n} {ws} {cs} e c s w f = record { words = w; cells = c; size = s ∙ ap (λ m. min m (length cs)) e; fits = f }

module _ {ws cs : List ℕ} {word : ℕ} {block ws2 cs2 : List ℕ} (n : Next ws cs word block ws2 cs2) where
  pub next-length : length cs ≡ length block + length cs2
  next-length = ap length n.cells ∙ length-append block cs2

  -- it is the last, or whole
  pub next-last : (length cs2 ≡ 0) ⊎ (length block ≡ 64)
  next-last = elim (cases_lt (length cs) 64) [ inl l ↦ inl (omega (arith, l, n.size, next-length)) | inr l ↦ inr (omega (arith, l, n.size)) ]

  pub next-worded : length ws ≡ words_for (length cs) → length ws2 ≡ words_for (length cs2)
  next-worded h =
      let w : length ws ≡ suc (length ws2) = ap length n.words in
      elim next-last [ inl e ↦ omega (arith, e, h, w, next-length) | inr e ↦ omega (arith, e, h, w, next-length) ]

  pub next-rows : word_rows ws cs ≡ block_rows word block ++ word_rows ws2 cs2
  next-rows =
      let bs = digits 2 (length block) word in
      (λ i. word_rows (n.words i) (n.cells i))
      ∙ ap (λ z. rows_of z (block ++ cs2)) (digits-split 64 word (joined (2 ^ 64) ws2) block cs2 (omega (arith, n.size)) next-last n.fits)
      ∙ rows_append bs (word_bits (length cs2) ws2) block cs2 (length_digits 2 (length block) word)

-- a word for each 64 cells, and no cell or no word left: no cell
pub over : (ws cs : List ℕ) → length ws ≡ words_for (length cs) → (length cs ≡ 0) ⊎ (length ws ≡ 0) → length cs ≡ 0
over ws cs h o = elim o [ inl e ↦ e | inr e ↦ omega (arith, e, h) ]
