-- Whether a block has a blank.
use Rattle.std.proofs.Common.{◌≡◌, ℕ, zero, suc, ◌+◌, ◌-◌, ◌*◌, ◌/◌, ◌%◌, ◌^◌, ◌≤◌, Bool, true, false, not, ◌||◌, eqb, List, [], ◌∷◌, length, sym, refl, ap, ◌∙◌, inl, inr, add-mul, pow-suc, add-one, arith, pow_pos}
use Rattle.std.proofs.lemmas.Bool.{cases_eq, eq-eqb, ne_eqb}
use Rattle.std.proofs.lemmas.Nat.{mod-pow-add, pow-add, mod-mul-add}
use Rattle.column.specs.Columns.{row_of, has_blank}
use Rattle.column.specs.Views.{block_rows}
use Rattle.column.proofs.RowLaws.{blank-append}
use Rattle.column.proofs.WordLaws.{word_rows, rows_none}
use Rattle.column.proofs.NextLaws.{Next, next-rows}

-- all n low bits are set
abbrev pub full : ℕ → ℕ → Bool
full n w = eqb (w % 2 ^ n) (2 ^ n - 1)

eqb_same : (a b c d : ℕ) → (a ≡ b → c ≡ d) → (c ≡ d → a ≡ b) → eqb a b ≡ eqb c d
eqb_same a b c d f g = elim (cases_eq a b) [ inl h ↦ eq-eqb a b h ∙ sym (eq-eqb c d (f h)) | inr h ↦ ne_eqb a b h ∙ sym (ne_eqb c d (λ q. h (g q))) ]

low_bits : (w n : ℕ) → w % 2 ^ suc n ≡ w / 2 % 2 ^ n * 2 + w % 2
low_bits w n = ap (λ z. w % 2 ^ z) (sym (add-one n)) ∙ mod-pow-add w n 1

full-odd : (w n : ℕ) → w % 2 ≡ 1 → full (suc n) w ≡ full n (w / 2)
full-odd w n o =
    let p = pow-suc 2 n in
    let q = pow_pos n in
    let l = low_bits w n in
    eqb_same (w % 2 ^ suc n) (2 ^ suc n - 1) (w / 2 % 2 ^ n) (2 ^ n - 1) (λ e. omega arith) (λ e. omega arith)

full-even : (w n : ℕ) → w % 2 ≡ 0 → full (suc n) w ≡ false
full-even w n o =
    let p = pow-suc 2 n in
    let q = pow_pos n in
    let l = low_bits w n in
    ne_eqb (w % 2 ^ suc n) (2 ^ suc n - 1) (λ e. omega arith)

-- a block has a blank where not all its bits are set
pub block-blank : (w : ℕ) (xs : List ℕ) → has_blank (block_rows w xs) ≡ not (full (length xs) w)
block-blank w [] = ap not (sym (eq-eqb (w % 1) 0 (omega arith)))
block-blank w (x ∷ xs) = go (w % 2) refl (block-blank (w / 2) xs)
  where
    go : (b : ℕ) → w % 2 ≡ b → has_blank (block_rows (w / 2) xs) ≡ not (full (length xs) (w / 2)) → has_blank (row_of b x ∷ block_rows (w / 2) xs) ≡ not (full (suc (length xs)) w)
    go zero e ih = ap not (sym (full-even w (length xs) e))
    go (suc zero) e ih = ih ∙ ap not (sym (full-odd w (length xs) e))
    go (suc (suc b)) e ih = absurd (omega arith)

-- a word of ones has its low bits set
ones-full : (n : ℕ) → n ≤ 64 → full n (2 ^ 64 - 1) ≡ true
ones-full n h =
    let a = 2 ^ (64 - n) in
    let b = 2 ^ n in
    let p : 2 ^ 64 ≡ a * b = ap (λ z. 2 ^ z) (let s : 64 ≡ (64 - n) + n = omega arith in s) ∙ pow-add 2 (64 - n) n in
    let q = pow_pos n in
    let r = pow_pos (64 - n) in
    let t : a * b ≡ (a - 1) * b + 1 * b = ap (λ z. z * b) (let u : a ≡ a - 1 + 1 = omega arith in u) ∙ add-mul (a - 1) 1 b in
    let s : 2 ^ 64 - 1 ≡ (a - 1) * b + (b - 1) = omega arith in
    eq-eqb ((2 ^ 64 - 1) % b) (b - 1) (ap (λ z. z % b) s ∙ mod-mul-add (a - 1) b (b - 1) (omega arith))

pub ones-block : (w : ℕ) (xs : List ℕ) → w ≡ 2 ^ 64 - 1 → length xs ≤ 64 → has_blank (block_rows w xs) ≡ false
ones-block w xs e h = ap (λ z. has_blank (block_rows z xs)) e ∙ block-blank (2 ^ 64 - 1) xs ∙ ap not (ones-full (length xs) h)

-- ---- block by block

module _ {ws cs : List ℕ} {word : ℕ} {block ws2 cs2 : List ℕ} {goal : Bool} (n : Next ws cs word block ws2 cs2) (now : has_blank (word_rows ws cs) ≡ goal) where
  blanks-split : (has_blank (block_rows word block) || has_blank (word_rows ws2 cs2)) ≡ goal
  blanks-split = sym (blank-append (block_rows word block) (word_rows ws2 cs2)) ∙ ap has_blank (sym (next-rows n)) ∙ now

  pub blanks-more : false ≡ has_blank (block_rows word block) → has_blank (word_rows ws2 cs2) ≡ goal
  blanks-more none = ap (λ z. z || has_blank (word_rows ws2 cs2)) none ∙ blanks-split

  pub blanks-stop : true ≡ has_blank (block_rows word block) → true ≡ goal
  blanks-stop some = ap (λ z. z || has_blank (word_rows ws2 cs2)) some ∙ blanks-split

-- no rows are left
pub blanks-end : (ws cs : List ℕ) (goal : Bool) → length cs ≡ 0 → has_blank (word_rows ws cs) ≡ goal → false ≡ goal
blanks-end ws cs goal h now = ap has_blank (sym (rows_none ws cs h)) ∙ now
