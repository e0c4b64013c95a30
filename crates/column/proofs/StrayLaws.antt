-- The first row outside its kind, block by block; refusals.
use Rattle.std.proofs.Common.{◌≡◌, ℕ, zero, suc, ◌+◌, ◌/◌, ◌%◌, ◌^◌, ◌<◌, ◌≤◌, Bool, true, false, List, [], ◌∷◌, ◌++◌, length, get_or, drop, Some, None, Option, sym, refl, ap, ◌∙◌, inl, inr, add-zero, arith}
use Rattle.std.specs.List.{AllByRecursion}
use Rattle.std.proofs.ByRecursion.{All-weaker}
use Rattle.packing.specs.Packing.{digits}
use Rattle.column.specs.Kinds.{in_kind}
use Rattle.column.specs.Columns.{Row, row_of, rows_of, values_of, stray_by, stray_from}
use Rattle.column.specs.Views.{block_rows}
use Rattle.column.proofs.RowLaws.{row-set, row-unset, all-rows}
use Rattle.column.proofs.WordLaws.{Words, word_rows, block_more, block-end, block_start, length-block, rows_none}
use Rattle.column.proofs.NextLaws.{Next, next-last, next-rows}

apart : {X : Type 0} {n : ℕ} → ◌≡◌ {A = Option ℕ} (Some n) None → X
apart e = absurd (let z : ◌≡◌ {A = ℕ} 0 1 = cc in omega arith)

pub stray-none : (k i : ℕ) (xs ys : List Row) → stray_from k i xs ≡ None → stray_from k i (xs ++ ys) ≡ stray_from k (i + length xs) ys
stray-none k i [] ys e = ap (λ z. stray_from k z ys) (sym (add-zero i))
stray-none k i (None ∷ xs) ys e = stray-none k (suc i) xs ys e ∙ ap (λ z. stray_from k z ys) (omega arith)
stray-none k i (Some w ∷ xs) ys e = go (in_kind k w) e (stray-none k (suc i) xs ys)
  where
    go : (q : Bool) → stray_by q i (stray_from k (suc i) xs) ≡ None → (stray_from k (suc i) xs ≡ None → stray_from k (suc i) (xs ++ ys) ≡ stray_from k (suc i + length xs) ys)
        → stray_by q i (stray_from k (suc i) (xs ++ ys)) ≡ stray_from k (i + suc (length xs)) ys
    go true f ih = ih f ∙ ap (λ z. stray_from k z ys) (omega arith)
    go false f ih = apart f

pub stray-some : (k i r : ℕ) (xs ys : List Row) → stray_from k i xs ≡ Some r → stray_from k i (xs ++ ys) ≡ Some r
stray-some k i r [] ys e = apart (sym e)
stray-some k i r (None ∷ xs) ys e = stray-some k (suc i) r xs ys e
stray-some k i r (Some w ∷ xs) ys e = go (in_kind k w) e (stray-some k (suc i) r xs ys)
  where
    go : (q : Bool) → stray_by q i (stray_from k (suc i) xs) ≡ Some r → (stray_from k (suc i) xs ≡ Some r → stray_from k (suc i) (xs ++ ys) ≡ Some r) → stray_by q i (stray_from k (suc i) (xs ++ ys)) ≡ Some r
    go true f ih = ih f
    go false f ih = f

-- no row is stray where each value is of the kind
pub stray-each : (k i : ℕ) (rs : List Row) → AllByRecursion (λ w. in_kind k w ≡ true) (values_of rs) → stray_from k i rs ≡ None
stray-each k i [] h = refl
stray-each k i (None ∷ rs) h = stray-each k (suc i) rs h
stray-each k i (Some w ∷ rs) h = ap (λ q. stray_by q i (stray_from k (suc i) rs)) h.0 ∙ stray-each k (suc i) rs h.1

pub each-stray : (k i : ℕ) (rs : List Row) → stray_from k i rs ≡ None → AllByRecursion (λ w. in_kind k w ≡ true) (values_of rs)
each-stray k i [] e = tt
each-stray k i (None ∷ rs) e = each-stray k (suc i) rs e
each-stray k i (Some w ∷ rs) e = go (in_kind k w) refl e (each-stray k (suc i) rs)
  where
    go : (q : Bool) → in_kind k w ≡ q → stray_by q i (stray_from k (suc i) rs) ≡ None → (stray_from k (suc i) rs ≡ None → AllByRecursion (λ x. in_kind k x ≡ true) (values_of rs)) → (in_kind k w ≡ true) × AllByRecursion (λ x. in_kind k x ≡ true) (values_of rs)
    go true g f ih = (g, ih f)
    go false g f ih = apart f

-- no word is outside a kind that holds every word
pub stray-wide : (k i : ℕ) (bs ws : List ℕ) → ((w : ℕ) → w < 2 ^ 64 → in_kind k w ≡ true) → Words ws → stray_from k i (rows_of bs ws) ≡ None
stray-wide k i bs ws f a = stray-each k i (rows_of bs ws) (All-weaker (λ w. w < 2 ^ 64) (λ w. in_kind k w ≡ true) f (values_of (rows_of bs ws)) (all-rows (λ w. w < 2 ^ 64) bs ws (omega arith) a))

-- ---- in one block

pub stray-blank : (k i n : ℕ) (xs : List ℕ) → stray_from k i (rows_of (digits 2 n 0) xs) ≡ None
stray-blank k i zero xs = refl
stray-blank k i (suc n) [] = stray-blank k (suc i) n []
stray-blank k i (suc n) (x ∷ xs) = stray-blank k (suc i) n xs

module _ (k s w i : ℕ) (xs : List ℕ) (h : i < length xs) (goal : Option ℕ) (now : stray_from k (s + i) (block_rows (w / 2 ^ i) (drop i xs)) ≡ goal) where
  here : stray_from k (s + i) (row_of (w / 2 ^ i % 2) (get_or xs i 0) ∷ block_rows (w / 2 ^ (i + 1)) (drop (i + 1) xs)) ≡ goal
  here = ap (stray_from k (s + i)) (sym (block_more w i xs h)) ∙ now

  next : stray_from k (suc (s + i)) (block_rows (w / 2 ^ (i + 1)) (drop (i + 1) xs)) ≡ goal → stray_from k (s + (i + 1)) (block_rows (w / 2 ^ (i + 1)) (drop (i + 1) xs)) ≡ goal
  next e = ap (λ z. stray_from k z (block_rows (w / 2 ^ (i + 1)) (drop (i + 1) xs))) (omega arith) ∙ e

  pub stray-past : (w / 2 ^ i % 2 ≡ 1 → ⊥) → stray_from k (s + (i + 1)) (block_rows (w / 2 ^ (i + 1)) (drop (i + 1) xs)) ≡ goal
  stray-past t =
      let rest = block_rows (w / 2 ^ (i + 1)) (drop (i + 1) xs) in
      next (ap (λ r. stray_from k (s + i) (r ∷ rest)) (sym (row-unset (w / 2 ^ i % 2) (get_or xs i 0) (omega arith) t)) ∙ here)

  pub stray-over : w / 2 ^ i % 2 ≡ 1 → in_kind k (get_or xs i 0) ≡ true → stray_from k (s + (i + 1)) (block_rows (w / 2 ^ (i + 1)) (drop (i + 1) xs)) ≡ goal
  stray-over t q =
      let rest = block_rows (w / 2 ^ (i + 1)) (drop (i + 1) xs) in
      next (ap (λ z. stray_by z (s + i) (stray_from k (suc (s + i)) rest)) (sym q) ∙ ap (λ r. stray_from k (s + i) (r ∷ rest)) (sym (row-set (w / 2 ^ i % 2) (get_or xs i 0) t)) ∙ here)

  pub stray-found : w / 2 ^ i % 2 ≡ 1 → in_kind k (get_or xs i 0) ≡ false → Some (s + i) ≡ goal
  stray-found t q =
      let rest = block_rows (w / 2 ^ (i + 1)) (drop (i + 1) xs) in
      ap (λ z. stray_by z (s + i) (stray_from k (suc (s + i)) rest)) (sym q) ∙ ap (λ r. stray_from k (s + i) (r ∷ rest)) (sym (row-set (w / 2 ^ i % 2) (get_or xs i 0) t)) ∙ here

pub stray-end : (k s w i : ℕ) (xs : List ℕ) (goal : Option ℕ) → length xs ≤ i → stray_from k (s + i) (block_rows (w / 2 ^ i) (drop i xs)) ≡ goal → None ≡ goal
stray-end k s w i xs goal h e = ap (stray_from k (s + i)) (sym (block-end w i xs h)) ∙ e

pub stray-start : (k s w : ℕ) (xs : List ℕ) → stray_from k (s + 0) (block_rows (w / 2 ^ 0) xs) ≡ stray_from k s (block_rows w xs)
stray-start k s w xs = λ i. stray_from k (add-zero s i) (block_start w xs i)

-- ---- block by block

module _ {ws cs : List ℕ} {word : ℕ} {block ws2 cs2 : List ℕ} {goal : Option ℕ} (k s : ℕ) (n : Next ws cs word block ws2 cs2) (now : stray_from k s (word_rows ws cs) ≡ goal) where
  strays-split : stray_from k s (block_rows word block ++ word_rows ws2 cs2) ≡ goal
  strays-split = ap (stray_from k s) (sym (next-rows n)) ∙ now

  -- nothing stray in the block: on to the next
  pub strays-more : (s2 : ℕ) → s2 ≡ s + 64 → stray_from k s (block_rows word block) ≡ None → stray_from k s2 (word_rows ws2 cs2) ≡ goal
  strays-more s2 e none =
      let blk = block_rows word block in
      let after = word_rows ws2 cs2 in
      let moved : stray_from k (s + length blk) after ≡ goal = sym (stray-none k s blk after none) ∙ strays-split in
      elim (next-last n) [
        | inl l ↦ let z : after ≡ [] = rows_none ws2 cs2 l in ap (stray_from k s2) z ∙ ap (stray_from k (s + length blk)) (sym z) ∙ moved
        | inr l ↦ ap (λ z. stray_from k z after) (omega (arith, e, l, length-block word block)) ∙ moved
      ]

  -- the block's first is the first of all
  pub strays-stop : (r : ℕ) → stray_from k s (block_rows word block) ≡ Some r → Some r ≡ goal
  strays-stop r some = sym (stray-some k s r (block_rows word block) (word_rows ws2 cs2) some) ∙ strays-split

pub strays-end : (k s : ℕ) (ws cs : List ℕ) (goal : Option ℕ) → length cs ≡ 0 → stray_from k s (word_rows ws cs) ≡ goal → None ≡ goal
strays-end k s ws cs goal h now = ap (stray_from k s) (sym (rows_none ws cs h)) ∙ now
