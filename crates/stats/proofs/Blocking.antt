-- Changes counted block after block.
use Rattle.std.proofs.Common.{◌≡◌, ℕ, suc, ◌+◌, ◌≤◌, Bool, true, false, cond, ◌⊎◌, List, [], ◌∷◌, ◌++◌, length, sym, refl, ap, ◌∙◌, arith}
use Rattle.stats.specs.Stats.{changes}
use Rattle.stats.specs.Blocks.{last_or, bit, kept_from, shown}
use Rattle.column.proofs.NextLaws.{Next, next-length}
use Rattle.stats.proofs.RowsLink.{block-more, shown-none}
use Rattle.stats.proofs.Bounds.{changes-++, last_or-++, changes-le}

kept-way : (w x : ℕ) (ys : List ℕ) (b : Bool) (n : ℕ) → length ys ≤ n → length (cond b (x ∷ ys) ys) ≤ suc n
kept-way w x ys true n h = omega (arith, h)
kept-way w x ys false n h = omega (arith, h)

length-kept : (w j : ℕ) (xs : List ℕ) → length (kept_from w j xs) ≤ length xs
length-kept w j [] = omega arith
length-kept w j (x ∷ xs) = kept-way w x (kept_from w (j + 1) xs) (bit w j) (length xs) (length-kept w (j + 1) xs)

-- what is counted, with what is to come in the words ws and the cells cs
pub record Counted (words cells : List ℕ) (from p runs prev : ℕ) (ws cs : List ℕ) : Type 0 where
  pub sum : runs + changes prev (shown ws cs) ≡ from + changes p (shown words cells)
  pub last : last_or prev (shown ws cs) ≡ last_or p (shown words cells)
  pub few : runs + length cs ≤ from + length cells

pub counted_none : (words cells : List ℕ) (from p : ℕ) → Counted words cells from p from p words cells
counted_none words cells from p = record { sum = refl; last = refl; few = omega arith }

pub counted-more : {words cells : List ℕ} {from p runs prev : ℕ} {ws cs : List ℕ} → Counted words cells from p runs prev ws cs → {word : ℕ} {block ws2 cs2 : List ℕ} → Next ws cs word block ws2 cs2 → (r v : ℕ)
    → r ≡ runs + changes prev (kept_from word 0 block) → v ≡ last_or prev (kept_from word 0 block) → Counted words cells from p r v ws2 cs2
counted-more {words} {cells} {from} {p} {runs} {prev} {ws} {cs} k {word} {block} {ws2} {cs2} n r v re ve =
    let new = kept_from word 0 block in
    let rest = shown ws2 cs2 in
    let split : shown ws cs ≡ new ++ rest = block-more n in
    let cv : changes v rest ≡ changes (last_or prev new) rest = ap (λ z. changes z rest) ve in
    let sum : changes prev (shown ws cs) ≡ changes prev new + changes (last_or prev new) rest = ap (changes prev) split ∙ changes-++ prev new rest in
    let few : changes prev new ≤ length block = omega (arith, changes-le prev new, length-kept word 0 block) in
    let long = next-length n in
    record {
      sum = omega (arith, k.sum, re, cv, sum);
      last = ap (λ z. last_or z rest) ve ∙ sym (ap (last_or prev) split ∙ last_or-++ prev new rest) ∙ k.last;
      few = omega (arith, k.few, re, few, long);
    }

pub counted-all : {words cells : List ℕ} {from p runs prev : ℕ} {ws cs : List ℕ} → Counted words cells from p runs prev ws cs → (length cs ≡ 0) ⊎ (length ws ≡ 0) → (runs ≡ from + changes p (shown words cells)) × (prev ≡ last_or p (shown words cells))
counted-all {words} {cells} {from} {p} {runs} {prev} {ws} {cs} k o =
    let d : shown ws cs ≡ [] = shown-none ws cs o in
    (omega (arith, k.sum, ap (changes prev) d), sym (ap (last_or prev) d) ∙ k.last)
