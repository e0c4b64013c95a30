-- Values gathered one after another.
use Rattle.std.proofs.Common.{◌≡◌, ℕ, ◌+◌, ◌-◌, ◌<◌, ◌≤◌, true, false, ◌⊎◌, List, ◌++◌, length, get_or, take, drop, set, sym, refl, ap, ◌∙◌, arith}
use Rattle.std.proofs.lemmas.List.{take_more_set, drop_more, drop_all, drop-drop, append_assoc, append-nil}
use Rattle.stats.specs.Blocks.{bit, kept_from, shown}
use Rattle.column.proofs.NextLaws.{Next, next-length}
use Rattle.stats.proofs.RowsLink.{block-more, shown-none}

pub gather-value : (w n i : ℕ) (xs out out2 : List ℕ) (n2 : ℕ) (goal : List ℕ) → i < length xs → n < length out → bit w i ≡ true → out2 ≡ set out n (get_or xs i 0) → n2 ≡ n + 1
    → take n out ++ kept_from w i (drop i xs) ≡ goal → take n2 out2 ++ kept_from w (i + 1) (drop (i + 1) xs) ≡ goal
gather-value w n i xs out out2 n2 goal h l t e1 e2 k =
    let k1 = rw (drop_more xs i 0 h, t) at k in
    rw (e1, e2, take_more_set out n (get_or xs i 0) l, append_assoc) k1

pub gather-blank : (w n i : ℕ) (xs out out2 : List ℕ) (n2 : ℕ) (goal : List ℕ) → i < length xs → bit w i ≡ false → out2 ≡ out → n2 ≡ n
    → take n out ++ kept_from w i (drop i xs) ≡ goal → take n2 out2 ++ kept_from w (i + 1) (drop (i + 1) xs) ≡ goal
gather-blank w n i xs out out2 n2 goal h t e1 e2 k =
    let k1 = rw (drop_more xs i 0 h, t) at k in
    rw (e1, e2) k1

pub gather-end : (w n i : ℕ) (xs out goal : List ℕ) → length xs ≤ i → take n out ++ kept_from w i (drop i xs) ≡ goal → take n out ≡ goal
gather-end w n i xs out goal h k = sym (append-nil (take n out)) ∙ rw (drop_all i xs h) at k

-- what is alike from m on is alike from a later n on
pub drop-later : (m n : ℕ) (xs ys : List ℕ) → m ≤ n → drop m xs ≡ drop m ys → drop n xs ≡ drop n ys
drop-later m n xs ys h e =
    let q : m + (n - m) ≡ n = omega arith in
    sym (drop-drop (n - m) m xs ∙ ap (λ z. drop z xs) q) ∙ ap (drop (n - m)) e ∙ drop-drop (n - m) m ys ∙ ap (λ z. drop z ys) q

-- what is gathered, with what is to come in the words ws and the cells cs; out0 is what stood there before
pub record Got (words cells out0 out : List ℕ) (at : ℕ) (ws cs : List ℕ) : Type 0 where
  pub front : take at out ++ shown ws cs ≡ shown words cells
  pub fits : at + length cs ≤ length cells
  pub beyond : drop (length cells) out ≡ drop (length cells) out0

pub got-none : (words cells out : List ℕ) → Got words cells out out 0 words cells
got-none words cells out = record { front = refl; fits = omega arith; beyond = refl }

pub got-more : {words cells out0 out : List ℕ} {at : ℕ} {ws cs : List ℕ} → Got words cells out0 out at ws cs → {word : ℕ} {block ws2 cs2 : List ℕ} → Next ws cs word block ws2 cs2 → (r : ℕ) (out2 : List ℕ)
    → take r out2 ≡ take at out ++ kept_from word 0 block → r ≤ at + length block → drop (at + length block) out2 ≡ drop (at + length block) out → Got words cells out0 out2 r ws2 cs2
got-more {words} {cells} {out0} {out} {at} {ws} {cs} k {word} {block} {ws2} {cs2} n r out2 f g u =
    let rest = shown ws2 cs2 in
    let new = kept_from word 0 block in
    let long = next-length n in
    record {
      front = ap (λ z. z ++ rest) f ∙ append_assoc (take at out) new rest ∙ ap (λ z. take at out ++ z) (sym (block-more n)) ∙ k.front;
      fits = omega (arith, k.fits, long, g);
      beyond = drop-later (at + length block) (length cells) out2 out (omega (arith, k.fits, long)) u ∙ k.beyond;
    }

pub got-all : {words cells out0 out : List ℕ} {at : ℕ} {ws cs : List ℕ} → Got words cells out0 out at ws cs → (length cs ≡ 0) ⊎ (length ws ≡ 0) → take at out ≡ shown words cells
got-all {words} {cells} {out0} {out} {at} {ws} {cs} k o =
    sym (append-nil (take at out)) ∙ ap (λ z. take at out ++ z) (sym (shown-none ws cs o)) ∙ k.front
