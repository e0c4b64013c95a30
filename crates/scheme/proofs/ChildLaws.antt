-- Children of a scheme: what the narrowest kind holds, and columns without a blank.
use Rattle.std.proofs.Common.{◌≡◌, ℕ, ◌^◌, ◌<◌, ◌≤◌, Bool, true, false, ltb, List, [], ◌∷◌, length, take, Some, None, sym, refl, ap, ◌∙◌, subst, zero-le, arith}
use Rattle.std.specs.List.{AllByRecursion}
use Rattle.std.proofs.lemmas.List.{length-map, length-take-le, take_at}
use Rattle.std.proofs.lemmas.Bool.{ltb-true, le-leb}
use Rattle.packing.specs.Packing.{joined, digits, written}
use Rattle.column.specs.Kinds.{in_kind}
use Rattle.column.specs.Columns.{Row, Column, Offer, Clean, bits, cells, filled, presence, values_of, words_for}
use Rattle.column.proofs.KindLaws.{in-kind}
use Rattle.column.proofs.StrayLaws.{stray-each}
use Rattle.node.specs.Payloads.{ones, words_of}
use Rattle.node.proofs.MaskLaws.{length-words}
use Rattle.scheme.specs.Children.{narrow_by, narrow, some_row, some_rows}
use Rattle.scheme.specs.Memory.{stored_child}

-- ---- the narrowest kind

abbrev pub Narrows : ℕ → ℕ → Type 0
Narrows m k = (k ≤ 7) × ((x : ℕ) → x ≤ m → in_kind k x ≡ true)

pub narrows : (m : ℕ) → m < 2 ^ 32 → Narrows m (narrow m)
narrows m h = go (ltb m (2 ^ 8)) (ltb m (2 ^ 16)) refl refl
  where
    go : (p q : Bool) → ltb m (2 ^ 8) ≡ p → ltb m (2 ^ 16) ≡ q → Narrows m (narrow_by p q)
    go true q e f = (zero-le, λ x l. let t = ltb-true _ _ e in in-kind 0 x (omega arith) zero-le (omega arith))
    go false true e f = (omega arith, λ x l. let t = ltb-true _ _ f in in-kind 1 x (omega arith) zero-le (omega arith))
    go false false e f = (omega arith, λ x l. in-kind 2 x (omega arith) zero-le (omega arith))

-- ---- clean columns

pub is-clean : (c : Column) → c.kind ≤ 7 → length c.rows ≤ 131072 → AllByRecursion (λ w. in_kind c.kind w ≡ true) (values_of c.rows) → Clean c
is-clean c k l a = (le-leb c.kind 7 k, le-leb (length c.rows) 131072 l, stray-each c.kind 0 c.rows a)

-- ---- rows and their values

-- rows from their presence bits and values
pub filled-back : (rs : List Row) → filled (bits rs) (values_of rs) ≡ rs
filled-back [] = refl
filled-back (None ∷ rs) = ap (λ (xs : List Row). None ∷ xs) (filled-back rs)
filled-back (Some w ∷ rs) = ap (λ (xs : List Row). Some w ∷ xs) (filled-back rs)

-- ---- rows without a blank

pub length_some : (vs : List ℕ) → length (some_rows vs) ≡ length vs
length_some vs = length-map vs some_row

pub values-some : (vs : List ℕ) → values_of (some_rows vs) ≡ vs
values-some [] = refl
values-some (v ∷ vs) = ap (λ ws. v ∷ ws) (values-some vs)

pub cells-some : (vs : List ℕ) → cells (some_rows vs) ≡ vs
cells-some [] = refl
cells-some (v ∷ vs) = ap (λ ws. v ∷ ws) (cells-some vs)

bits-some : (vs : List ℕ) → bits (some_rows vs) ≡ ones (length vs)
bits-some [] = refl
bits-some (v ∷ vs) = ap (λ ws. 1 ∷ ws) (bits-some vs)

pub presence-some : (vs : List ℕ) → presence (some_rows vs) ≡ words_of (length vs) (ones (length vs))
presence-some vs = λ i. digits (2 ^ 64) (words_for (length_some vs i)) (joined 2 (bits-some vs i))

-- as it lies in lent places: the values, and presence words of as many set bits
pub some_stored : (k n : ℕ) (vs cs ws old : List ℕ) → take n cs ≡ vs → n ≤ length cs → ws ≡ written (words_of n (ones n)) old
    → ◌≡◌ {A = ℕ × Offer} (n, record { kind = k; cells = take n cs; words = take (words_for n) ws }) (stored_child (record { kind = k; rows = some_rows vs }))
some_stored k n vs cs ws old e l w =
    let len : length vs ≡ n = sym (ap length e) ∙ length-take-le n cs l in
    let rows : n ≡ length (some_rows vs) = sym len ∙ sym (length_some vs) in
    let held : take n cs ≡ cells (some_rows vs) = e ∙ sym (cells-some vs) in
    let front : take (words_for n) ws ≡ words_of n (ones n) = ap (take (words_for n)) w ∙ take_at (words_of n (ones n)) _ (words_for n) (length-words n (ones n)) in
    let words : take (words_for n) ws ≡ presence (some_rows vs) = front ∙ ap (λ m. words_of m (ones m)) (sym len) ∙ sym (presence-some vs) in
    λ i. (rows i, record { kind = k; cells = held i; words = words i })

pub some-clean : (k : ℕ) (vs : List ℕ) → k ≤ 7 → length vs ≤ 131072 → AllByRecursion (λ w. in_kind k w ≡ true) vs → Clean (record { kind = k; rows = some_rows vs })
some-clean k vs h l a =
    let e = length_some vs in
    is-clean (record { kind = k; rows = some_rows vs }) h (omega arith) (subst (AllByRecursion (λ w. in_kind k w ≡ true)) (sym (values-some vs)) a)
