-- Distances from the least value, row by row, and values from them again.
use Rattle.std.proofs.Common.{◌≡◌, ℕ, zero, suc, ◌+◌, ◌-◌, ◌%◌, ◌^◌, ◌<◌, ◌≤◌, Bool, true, false, cond, List, [], ◌∷◌, ◌++◌, map, length, get_or, take, drop, set, Some, None, sym, ap, ◌∙◌, subst, append-nil, arith}
use Rattle.std.specs.List.{AllByRecursion}
use Rattle.std.proofs.lemmas.List.Edits.{map_over_more}
use Rattle.std.proofs.lemmas.List.{drop_all, get_or_default, take_all}
use Rattle.packing.specs.Packing.{joined, Below}
use Rattle.column.specs.declared.views.View.{View}
use Rattle.column.specs.Kinds.{number_of, signed, key_by}
use Rattle.column.specs.Columns.{Row, Column, row_of, values_of, values, word_bits, seen, Clean, CleanView}
use Rattle.column.specs.Views.{is_value}
use Rattle.column.proofs.KindLaws.{bounds}
use Rattle.column.proofs.RowLaws.{length_digits, row_at}
use Rattle.frame.specs.Frame.{base, over_base, column_bits, payload_by, frame_payload, added_to}
use Rattle.frame.specs.FrameLaws.{Framed, Based, based, below-over}

-- ---- distances

-- two words differ as their keys do
subtracted : (s : Bool) (m v : ℕ) → m < 2 ^ 64 → v < 2 ^ 64 → key_by s m ≤ key_by s v → (v + (2 ^ 64 - m)) % 2 ^ 64 ≡ key_by s v - key_by s m
subtracted true m v a b h = omega arith
subtracted false m v a b h = omega arith

value-at : (P : ℕ → Type 0) (rs : List Row) (i w : ℕ) → AllByRecursion P (values_of rs) → get_or rs i None ≡ Some w → P w
value-at P [] i w a e = absurd (let z : ◌≡◌ {A = ℕ} 0 1 = cc in omega arith)
value-at P (None ∷ rs) zero w a e = absurd (let z : ◌≡◌ {A = ℕ} 0 1 = cc in omega arith)
value-at P (Some v ∷ rs) zero w a e = let g : v ≡ w = cc in subst P g a.0
value-at P (None ∷ rs) (suc i) w a e = value-at P rs i w a e
value-at P (Some v ∷ rs) (suc i) w a e = value-at P rs i w a.1 e

pub distance_is : (v : View) (m i : ℕ) (p : Bool) (d : ℕ) → CleanView v → m ≡ base (number_of v.kind) (values (seen v)) → i < length v.cells.now
    → p ≡ is_value (get_or (seen v).rows i None) → d ≡ cond p ((get_or v.cells.now i 0 + (2 ^ 64 - m)) % 2 ^ 64) 0
    → d ≡ over_base (number_of v.kind) m (get_or (seen v).rows i None)
distance_is v m i p d h e l ep ed =
    let n : length (word_bits (length v.cells.now) v.words.now) ≡ length v.cells.now = length_digits 2 (length v.cells.now) (joined (2 ^ 64) v.words.now) in
    go (get_or (word_bits (length v.cells.now) v.words.now) i 0) (row_at (word_bits (length v.cells.now) v.words.now) v.cells.now i (omega arith))
  where
    k : ℕ
    k = number_of v.kind

    w : ℕ
    w = get_or v.cells.now i 0

    from-base : Based (number_of v.kind) m (column_bits (seen v)) (values (seen v))
    from-base = subst (λ x. Based (number_of v.kind) x (column_bits (seen v)) (values (seen v))) (sym e) (based (seen v) h.clean)

    go : (b : ℕ) → get_or (seen v).rows i None ≡ row_of b (get_or v.cells.now i 0) → d ≡ over_base (number_of v.kind) m (get_or (seen v).rows i None)
    go zero r = ed ∙ ap (λ q. cond q ((w + (2 ^ 64 - m)) % 2 ^ 64) 0) (ep ∙ ap is_value r) ∙ ap (over_base k m) (sym r)
    go (suc b) r =
        let f = value-at (Framed k m (column_bits (seen v))) (seen v).rows i w from-base.all r in
        ed
        ∙ ap (λ q. cond q ((w + (2 ^ 64 - m)) % 2 ^ 64) 0) (ep ∙ ap is_value r)
        ∙ subtracted (signed k) m w (bounds k m from-base.inside).word (bounds k w f.inside).word f.after
        ∙ ap (over_base k m) (sym r)

-- ---- the payload by what was measured

module _ (c : Column) (m b : ℕ) (ds : List ℕ) (em : m ≡ base c.kind (values c)) (eb : b ≡ column_bits c) (ed : ds ≡ map (over_base c.kind m) c.rows) where
  distances : ds ≡ map (over_base c.kind (base c.kind (values c))) c.rows
  distances = ed ∙ ap (λ x. map (over_base c.kind x) c.rows) em

  pub payload-is : payload_by c.kind m b ds c.rows ≡ frame_payload c (base c.kind (values c))
  payload-is = λ i. payload_by c.kind (em i) (eb i) (distances i) c.rows

  pub distances-below : Clean c → Below (2 ^ b) ds
  distances-below h =
      subst (λ x. Below (2 ^ x) ds) (sym eb)
      (subst (Below (2 ^ column_bits c)) (sym distances) (below-over c.kind (base c.kind (values c)) (column_bits c) c.rows (based c h).all))

-- ---- values again

pub added_more : (m : ℕ) (xs ys : List ℕ) (i : ℕ) → i < length xs → length ys ≡ length xs → ys ≡ added_to m (take i xs) ++ drop i xs
    → set ys i ((m + get_or ys i 0) % 2 ^ 64) ≡ added_to m (take (i + 1) xs) ++ drop (i + 1) xs
added_more m xs ys i h l e = map_over_more (λ d. (m + d) % 2 ^ 64) xs ys i (get_or ys i 0) h e (get_or_default ys i 0 (get_or ys i 0) (omega arith))

pub added-all : (m : ℕ) (xs ys : List ℕ) (i : ℕ) → length xs ≤ i → ys ≡ added_to m (take i xs) ++ drop i xs → ys ≡ added_to m xs
added-all m xs ys i h e = e ∙ (λ j. added_to m (take_all i xs h j) ++ drop_all i xs h j) ∙ append-nil (added_to m xs)
