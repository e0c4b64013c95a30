-- Rows and their codes, one at a time.
use Rattle.std.proofs.Common.{◌≡◌, ℕ, zero, suc, ◌^◌, ◌<◌, true, false, List, [], ◌∷◌, map, length, get_or, Some, None, sym, refl, ap, ◌∙◌, subst, arith}
use Rattle.std.specs.List.{AllByRecursion}
use Rattle.std.proofs.lemmas.Bool.{true≢false, false≢true}
use Rattle.column.specs.Columns.{Row, Offer, cell_of, cells, row_of, values_of, values, cleaned, offered, word_bits}
use Rattle.column.specs.Views.{is_value}
use Rattle.column.proofs.RowLaws.{length_digits, row_at}
use Rattle.packing.specs.Packing.{joined}
use Rattle.dict.specs.Dict.{Known, place_of, code_row}

-- ---- codes

-- a row's code as a cell
abbrev pub code_cell : List ℕ → Row → ℕ
code_cell ds r = cell_of (code_row ds r)

pub code-cells : (ds : List ℕ) (rs : List Row) → map (code_cell ds) rs ≡ cells (map (code_row ds) rs)
code-cells ds [] = refl
code-cells ds (r ∷ rs) = ap (λ xs. code_cell ds r ∷ xs) (code-cells ds rs)

row-value : (b w : ℕ) → is_value (row_of b w) ≡ true → row_of b w ≡ Some w
row-value zero w e = absurd (false≢true e)
row-value (suc b) w e = refl

row-blank : (b w : ℕ) → is_value (row_of b w) ≡ false → row_of b w ≡ None
row-blank zero w e = refl
row-blank (suc b) w e = absurd (true≢false e)

-- the row of an offer is its bit and its cell
offer-at : (o : Offer) (i : ℕ) → i < length o.cells → get_or (offered o) i None ≡ row_of (get_or (word_bits (length o.cells) o.words) i 0) (get_or o.cells i 0)
offer-at o i l =
    let n = length o.cells in
    let b = length_digits 2 n (joined (2 ^ 64) o.words) in
    row_at (word_bits n o.words) o.cells i (omega arith)

pub value-at : (o : Offer) (i : ℕ) → i < length o.cells → true ≡ is_value (get_or (offered o) i None) → get_or (offered o) i None ≡ Some (get_or o.cells i 0)
value-at o i l e = offer-at o i l ∙ row-value _ _ (ap is_value (sym (offer-at o i l)) ∙ sym e)

pub blank-at : (o : Offer) (i : ℕ) → i < length o.cells → false ≡ is_value (get_or (offered o) i None) → get_or (offered o) i None ≡ None
blank-at o i l e = offer-at o i l ∙ row-blank _ _ (ap is_value (sym (offer-at o i l)) ∙ sym e)

all-at : (P : ℕ → Type 0) (rs : List Row) (i w : ℕ) → get_or rs i None ≡ Some w → AllByRecursion P (values_of rs) → P w
all-at P [] i w e a = absurd (let z : ◌≡◌ {A = ℕ} 0 1 = cc in omega arith)
all-at P (None ∷ rs) zero w e a = absurd (let z : ◌≡◌ {A = ℕ} 0 1 = cc in omega arith)
all-at P (None ∷ rs) (suc i) w e a = all-at P rs i w e a
all-at P (Some v ∷ rs) zero w e a = subst P (cc) a.0
all-at P (Some v ∷ rs) (suc i) w e a = all-at P rs i w e a.1

pub known_at : (ds : List ℕ) (o : Offer) (i : ℕ) → i < length o.cells → true ≡ is_value (get_or (offered o) i None) → Known ds (values (cleaned o)) → place_of (get_or o.cells i 0) ds < length ds
known_at ds o i l e a = all-at (λ v. place_of v ds < length ds) (offered o) i (get_or o.cells i 0) (value-at o i l e) a
