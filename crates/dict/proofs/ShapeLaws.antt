-- The parts as they lie in lent places, and joined again.
use Rattle.std.proofs.Common.{◌≡◌, ℕ, zero, suc, ◌-◌, ◌^◌, ◌<◌, ◌≤◌, true, List, [], ◌∷◌, map, length, take, replicate, Some, None, Ok, Result, sym, refl, ap, ◌∙◌, arith}
use Rattle.std.proofs.ByRecursion.{All-weaker}
use Rattle.std.proofs.lemmas.List.{length-map}
use Rattle.std.proofs.lemmas.Bool.{eq-eqb, ne_eqb}
use Rattle.packing.specs.Packing.{joined, digits, written}
use Rattle.column.specs.declared.views.View.{View}
use Rattle.column.specs.Kinds.{in_kind}
use Rattle.column.specs.Columns.{Row, Column, Clean, rows_of, bits, cells, offer_seen, presence, seen, values, values_of, word_bits, words_for}
use Rattle.column.proofs.KindLaws.{bounds}
use Rattle.column.proofs.RowLaws.{length_digits, length-offered, length-rows, length-values}
use Rattle.node.specs.Payloads.{ones, words_of}
use Rattle.node.proofs.LeafLaws.{blank-held}
use Rattle.node.proofs.WidthLaws.{clean-values}
use Rattle.stats.specs.Stats.{stats, firsts, tally, distinct_part, values_in, distinct_values as distinct_in}
use Rattle.stats.specs.Laws.{Ascends}
use Rattle.stats.proofs.Standing.{tally-ascends}
use Rattle.scheme.specs.Children.{narrow}
use Rattle.scheme.specs.Memory.{Outline, outline}
use Rattle.scheme.proofs.ChildLaws.{some_stored}
use Rattle.dict.specs.DictKeeps.{Found, all_found, tally-short}
use Rattle.dict.specs.Dict.{Known, distinct_values, place_of, code_row, decode_cell, decoded, decoded_by, decoded_cells, dict_rows, dict_parts}

-- ---- distinct values by the statistics

pub distinct-is : (c : Column) → distinct_in (stats true c) ≡ distinct_values c
distinct-is c = go c.rows
  where
    some : (r : Row) (rs : List Row) (vs : List ℕ) → values_in (distinct_part true c.kind (r ∷ rs) vs) ≡ firsts (tally c.kind vs)
    some r rs [] = refl
    some r rs (v ∷ vs) = refl

    go : (rs : List Row) → values_in (distinct_part true c.kind rs (values_of rs)) ≡ firsts (tally c.kind (values_of rs))
    go [] = refl
    go (r ∷ rs) = some r rs (values_of (r ∷ rs))

pub distinct-few : (v : View) (ds : List ℕ) → ds ≡ distinct_values (seen v) → length ds ≤ length v.cells.now
distinct-few v ds e =
    let l = ap length e in
    let t = tally-short (seen v).kind (values (seen v)) in
    let r = length-values (seen v).rows in
    let o = length-offered (offer_seen v) in
    omega arith

pub distinct-ascends : (c : Column) → Clean c → Ascends c.kind (distinct_values c)
distinct-ascends c h =
    tally-ascends c.kind (values c) (All-weaker (λ w. in_kind c.kind w ≡ true) (λ w. w < 2 ^ 64) (λ w b. (bounds c.kind w b).word) (values c) (clean-values c h))

pub distinct-known : (c : Column) → Known (distinct_values c) (values c)
distinct-known c = All-weaker (Found (distinct_values c)) (λ v. place_of v (distinct_values c) < length (distinct_values c)) (λ v f. f.0) (values c) (all_found c)

-- ---- the parts

code-bits : (ds : List ℕ) (rs : List Row) → bits (map (code_row ds) rs) ≡ bits rs
code-bits ds [] = refl
code-bits ds (None ∷ rs) = ap (λ bs. 0 ∷ bs) (code-bits ds rs)
code-bits ds (Some v ∷ rs) = ap (λ bs. 1 ∷ bs) (code-bits ds rs)

code-presence : (ds : List ℕ) (rs : List Row) → presence (map (code_row ds) rs) ≡ presence rs
code-presence ds rs = λ i. digits (2 ^ 64) (words_for (length-map rs (code_row ds) i)) (joined 2 (code-bits ds rs i))

pub shaped : (col : Column) (count rows kind : ℕ) (c0 w0 old0 c1 w1 : List ℕ) → take count c0 ≡ distinct_values col → count ≤ length c0 → w0 ≡ written (words_of count (ones count)) old0
    → rows ≡ length col.rows → take rows c1 ≡ cells (map (code_row (distinct_values col)) col.rows) → take (words_for rows) w1 ≡ presence col.rows → kind ≡ narrow (length (distinct_values col) - 1)
    → ◌≡◌ {A = Result Outline ℕ}
    (Ok (record {
      payload = 0;
      cell_bits = 0;
      flag = 0;
      children =
          (count, record { kind = col.kind; cells = take count c0; words = take (words_for count) w0 })
          ∷ ((rows, record { kind = kind; cells = take rows c1; words = take (words_for rows) w1 }) ∷ []);
    }))
    (outline (dict_parts col))
shaped col count rows kind c0 w0 old0 c1 w1 d l p n e w k =
    let ds = distinct_values col in
    let rs = col.rows in
    let s0 = some_stored col.kind count ds c0 w0 old0 d l p in
    let ln : rows ≡ length (map (code_row ds) rs) = n ∙ sym (length-map rs (code_row ds)) in
    let lw : take (words_for rows) w1 ≡ presence (map (code_row ds) rs) = w ∙ sym (code-presence ds rs) in
    λ t. Ok (record { payload = 0; cell_bits = 0; flag = 0; children = s0 t ∷ ((ln t, record { kind = k t; cells = e t; words = lw t }) ∷ []) })

-- ---- joined

decoded-rows : (ds bs ws : List ℕ) → length bs ≡ length ws → rows_of bs (decoded_cells ds ws) ≡ decoded ds (rows_of bs ws)
decoded-rows ds [] ws e = refl
decoded-rows ds (b ∷ bs) [] e = absurd (omega arith)
decoded-rows ds (zero ∷ bs) (w ∷ ws) e = ap (λ (rs : List Row). None ∷ rs) (decoded-rows ds bs ws (omega arith))
decoded-rows ds (suc b ∷ bs) (w ∷ ws) e = ap (λ (rs : List Row). Some (decode_cell ds w) ∷ rs) (decoded-rows ds bs ws (omega arith))

pub joined-codes : (n : ℕ) (ds cs ws out : List ℕ) → length cs ≡ n → out ≡ decoded_cells ds cs → rows_of (word_bits (length out) ws) out ≡ dict_rows n ds (rows_of (word_bits (length cs) ws) cs)
joined-codes n ds cs ws out l e =
    let lo : length out ≡ length cs = ap length e ∙ length-map cs (decode_cell ds) in
    let lb = length_digits 2 (length cs) (joined (2 ^ 64) ws) in
    let rs = rows_of (word_bits (length cs) ws) cs in
    let lr : length rs ≡ n = length-rows (word_bits (length cs) ws) cs ∙ lb ∙ l in
    (λ i. rows_of (word_bits (lo i) ws) (e i)) ∙ decoded-rows ds (word_bits (length cs) ws) cs lb ∙ ap (λ q. decoded_by q n ds rs) (sym (eq-eqb (length rs) n lr))

pub joined-blank : (n m : ℕ) (ds cs ws : List ℕ) (rs : List Row) → length cs ≡ n → ws ≡ replicate m 0 → (length rs ≡ n → ⊥) → rows_of (word_bits (length cs) ws) cs ≡ dict_rows n ds rs
joined-blank n m ds cs ws rs l e h =
    blank-held n m cs ws l e ∙ ap (λ q. decoded_by q n ds rs) (sym (ne_eqb (length rs) n h))
