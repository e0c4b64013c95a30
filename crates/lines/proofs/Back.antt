-- A column's line gives the column again.
use Rattle.std.proofs.Common.{◌≡◌, ℕ, suc, ◌+◌, ◌-◌, ◌*◌, ◌/◌, ◌%◌, ◌^◌, ◌<◌, ◌≤◌, Bool, true, false, cond, eqb, leb, List, [], ◌∷◌, ◌++◌, map, length, Some, None, decimal, Option, sym, refl, ap, ◌∙◌, subst, ap₂, append-nil, arith}
use Rattle.std.specs.List.{All, AllByRecursion}
use Rattle.std.proofs.lemmas.List.Elements.{All-nil, All-cons}
use Rattle.std.proofs.lemmas.List.Splits.{slice_split_none, slice_split_at}
use Rattle.std.proofs.lemmas.List.{length-map}
use Rattle.std.proofs.lemmas.Fmt.{decimal_by_steps}
use Rattle.std.proofs.lemmas.Bool.{le-leb, leb-true, leb-false, ne_eqb, and_from, and_parts, cond-true, cond-false, true≢false}
use Rattle.column.specs.declared.kinds.Kind.{Kind}
use Rattle.column.specs.declared.kinds.Kind.TheVariants.{U8, U16, U32, U64, I8, I16, I32, I64}
use Rattle.column.specs.Kinds.{number_of, kind_of, name_of, in_kind}
use Rattle.column.specs.Columns.{Row, Column, Clean, stray_by, stray_from}
use Rattle.column.proofs.InspectLaws.{kind-none, kind-some}
use Rattle.column.proofs.KindLaws.{bounds}
use Rattle.column.proofs.RowLaws.{clean-kind}
use Rattle.std.specs.Bool.{then_some}
use Rattle.lines.specs.Lines.{comma, minus, fields_of, rows_in, kind_named, is_digit, number_after, negated, furthest, word_of, cell_read, value_row, field_read, row_and, rows_read, column_with, column_read, kind_in, row_fields, line_read, is_below, field_of, rows_line, name_by, line_of}
use Rattle.lines.proofs.Digits.{digits-some}

-- ---- the digits of a number

abbrev digit-pushed : Option ℕ → ℕ → Option ℕ
digit-pushed None c = None
digit-pushed (Some m) c = cond (is_digit c) (Some (m * 10 + (c - 48))) None

number_push : (a : ℕ) (ds : List ℕ) (c : ℕ) → number_after a (ds ++ (c ∷ [])) ≡ digit-pushed (number_after a ds) c
number_push a [] c = refl
number_push a (d ∷ ds) c =
    elim (is_digit d) as (λ b. cond b (number_after (a * 10 + (d - 48)) (ds ++ (c ∷ []))) None ≡ digit-pushed (cond b (number_after (a * 10 + (d - 48)) ds) None) c)
    [ true ↦ number_push (a * 10 + (d - 48)) ds c | false ↦ refl ]

digit-is : (d : ℕ) → d < 10 → is_digit (48 + d) ≡ true
digit-is d h = and_from (leb 48 (48 + d)) (leb (48 + d) 57) (le-leb 48 (48 + d) (omega arith)) (le-leb (48 + d) 57 (omega arith))

record Writes (n : ℕ) (ds : List ℕ) : Type 0 where
  digits : AllByRecursion (λ c. is_digit c ≡ true) ds
  some : 0 < length ds
  value : number_after 0 ds ≡ Some n

all_push : (ds : List ℕ) (c : ℕ) → AllByRecursion (λ c. is_digit c ≡ true) ds → is_digit c ≡ true → AllByRecursion (λ c. is_digit c ≡ true) (ds ++ (c ∷ []))
all_push [] c h e = (e, tt)
all_push (d ∷ ds) c h e = (h.0, all_push ds c h.1 e)

length_some : (ds : List ℕ) (c : ℕ) → 0 < length (ds ++ (c ∷ []))
length_some [] c = omega arith
length_some (d ∷ ds) c = omega arith

decimal-writes : (n : ℕ) → n < 2 ^ 64 → Writes n (decimal n)
decimal-writes =
    decimal_by_steps Writes
    (λ n h. record {
      digits = (digit-is n h, tt);
      some = omega arith;
      value = cond-true (is_digit (48 + n)) (Some (0 * 10 + (48 + n - 48))) None (digit-is n h) ∙ ap Some (omega arith);
    })
    (λ n ds h w. record {
      digits = all_push ds (48 + n % 10) w.digits (digit-is (n % 10) (omega arith));
      some = length_some ds (48 + n % 10);
      value =
          number_push 0 ds (48 + n % 10) ∙ ap (λ o. digit-pushed o (48 + n % 10)) w.value
          ∙ cond-true (is_digit (48 + n % 10)) (Some (n / 10 * 10 + (48 + n % 10 - 48))) None (digit-is (n % 10) (omega arith))
          ∙ ap Some (omega arith);
    })

-- digits are neither a comma nor a minus
digit-apart : (c x : ℕ) → x < 48 → is_digit c ≡ true → eqb c x ≡ false
digit-apart c x h e =
    ne_eqb c x (λ i. omega (arith, leb-true 48 c (and_parts (leb 48 c) (leb c 57) e).0))

-- ---- one field

plain-digits : (ds : List ℕ) → AllByRecursion (λ c. is_digit c ≡ true) ds → AllByRecursion (λ c. eqb c comma ≡ false) ds
plain-digits [] h = tt
plain-digits (d ∷ ds) h = (digit-apart d comma (omega arith) h.0, plain-digits ds h.1)

unsigned-field : (k : ℕ) (ds : List ℕ) (n : ℕ) → Writes n ds → n ≤ furthest k false → field_read k ds ≡ Some (Some n)
unsigned-field k [] n w h = absurd (omega (arith, w.some))
unsigned-field k (d ∷ ds) n w h =
    ap value_row
    (cond-false (eqb d minus) _ _ (digit-apart d minus (omega arith) w.digits.0)
    ∙ ap (cell_read k false) w.value
    ∙ ap (λ b. then_some b n) (le-leb n (furthest k false) h))

signed-field : (k : ℕ) (ds : List ℕ) (n : ℕ) → Writes n ds → n ≤ furthest k true → field_read k (minus ∷ ds) ≡ Some (Some (negated n))
signed-field k ds n w h =
    ap value_row
    (ap (cell_read k true) (digits-some ds w.some ∙ w.value)
    ∙ ap (λ b. then_some b (negated n)) (le-leb n (furthest k true) h))

-- the number of a cell, on its side of 0, is one of the kind
record Numbered (k w : ℕ) (b : Bool) : Type 0 where
  word : cond b (negated w) w < 2 ^ 64
  near : cond b (negated w) w ≤ furthest k b
  again : word_of b (cond b (negated w) w) ≡ w

numbered : (q : Kind) (w : ℕ) → in_kind (number_of q) w ≡ true → (b : Bool) → b ≡ is_below (number_of q) w → Numbered (number_of q) w b
numbered U8 w h true e = absurd (true≢false e)
numbered U8 w h false e = let g = bounds 0 w h in record { word = g.word; near = g.high; again = refl }
numbered U16 w h true e = absurd (true≢false e)
numbered U16 w h false e = let g = bounds 1 w h in record { word = g.word; near = g.high; again = refl }
numbered U32 w h true e = absurd (true≢false e)
numbered U32 w h false e = let g = bounds 2 w h in record { word = g.word; near = g.high; again = refl }
numbered U64 w h true e = absurd (true≢false e)
numbered U64 w h false e = let g = bounds 3 w h in record { word = g.word; near = g.high; again = refl }
numbered I8 w h true e = let g = bounds 4 w h in let far = leb-true (2 ^ 63) w (sym e) in record { word = omega arith; near = omega arith; again = omega arith }
numbered I8 w h false e = let g = bounds 4 w h in let near = leb-false (2 ^ 63) w (sym e) in record { word = g.word; near = omega arith; again = refl }
numbered I16 w h true e = let g = bounds 5 w h in let far = leb-true (2 ^ 63) w (sym e) in record { word = omega arith; near = omega arith; again = omega arith }
numbered I16 w h false e = let g = bounds 5 w h in let near = leb-false (2 ^ 63) w (sym e) in record { word = g.word; near = omega arith; again = refl }
numbered I32 w h true e = let g = bounds 6 w h in let far = leb-true (2 ^ 63) w (sym e) in record { word = omega arith; near = omega arith; again = omega arith }
numbered I32 w h false e = let g = bounds 6 w h in let near = leb-false (2 ^ 63) w (sym e) in record { word = g.word; near = omega arith; again = refl }
numbered I64 w h true e = let g = bounds 7 w h in let far = leb-true (2 ^ 63) w (sym e) in record { word = omega arith; near = omega arith; again = omega arith }
numbered I64 w h false e = let g = bounds 7 w h in let near = leb-false (2 ^ 63) w (sym e) in record { word = g.word; near = omega arith; again = refl }

value-back : (q : Kind) (w : ℕ) → in_kind (number_of q) w ≡ true → field_read (number_of q) (field_of (number_of q) (Some w)) ≡ Some (Some w)
value-back q w h =
    elim (is_below (number_of q) w) as (λ b. Numbered (number_of q) w b → field_read (number_of q) (cond b (minus ∷ decimal (negated w)) (decimal w)) ≡ Some (Some w)) [
      | true ↦ λ n. signed-field (number_of q) (decimal (negated w)) (negated w) (decimal-writes (negated w) n.word) n.near ∙ ap (λ v. Some (Some v)) n.again
      | false ↦ λ n. unsigned-field (number_of q) (decimal w) w (decimal-writes w n.word) n.near
    ] (numbered q w h (is_below (number_of q) w) refl)

value-plain : (q : Kind) (w : ℕ) → in_kind (number_of q) w ≡ true → AllByRecursion (λ c. eqb c comma ≡ false) (field_of (number_of q) (Some w))
value-plain q w h =
    elim (is_below (number_of q) w) as (λ b. Numbered (number_of q) w b → AllByRecursion (λ c. eqb c comma ≡ false) (cond b (minus ∷ decimal (negated w)) (decimal w))) [
      | true ↦ λ n. (refl, plain-digits (decimal (negated w)) (decimal-writes (negated w) n.word).digits)
      | false ↦ λ n. plain-digits (decimal w) (decimal-writes w n.word).digits
    ] (numbered q w h (is_below (number_of q) w) refl)

-- ---- the fields of a line

all-from : (P : ℕ → Type 0) (xs : List ℕ) → AllByRecursion P xs → All P xs
all-from P [] h = All-nil P
all-from P (x ∷ xs) h = All-cons P x xs h.0 (all-from P xs h.1)

-- a field before the end, and before a comma
fields-end : (f : List ℕ) → AllByRecursion (λ c. eqb c comma ≡ false) f → fields_of (f ++ []) ≡ f ∷ []
fields-end f h = ap fields_of (append-nil f) ∙ slice_split_none (λ c. eqb c comma) f (all-from (λ c. eqb c comma ≡ false) f h)

fields-comma : (f t : List ℕ) → AllByRecursion (λ c. eqb c comma ≡ false) f → fields_of (f ++ (comma ∷ t)) ≡ f ∷ fields_of t
fields-comma f t h = slice_split_at (λ c. eqb c comma) f comma t (all-from (λ c. eqb c comma ≡ false) f h) refl

stray-head : (b : Bool) (i : ℕ) (o : Option ℕ) → stray_by b i o ≡ None → (b ≡ true) × (o ≡ None)
stray-head true i o e = (refl, e)
stray-head false i o e = let z : ◌≡◌ {A = ℕ} 0 1 = cc in absurd (omega arith)

rows-fields : (q : Kind) (i : ℕ) (rs : List Row) (f : List ℕ) → stray_from (number_of q) i rs ≡ None → AllByRecursion (λ c. eqb c comma ≡ false) f
    → fields_of (f ++ rows_line (number_of q) rs) ≡ f ∷ map (field_of (number_of q)) rs
rows-fields q i [] f e h = fields-end f h
rows-fields q i (None ∷ rs) f e h = fields-comma f (rows_line (number_of q) rs) h ∙ ap (λ fs. f ∷ fs) (rows-fields q (suc i) rs [] e tt)
rows-fields q i (Some w ∷ rs) f e h =
    let g = stray-head (in_kind (number_of q) w) i (stray_from (number_of q) (suc i) rs) e in
    fields-comma f (field_of (number_of q) (Some w) ++ rows_line (number_of q) rs) h
    ∙ ap (λ fs. f ∷ fs) (rows-fields q (suc i) rs (field_of (number_of q) (Some w)) g.1 (value-plain q w g.0))

rows_back : (q : Kind) (i : ℕ) (rs : List Row) → stray_from (number_of q) i rs ≡ None → rows_read (number_of q) (map (field_of (number_of q)) rs) ≡ Some rs
rows_back q i [] e = refl
rows_back q i (None ∷ rs) e = ap (row_and (Some None)) (rows_back q (suc i) rs e)
rows_back q i (Some w ∷ rs) e =
    let g = stray-head (in_kind (number_of q) w) i (stray_from (number_of q) (suc i) rs) e in
    ap₂ row_and (value-back q w g.0) (rows_back q (suc i) rs g.1)

-- ---- the line

name-plain : (q : Kind) → AllByRecursion (λ c. eqb c comma ≡ false) (name_of q)
name-plain U8 = (refl, (refl, tt))
name-plain U16 = (refl, (refl, (refl, tt)))
name-plain U32 = (refl, (refl, (refl, tt)))
name-plain U64 = (refl, (refl, (refl, tt)))
name-plain I8 = (refl, (refl, tt))
name-plain I16 = (refl, (refl, (refl, tt)))
name-plain I32 = (refl, (refl, (refl, tt)))
name-plain I64 = (refl, (refl, (refl, tt)))

name_back : (q : Kind) → kind_named (name_of q) ≡ Some q
name_back U8 = refl
name_back U16 = refl
name_back U32 = refl
name_back U64 = refl
name_back I8 = refl
name_back I16 = refl
name_back I32 = refl
name_back I64 = refl

pub kind-again : (q : Kind) → kind_of (number_of q) ≡ Some q
kind-again U8 = refl
kind-again U16 = refl
kind-again U32 = refl
kind-again U64 = refl
kind-again I8 = refl
kind-again I16 = refl
kind-again I32 = refl
kind-again I64 = refl

known_by : (k : ℕ) → k ≤ 7 → (o : Option Kind) → kind_of k ≡ o → (q : Kind) × (number_of q ≡ k)
known_by k h None e = absurd (omega (arith, kind-none k e))
known_by k h (Some q) e = (q, sym (kind-some k q e))

-- the fields of a column's line
line-fields : (q : Kind) (rs : List Row) → stray_from (number_of q) 0 rs ≡ None → fields_of (name_of q ++ rows_line (number_of q) rs) ≡ name_of q ∷ map (field_of (number_of q)) rs
line-fields q rs e = rows-fields q 0 rs (name_of q) e (name-plain q)

pub record LineBack (c : Column) : Type 0 where
  pub count : rows_in (line_of c) ≡ length c.rows
  pub column : line_read (line_of c) ≡ Some c

line_at : (q : Kind) (rs : List Row) → stray_from (number_of q) 0 rs ≡ None → LineBack (record { kind = number_of q; rows = rs })
line_at q rs e =
    let fs = map (field_of (number_of q)) rs in
    let cut : fields_of (line_of (record { kind = number_of q; rows = rs })) ≡ name_of q ∷ fs =
    ap (λ o. fields_of (name_by o ++ rows_line (number_of q) rs)) (kind-again q) ∙ line-fields q rs e in
    record {
      count = ap (λ gs. length (row_fields gs)) cut ∙ length-map rs (field_of (number_of q));
      column = ap (λ gs. column_read (kind_in gs) (row_fields gs)) cut ∙ ap (λ o. column_read o fs) (name_back q) ∙ ap (column_with (number_of q)) (rows_back q 0 rs e);
    }

pub line-back : (c : Column) → Clean c → LineBack c
line-back c h =
    let g = known_by c.kind (clean-kind c h) (kind_of c.kind) refl in
    subst (λ k. stray_from k 0 c.rows ≡ None → LineBack (record { kind = k; rows = c.rows })) g.1 (line_at g.0 c.rows) h.2
