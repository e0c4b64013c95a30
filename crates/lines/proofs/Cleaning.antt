-- What is read is clean.
use Rattle.std.proofs.Common.{◌≡◌, ℕ, suc, ◌-◌, ◌%◌, ◌^◌, ◌≤◌, Bool, true, false, cond, eqb, leb, List, [], ◌∷◌, length, Some, None, Option, refl, ap, ◌∙◌, subst, zero-le, arith}
use Rattle.std.proofs.lemmas.Bool.{le-leb, leb-true}
use Rattle.column.specs.declared.kinds.Kind.{Kind}
use Rattle.column.specs.declared.kinds.Kind.TheVariants.{U8, U16, U32, U64, I8, I16, I32, I64}
use Rattle.column.specs.Kinds.{number_of, in_kind}
use Rattle.column.specs.Columns.{Row, Clean, stray_by, stray_from}
use Rattle.column.proofs.KindLaws.{in-kind}
use Rattle.std.specs.Bool.{then_some}
use Rattle.lines.specs.Lines.{minus, furthest, word_of, cell_read, value_row, field_read, number_of_digits, row_and, rows_read}

-- ---- each value read lies in the kind

cell_in : (q : Kind) (m : Bool) (n : ℕ) → n ≤ furthest (number_of q) m → in_kind (number_of q) (word_of m n) ≡ true
cell_in U8 true n h = in-kind 0 ((2 ^ 64 - n) % 2 ^ 64) (omega arith) zero-le (omega arith)
cell_in U8 false n h = in-kind 0 n (omega arith) zero-le (omega arith)
cell_in U16 true n h = in-kind 1 ((2 ^ 64 - n) % 2 ^ 64) (omega arith) zero-le (omega arith)
cell_in U16 false n h = in-kind 1 n (omega arith) zero-le (omega arith)
cell_in U32 true n h = in-kind 2 ((2 ^ 64 - n) % 2 ^ 64) (omega arith) zero-le (omega arith)
cell_in U32 false n h = in-kind 2 n (omega arith) zero-le (omega arith)
cell_in U64 true n h = in-kind 3 ((2 ^ 64 - n) % 2 ^ 64) (omega arith) zero-le (omega arith)
cell_in U64 false n h = in-kind 3 n (omega arith) zero-le (omega arith)
cell_in I8 true n h = in-kind 4 ((2 ^ 64 - n) % 2 ^ 64) (omega arith) (omega arith) (omega arith)
cell_in I8 false n h = in-kind 4 n (omega arith) (omega arith) (omega arith)
cell_in I16 true n h = in-kind 5 ((2 ^ 64 - n) % 2 ^ 64) (omega arith) (omega arith) (omega arith)
cell_in I16 false n h = in-kind 5 n (omega arith) (omega arith) (omega arith)
cell_in I32 true n h = in-kind 6 ((2 ^ 64 - n) % 2 ^ 64) (omega arith) (omega arith) (omega arith)
cell_in I32 false n h = in-kind 6 n (omega arith) (omega arith) (omega arith)
cell_in I64 true n h = in-kind 7 ((2 ^ 64 - n) % 2 ^ 64) (omega arith) (omega arith) (omega arith)
cell_in I64 false n h = in-kind 7 n (omega arith) (omega arith) (omega arith)

kept-is : (b : Bool) (w v : ℕ) → then_some b w ≡ Some v → (b ≡ true) × (w ≡ v)
kept-is true w v e = (refl, cc)
kept-is false w v e = let z : ◌≡◌ {A = ℕ} 0 1 = cc in absurd (omega arith)

read-in : (q : Kind) (m : Bool) (o : Option ℕ) (w : ℕ) → cell_read (number_of q) m o ≡ Some w → in_kind (number_of q) w ≡ true
read-in q m None w e = let z : ◌≡◌ {A = ℕ} 0 1 = cc in absurd (omega arith)
read-in q m (Some n) w e =
    let h = kept-is (leb n (furthest (number_of q) m)) (word_of m n) w e in
    subst (λ v. in_kind (number_of q) v ≡ true) h.1 (cell_in q m n (leb-true n (furthest (number_of q) m) h.0))

value-is : (o : Option ℕ) (w : ℕ) → value_row o ≡ Some (Some w) → o ≡ Some w
value-is None w e = let z : ◌≡◌ {A = ℕ} 0 1 = cc in absurd (omega arith)
value-is (Some v) w e = cc

field_in : (q : Kind) (f : List ℕ) (w : ℕ) → field_read (number_of q) f ≡ Some (Some w) → in_kind (number_of q) w ≡ true
field_in q [] w e = let z : ◌≡◌ {A = ℕ} 0 1 = cc in absurd (omega arith)
field_in q (c ∷ cs) w e =
    elim (eqb c minus) as (λ b. cond b (cell_read (number_of q) true (number_of_digits cs)) (cell_read (number_of q) false (number_of_digits (c ∷ cs))) ≡ Some w → in_kind (number_of q) w ≡ true)
    [ true ↦ read-in q true (number_of_digits cs) w | false ↦ read-in q false (number_of_digits (c ∷ cs)) w ] (value-is _ w e)

row-and : (o : Option Row) (p : Option (List Row)) (r : Row) (rs : List Row) → row_and o p ≡ Some (r ∷ rs) → (o ≡ Some r) × (p ≡ Some rs)
row-and None p r rs e = let z : ◌≡◌ {A = ℕ} 0 1 = cc in absurd (omega arith)
row-and (Some s) None r rs e = let z : ◌≡◌ {A = ℕ} 0 1 = cc in absurd (omega arith)
row-and (Some s) (Some ss) r rs e = (cc, cc)

row-some : (o : Option Row) (p : Option (List Row)) → row_and o p ≡ Some [] → ⊥
row-some None p e = let z : ◌≡◌ {A = ℕ} 0 1 = cc in omega arith
row-some (Some s) None e = let z : ◌≡◌ {A = ℕ} 0 1 = cc in omega arith
row-some (Some s) (Some ss) e = let z : ◌≡◌ {A = ℕ} 0 1 = cc in omega arith

-- no row's value lies outside
pub none-stray : (q : Kind) (i : ℕ) (fs : List (List ℕ)) (rs : List Row) → rows_read (number_of q) fs ≡ Some rs → stray_from (number_of q) i rs ≡ None
none-stray q i fs [] e = refl
none-stray q i [] (r ∷ rs) e = let z : ◌≡◌ {A = ℕ} 0 1 = cc in absurd (omega arith)
none-stray q i (f ∷ fs) (None ∷ rs) e = none-stray q (suc i) fs rs (row-and (field_read (number_of q) f) (rows_read (number_of q) fs) None rs e).1
none-stray q i (f ∷ fs) (Some w ∷ rs) e =
    let h = row-and (field_read (number_of q) f) (rows_read (number_of q) fs) (Some w) rs e in
    ap (λ b. stray_by b i (stray_from (number_of q) (suc i) rs)) (field_in q f w h.0) ∙ none-stray q (suc i) fs rs h.1

-- a row for each field
pub rows-count : (k : ℕ) (fs : List (List ℕ)) (rs : List Row) → rows_read k fs ≡ Some rs → length rs ≡ length fs
rows-count k [] [] e = refl
rows-count k [] (r ∷ rs) e = let z : ◌≡◌ {A = ℕ} 0 1 = cc in absurd (omega arith)
rows-count k (f ∷ fs) [] e = absurd (row-some (field_read k f) (rows_read k fs) e)
rows-count k (f ∷ fs) (r ∷ rs) e = ap suc (rows-count k fs rs (row-and (field_read k f) (rows_read k fs) r rs e).1)

kind-le : (q : Kind) → leb (number_of q) 7 ≡ true
kind-le U8 = refl
kind-le U16 = refl
kind-le U32 = refl
kind-le U64 = refl
kind-le I8 = refl
kind-le I16 = refl
kind-le I32 = refl
kind-le I64 = refl

-- what is read of at most 131,072 fields is clean
pub read-clean : (q : Kind) (fs : List (List ℕ)) (rs : List Row) → rows_read (number_of q) fs ≡ Some rs → length fs ≤ 131072 → Clean (record { kind = number_of q; rows = rs })
read-clean q fs rs e few = (kind-le q, le-leb (length rs) 131072 (omega (arith, rows-count (number_of q) fs rs e)), none-stray q 0 fs rs e)
