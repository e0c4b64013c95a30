-- The loop over the fields of a line.
use Rattle.std.proofs.Common.{◌≡◌, ℕ, ◌+◌, ◌/◌, ◌<◌, ◌≤◌, List, [], ◌∷◌, ◌++◌, length, Some, None, Ok, Err, vec_len, Option, Bor, sym, refl, ap, ◌∙◌, subst, append_assoc, append-nil, arith}
use Rattle.std.specs.Option.{MatchOption, ok_or}
use Rattle.std.proofs.lemmas.Iterator.{YieldsList}
use Rattle.std.proofs.lemmas.List.{length_push}
use Rattle.column.specs.declared.kinds.Kind.{Kind}
use Rattle.column.specs.Kinds.{number_of}
use Rattle.column.specs.Columns.{Row, offer_of}
use Rattle.lines.specs.declared.columns.LineColumn.{LineColumn}
use Rattle.lines.specs.declared.columns.LineError.{LineError}
use Rattle.lines.specs.declared.columns.LineError.TheVariants.{Unreadable}
use Rattle.lines.specs.declared.rows.Rows.{Rows}
use Rattle.lines.specs.Answers.{Given}
use Rattle.lines.specs.Held.{Gathers, held}
use Rattle.lines.specs.Lines.{fields_of, row_fields, rows_in, kind_in, kind_named, field_read, row_and, rows_read, column_with, line_read}
use Rattle.lines.proofs.Lined.{line-is, given-rows}
use Rattle.lines.proofs.Gathering.{count-is}

-- ---- an iterator that gives a list

module _ {S A B : Type 0} (steps : S → Option A → S → Type 0) (v : A → B) (s t : S) where
  pub yields-more : (ys : List B) (x : A) → YieldsList steps v s ys → steps s (Some x) t → (zs : List B) × (ys ≡ v x ∷ zs) × YieldsList steps v t zs
  yields-more [] x y h = absurd (y.runs x t h)
  yields-more (z ∷ zs) x y h = let m = y.runs.1 x t h in (zs, ap (λ w. w ∷ zs) (sym m.0), record { runs = m.1 })

  pub yields-end : (ys : List B) → YieldsList steps v s ys → steps s None t → ys ≡ []
  yields-end [] y h = refl
  yields-end (z ∷ zs) y h = absurd (y.runs.0 t h)

-- the first field names the kind, and the others are rows
module _ {S : Type 0} (steps : S → Option (Bor (List ℕ)) → S → Type 0) (s t : S) (fs : List (List ℕ)) (y : YieldsList steps (λ f. f.now) s fs) where
  pub kind-first : (o : Option (Bor (List ℕ))) (r : Option Kind) → steps s o t → MatchOption o (r ≡ None) (λ f. r ≡ kind_named f.now) → kind_in fs ≡ r
  kind-first None r h e = ap kind_in (yields-end steps (λ f. f.now) s t fs y h) ∙ sym e
  kind-first (Some f) r h e = ap kind_in (yields-more steps (λ f. f.now) s t fs f y h).1 ∙ sym e

  pub rows-after : (o : Option (Bor (List ℕ))) (q : Kind) → steps s o t → MatchOption o (◌≡◌ {A = Option Kind} (Some q) None) (λ f. Some q ≡ kind_named f.now) → YieldsList steps (λ f. f.now) t (row_fields fs)
  rows-after None q h e = cc
  rows-after (Some f) q h e =
      let m = yields-more steps (λ f. f.now) s t fs f y h in
      subst (λ gs. YieldsList steps (λ f. f.now) t (row_fields gs)) (sym m.1) m.2

-- ---- rows

-- rows, and then those that follow
abbrev pub onto : List Row → Option (List Row) → Option (List Row)
onto rs None = None
onto rs (Some ss) = Some (rs ++ ss)

onto-none : (o : Option (List Row)) → onto [] o ≡ o
onto-none None = refl
onto-none (Some ss) = refl

onto-row : (rs : List Row) (r : Row) (o : Option (List Row)) → onto (rs ++ (r ∷ [])) o ≡ onto rs (row_and (Some r) o)
onto-row rs r None = refl
onto-row rs r (Some ss) = ap Some (append_assoc rs (r ∷ []) ss)

row-read : (o : Option Row) (r : Row) → Ok r ≡ ok_or o Unreadable → o ≡ Some r
row-read None r e = cc
row-read (Some s) r e = cc

row-refused : (o : Option Row) (e : LineError) → Err e ≡ ok_or o Unreadable → (o ≡ None) × (e ≡ Unreadable)
row-refused None e h = (refl, cc)
row-refused (Some s) e h = let z : ◌≡◌ {A = ℕ} 0 1 = cc in absurd (omega arith)

module _ {S : Type 0} (steps : S → Option (Bor (List ℕ)) → S → Type 0) (q : Kind) (t : List ℕ) where
  -- the rows so far and the fields that are left give the rows of all fields
  pub record Turn (left : S) (b : Rows) : Type 0 where
    pub named : kind_in (fields_of t) ≡ Some q
    pub fields : List (List ℕ)
    pub yields : YieldsList steps (λ f. f.now) left fields
    pub rows : List Row
    pub gathers : Gathers rows b
    pub whole : onto rows (rows_read (number_of q) fields) ≡ rows_read (number_of q) (row_fields (fields_of t))
    pub count : length rows + length fields ≡ rows_in t

  pub turn-first : kind_in (fields_of t) ≡ Some q → (left : S) (b : Rows) → YieldsList steps (λ f. f.now) left (row_fields (fields_of t)) → Gathers [] b → Turn left b
  turn-first n left b y g =
      let fs = row_fields (fields_of t) in
      record { named = n; fields = fs; yields = y; rows = []; gathers = g; whole = onto-none (rows_read (number_of q) fs); count = omega arith }

  module _ (left next : S) (b : Rows) (f : Bor (List ℕ)) (u : Turn left b) (step : steps left (Some f) next) where
    -- a row more
    pub turn-more : (r : Row) (b2 : Rows) → Ok r ≡ ok_or (field_read (number_of q) f.now) Unreadable → ((rs : List Row) → Gathers rs b → Gathers (rs ++ (r ∷ [])) b2) → Turn next b2
    turn-more r b2 read push =
        let m = yields-more steps (λ f. f.now) left next u.fields f u.yields step in
        let rest = rows_read (number_of q) m.0 in
        record {
          named = u.named;
          fields = m.0;
          yields = m.2;
          rows = u.rows ++ (r ∷ []);
          gathers = push u.rows u.gathers;
          whole =
              onto-row u.rows r rest
              ∙ ap (λ o. onto u.rows (row_and o rest)) (sym (row-read (field_read (number_of q) f.now) r read))
              ∙ ap (λ gs. onto u.rows (rows_read (number_of q) gs)) (sym m.1)
              ∙ u.whole;
          count = omega (arith, length_push u.rows r, u.count, ap length m.1);
        }

    -- a field that is none of the kind
    pub turn-stop : (e : LineError) → Err e ≡ ok_or (field_read (number_of q) f.now) Unreadable → (e ≡ Unreadable) × (line_read t ≡ None)
    turn-stop e read =
        let m = yields-more steps (λ f. f.now) left next u.fields f u.yields step in
        let h = row-refused (field_read (number_of q) f.now) e read in
        let none : rows_read (number_of q) (row_fields (fields_of t)) ≡ None =
        sym u.whole ∙ ap (λ gs. onto u.rows (rows_read (number_of q) gs)) m.1 ∙ ap (λ o. onto u.rows (row_and o (rows_read (number_of q) m.0))) h.0 in
        (h.1, line-is t q u.named ∙ ap (column_with (number_of q)) none)

    -- where memory can lack, there is a row
    pub turn-some : 0 < rows_in t
    turn-some = omega (arith, u.count, ap length (yields-more steps (λ f. f.now) left next u.fields f u.yields step).1)

  -- at the end
  module _ (left next : S) (b : Rows) (u : Turn left b) (step : steps left None next) where
    none-left : u.fields ≡ []
    none-left = yields-end steps (λ f. f.now) left next u.fields u.yields step

    pub turn-rows : vec_len b.cells ≡ rows_in t
    turn-rows = omega (arith, u.count, ap length none-left, count-is u.rows b (vec_len b.cells) u.gathers refl)

    pub turn-words : vec_len b.words ≡ vec_len b.cells / 64
    turn-words = u.gathers.count ∙ ap (λ m. m / 64) (sym (count-is u.rows b (vec_len b.cells) u.gathers refl))

    pub turn-given : rows_in t ≤ 131072 → (l : LineColumn) → ((rs : List Row) → Gathers rs b → held l ≡ offer_of (record { kind = number_of q; rows = rs })) → Given t l
    turn-given few l column =
        given-rows t q u.named few l u.rows
        (sym u.whole ∙ ap (λ gs. onto u.rows (rows_read (number_of q) gs)) none-left ∙ ap Some (append-nil u.rows))
        (column u.rows u.gathers)
