-- The fields of a row, from the texts of their parts.
use Rattle.std.proofs.Common.{◌≡◌, ℕ, ◌<◌, ◌≤◌, Bool, true, false, eqb, List, [], ◌∷◌, ◌++◌, length, Some, decimal, Option, unwrap_or, sym, refl, ap, ◌∙◌, ap₂, append_assoc, arith}
use Rattle.std.proofs.lemmas.Bool.{ne_eqb, le-leb}
use Rattle.column.specs.declared.kinds.Kind.{Kind}
use Rattle.column.specs.Kinds.{number_of, kind_of, name_of}
use Rattle.column.specs.Columns.{Column, Offer, cleaned}
use Rattle.column.proofs.RowLaws.{length-offered}
use Rattle.lines.proofs.Back.{kind-again}
use Rattle.lines.specs.Lines.{comma, rows_in, line_read, name_by, field_of}
use Rattle.stats.specs.Stats.{Stats, stats, distinct_count, most_frequent}
use Rattle.colstats.specs.Printed.{fields, value_fields_by, value_fields, count_fields, row_text, printed_by, printed}

pub value_row : (k : ℕ) (s : Stats) (least greatest : ℕ) (d : Option ℕ) (n : ℕ) (m : Option (ℕ × ℕ)) (p : ℕ × ℕ)
    → (s.count ≡ 0 → ⊥)
    → least ≡ s.least
    → greatest ≡ s.greatest
    → n ≡ unwrap_or d 0 → d ≡ distinct_count s
    → p ≡ unwrap_or m (0, 0) → m ≡ most_frequent s
    → field_of k (Some least) ++ (comma ∷ (field_of k (Some greatest) ++ (comma ∷ (decimal n ++ (comma ∷ (field_of k (Some p.0) ++ (comma ∷ decimal p.1)))))))
    ≡ fields (value_fields k s)
value_row k s least greatest d n m p some low high e f g h =
    (λ i.
    field_of k (Some (low i))
    ++ (comma ∷ (field_of k (Some (high i))
    ++ (comma ∷ (decimal ((e ∙ ap (λ o. unwrap_or o 0) f) i)
    ++ (comma ∷ (field_of k (Some ((g ∙ ap (λ o. unwrap_or o (0, 0)) h) i).0)
    ++ (comma ∷ decimal ((g ∙ ap (λ o. unwrap_or o (0, 0)) h) i).1))))))))
    ∙ ap (λ b. fields (value_fields_by b k s)) (sym (ne_eqb s.count 0 some))

-- ---- the row

-- fields, and more of them
fields-append : (fs gs : List (List ℕ)) → 0 < length fs → 0 < length gs → fields fs ++ (comma ∷ fields gs) ≡ fields (fs ++ gs)
fields-append [] gs h k = absurd (omega arith)
fields-append (f ∷ []) [] h k = absurd (omega arith)
fields-append (f ∷ []) (g ∷ gs) h k = refl
fields-append (f ∷ (e ∷ fs)) gs h k =
    append_assoc f (comma ∷ fields (e ∷ fs)) (comma ∷ fields gs) ∙ ap (λ t. f ++ (comma ∷ t)) (fields-append (e ∷ fs) gs (omega arith) k)

-- the value fields are not none
values-some : (b : Bool) (k : ℕ) (s : Stats) → 0 < length (value_fields_by b k s)
values-some true k s = omega arith
values-some false k s = omega arith

-- a view of a column that is held, with its statistics
pub row_is : (n : ℕ) (q : Kind) (o v : Offer) (s : Stats) (rows : ℕ) (counts values : List ℕ)
    → v ≡ o → v.kind ≡ number_of q → rows ≡ length v.cells → s ≡ stats true (cleaned v)
    → counts ≡ fields (count_fields n (name_of q) rows s)
    → values ≡ fields (value_fields (number_of q) s)
    → counts ++ (comma ∷ values) ≡ row_text n (cleaned o)
row_is n q o v s rows counts values same kind count st e f =
    let named : name_of q ≡ name_by (kind_of v.kind) = sym (ap name_by (kind-again q)) ∙ ap (λ k. name_by (kind_of k)) (sym kind) in
    let counted : rows ≡ length (cleaned v).rows = count ∙ sym (length-offered v) in
    ap₂ (λ a b. a ++ (comma ∷ b)) e f
    ∙ (λ i. fields (count_fields n (named i) (counted i) (st i)) ++ (comma ∷ fields (value_fields (sym kind i) (st i))))
    ∙ fields-append (count_fields n (name_by (kind_of v.kind)) (length (cleaned v).rows) (stats true (cleaned v))) (value_fields v.kind (stats true (cleaned v)))
    (omega arith) (values-some (eqb (stats true (cleaned v)).count 0) v.kind (stats true (cleaned v)))
    ∙ ap (λ w. row_text n (cleaned w)) same

-- ---- the line

pub printed-is : (n : ℕ) (t : List ℕ) (c : Column) (bytes : List ℕ) → rows_in t ≤ 131072 → line_read t ≡ Some c → bytes ≡ row_text n c → bytes ≡ printed n t
printed-is n t c bytes few read e = e ∙ sym (ap₂ (λ b o. printed_by b n o) (le-leb (rows_in t) 131072 few) read)
