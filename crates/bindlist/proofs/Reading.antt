-- Lines that no column is bound of.
use Rattle.std.proofs.Common.{◌≡◌, ℕ, ◌<◌, ◌≤◌, List, length, cond, Some, None, Err, Option, vec_len, sym, refl, ap, ◌∙◌, subst, arith}
use Rattle.std.specs.Bool.{then_some}
use Rattle.std.proofs.lemmas.Bool.{le-leb, lt-leb}
use Rattle.column.specs.declared.kinds.Kind.{Kind}
use Rattle.column.specs.Kinds.{number_of}
use Rattle.column.specs.Columns.{Row, offered, cleaned}
use Rattle.column.proofs.RowLaws.{length-offered}
use Rattle.lines.specs.declared.columns.LineColumn.{LineColumn}
use Rattle.lines.specs.declared.columns.LineError.{LineError}
use Rattle.lines.specs.declared.columns.LineError.TheVariants.{TooManyRows}
use Rattle.lines.specs.Answers.{Reads}
use Rattle.lines.specs.Held.{held}
use Rattle.lines.specs.Lines.{fields_of, row_fields, rows_in, rows_read, column_with, column_read, kind_in, line_read}
use Rattle.lines.proofs.Cleaning.{rows-count}
use Rattle.bindlist.specs.Printed.{few, line_column}

many-with : (k : ℕ) (fs : List (List ℕ)) → 131072 < length fs → (r : Option (List Row)) → rows_read k fs ≡ r → few (column_with k r) ≡ None
many-with k fs h None e = refl
many-with k fs h (Some rs) e =
    let c = rows-count k fs rs e in
    ap (λ b. then_some b (record { kind = k; rows = rs })) (lt-leb (length rs) 64 (omega arith))

many-by : (q : Option Kind) (fs : List (List ℕ)) → 131072 < length fs → few (column_read q fs) ≡ None
many-by None fs h = refl
many-by (Some k) fs h = many-with (number_of k) fs h (rows_read (number_of k) fs) refl

pub many : (t : List ℕ) → 131072 < rows_in t → few (line_read t) ≡ None
many t h = many-by (kind_in (fields_of t)) (row_fields (fields_of t)) h

-- ---- a column of a line, by how many rows it has

pub long : (l : LineColumn) (n : ℕ) → n ≡ vec_len l.cells → 64 < n → None ≡ few (Some (cleaned (held l)))
long l n e h =
    let k = length-offered (held l) in
    let f : 64 < length (offered (held l)) = omega arith in
    ap (λ b. then_some b (cleaned (held l))) (sym (lt-leb (length (offered (held l))) 64 f))

pub short : (l : LineColumn) (n : ℕ) → n ≡ vec_len l.cells → n ≤ 64 → Some (cleaned (held l)) ≡ few (Some (cleaned (held l)))
short l n e h =
    let k = length-offered (held l) in
    let f : length (offered (held l)) ≤ 64 = omega arith in
    ap (λ b. then_some b (cleaned (held l))) (sym (le-leb (length (offered (held l))) 64 f))

-- ---- line n

pub line-many : (n : ℕ) (t : List ℕ) → n ≤ 16 → (e : LineError) → e ≡ TooManyRows → Reads t (Err e) → None ≡ line_column n t
line-many n t h e q r =
    let k : 131072 < rows_in t = subst (λ z. Reads t (Err z)) q r in
    sym (many t k) ∙ ap (λ b. cond b (few (line_read t)) None) (sym (le-leb n 16 h))
