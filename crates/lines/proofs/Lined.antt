-- A line from its first field and the rows after it.
use Rattle.std.proofs.Common.{◌≡◌, ℕ, ◌≤◌, List, Some, None, Ok, Err, Option, Result, sym, ap, ◌∙◌, subst, arith}
use Rattle.column.specs.declared.kinds.Kind.{Kind}
use Rattle.column.specs.Kinds.{number_of}
use Rattle.column.specs.Columns.{Row, Column, Clean, cleaned, offer_of}
use Rattle.column.proofs.RowLaws.{clean-short}
use Rattle.column.proofs.WordLaws.{cleaned-stored}
use Rattle.lines.specs.declared.columns.LineColumn.{LineColumn}
use Rattle.lines.specs.declared.columns.LineError.{LineError}
use Rattle.lines.specs.declared.columns.LineError.TheVariants.{Unreadable, TooManyRows, NoMemory}
use Rattle.lines.specs.Answers.{Given, Reads, Back}
use Rattle.lines.specs.Held.{held}
use Rattle.lines.specs.Lines.{fields_of, rows_in, rows_read, column_with, column_read, kind_in, row_fields, line_read, line_of}
use Rattle.lines.proofs.Back.{line-back}
use Rattle.lines.proofs.Cleaning.{read-clean}

module _ (t : List ℕ) where
  pub no-kind : kind_in (fields_of t) ≡ None → line_read t ≡ None
  no-kind h = ap (λ o. column_read o (row_fields (fields_of t))) h

  module _ (q : Kind) (h : kind_in (fields_of t) ≡ Some q) where
    pub line-is : line_read t ≡ column_with (number_of q) (rows_read (number_of q) (row_fields (fields_of t)))
    line-is = ap (λ o. column_read o (row_fields (fields_of t))) h

    pub given-rows : rows_in t ≤ 131072 → (l : LineColumn) (rs : List Row) → rows_read (number_of q) (row_fields (fields_of t)) ≡ Some rs
        → held l ≡ offer_of (record { kind = number_of q; rows = rs }) → Given t l
    given-rows few l rs read is =
        let c : Column = record { kind = number_of q; rows = rs } in
        let back : cleaned (held l) ≡ c = ap cleaned is ∙ cleaned-stored c in
        record {
          few = few;
          column = line-is ∙ ap (column_with (number_of q)) read ∙ ap Some (sym back);
          stored = is ∙ ap offer_of (sym back);
          clean = subst Clean (sym back) (read-clean q (row_fields (fields_of t)) rs read few);
        }

same-column : (o : Option Column) (c d : Column) → o ≡ Some c → o ≡ Some d → c ≡ d
same-column o c d e f = cc

pub back_from : (t : List ℕ) (r : Result LineColumn LineError) → Reads t r → (c : Column) → Clean c → t ≡ line_of c → Back c r
back_from t (Ok l) g c h e =
    g.stored ∙ ap offer_of (same-column (line_read t) (cleaned (held l)) c g.column (ap line_read e ∙ (line-back c h).column))
back_from t (Err Unreadable) g c h e =
    let a : line_read t ≡ Some c = ap line_read e ∙ (line-back c h).column in
    let b = g.1 in
    let z : ◌≡◌ {A = ℕ} 0 1 = cc in omega arith
back_from t (Err TooManyRows) g c h e =
    omega (arith, ap rows_in e ∙ (line-back c h).count, clean-short c h)
back_from t (Err NoMemory) g c h e = tt
