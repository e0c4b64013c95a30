-- What a granted fetch leaves in the places is an offer of the same column.
use Rattle.std.proofs.Common.{◌≡◌, ℕ, ◌^◌, ◌<◌, not, ◌||◌, length, take, drop, Some, None, Ok, Err, Option, Result, sym, ap, ◌∙◌, subst, arith}
use Rattle.std.proofs.lemmas.Bool.{le-ltb, lt-ltb, eq-eqb}
use Rattle.std.proofs.lemmas.List.{take_at}
use Rattle.packing.specs.Packing.{joined}
use Rattle.packing.proofs.Digits.{bits-lt}
use Rattle.column.specs.declared.refusals.Refusal.{Refusal}
use Rattle.column.specs.declared.refusals.Refusal.TheVariants.{UnknownKind, TooManyRows, BadPresence}
use Rattle.column.specs.Columns.{Column, Clean, Offer, bits, cells, presence, words_for, offer_of, cleaned, offer_refused, or_else, refuse_stray, stray_from}
use Rattle.column.proofs.RowLaws.{clean-kind, clean-short, length-cells, length-bits, below-bits, length_digits}
use Rattle.column.proofs.WordLaws.{presence-joined, cleaned-stored}
use Rattle.calls.specs.declared.answers.Fetched.{Fetched}
use Rattle.calls.specs.Calls.{Lent, filled_with, GivenBy}
use Rattle.calls.specs.Runs.{handed_back, Back}

length-presence : (c : Column) → length (presence c.rows) ≡ words_for (length c.rows)
length-presence c = length_digits (2 ^ 64) (words_for (length c.rows)) (joined 2 (bits c.rows))

-- a clean column as it is handed in is not turned away
stored-free : (c : Column) → Clean c → offer_refused (offer_of c) ≡ None
stored-free c cl =
    let n = length (cells c.rows) in
    let l = length-cells c.rows in
    let short = clean-short c cl in
    let low : joined (2 ^ 64) (presence c.rows) < 2 ^ n =
    (let b = bits-lt (length c.rows) (bits c.rows) (length-bits c.rows) (below-bits c.rows) in
    subst (λ x. x < 2 ^ n) (sym (presence-joined c.rows)) (subst (λ k. joined 2 (bits c.rows) < 2 ^ k) (sym l) b)) in
    let kind = le-ltb 7 c.kind (clean-kind c cl) in
    let rows = le-ltb 131072 n (omega arith) in
    let words = eq-eqb (length (presence c.rows)) (words_for n) (length-presence c ∙ ap words_for (sym l)) in
    let spare = lt-ltb (joined (2 ^ 64) (presence c.rows)) (2 ^ n) low in
    let inside : stray_from c.kind 0 (cleaned (offer_of c)).rows ≡ None = ap (λ z. stray_from c.kind 0 z.rows) (cleaned-stored c) ∙ cl.2 in
    λ i. or_else (kind i) UnknownKind (or_else (rows i) TooManyRows (or_else (not (words i) || not (spare i)) BadPresence (refuse_stray (inside i))))

handed-stored : (c : Column) (x y : Lent) (f : Fetched) → f.rows ≡ length c.rows → y ≡ filled_with c x → (k : ℕ) → k ≡ c.kind
    → ◌≡◌ {A = Offer} (record { kind = k; cells = take f.rows y.cells; words = take (words_for f.rows) y.words }) (offer_of c)
handed-stored c x y f n e k kind =
    let a = ap (λ m. take m y.cells) n ∙ ap (λ (z : Lent). take (length c.rows) z.cells) e
    ∙ take_at (cells c.rows) (drop (length (cells c.rows)) x.cells) (length c.rows) (length-cells c.rows) in
    let b = ap (λ m. take (words_for m) y.words) n ∙ ap (λ (z : Lent). take (words_for (length c.rows)) z.words) e
    ∙ take_at (presence c.rows) (drop (length (presence c.rows)) x.words) (words_for (length c.rows)) (length-presence c) in
    λ i. record { kind = kind i; cells = a i; words = b i }

pub back : (c : Column) → Clean c → (q : Option Refusal) (x : Lent) (r : Result Fetched Refusal) (y : Lent) → GivenBy q c x r y → Back c r y
back c cl q x (Err e) y g = tt
back c cl (Some e) x (Ok f) y g = absurd (let a = g.0 in let z : ◌≡◌ {A = ℕ} 0 1 = cc in omega arith)
back c cl None x (Ok f) y ((kind, rows), e) =
    let same : handed_back f y ≡ offer_of c = handed-stored c x y f rows e _ kind in
    (ap cleaned same ∙ cleaned-stored c, ap offer_refused same ∙ stored-free c cl)
