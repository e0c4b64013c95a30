-- A column that no refusal turns away stands clean once its cells are.
use Rattle.std.proofs.Common.{◌≡◌, ℕ, ◌^◌, ◌<◌, Bool, true, false, not, ◌||◌, ltb, eqb, List, ◌++◌, length, Some, None, Option, sym, refl, ap, ◌∙◌, append-nil, arith}
use Rattle.std.proofs.lemmas.Bool.{ltb-true}
use Rattle.std.proofs.lemmas.List.{drop_all}
use Rattle.packing.specs.Packing.{joined, digits, Below, written}
use Rattle.packing.proofs.Digits.{digits-joined, joined-digits}
use Rattle.column.specs.declared.refusals.Refusal.{Refusal}
use Rattle.column.specs.declared.refusals.Refusal.TheVariants.{UnknownKind, TooManyRows, BadPresence}
use Rattle.column.specs.Columns.{Offer, cells, offered, cleaned, words_for, words_wrong, or_else, presence, refuse_stray, stray_from, refused_by, offer_refused, offer_of}
use Rattle.column.proofs.RowLaws.{length-offered, bits-rows}
use Rattle.column.proofs.HiddenLaws.{length-cleaned, offered-again}
use Rattle.column.specs.Views.{with_cells}

refusal-none : {X : Type 0} {r : Refusal} → ◌≡◌ {A = Option Refusal} (Some r) None → X
refusal-none e = absurd (let z : ◌≡◌ {A = ℕ} 0 1 = cc in omega arith)

words-right : (p q w : Bool) (later : Option Refusal) → or_else p UnknownKind (or_else q TooManyRows (or_else w BadPresence later)) ≡ None → w ≡ false
words-right true q w later e = refusal-none e
words-right false true w later e = refusal-none e
words-right false false true later e = refusal-none e
words-right false false false later e = refl

both : (p q : Bool) → (not p || not q) ≡ false → q ≡ true
both true true e = refl
both true false e = sym e
both false true e = refl
both false false e = sym e

-- the presence words of an offer are those of its rows
words-presence : (o : Offer) → offer_refused o ≡ None → Below (2 ^ 64) o.words → length o.words ≡ words_for (length o.cells) → o.words ≡ presence (offered o)
words-presence o e b l =
    let n = length o.cells in
    let J = joined (2 ^ 64) o.words in
    let w : words_wrong n o.words ≡ false = words-right (ltb 7 o.kind) (ltb 131072 n) (words_wrong n o.words) (refuse_stray (stray_from o.kind 0 (offered o))) e in
    let lt : J < 2 ^ n = ltb-true J (2 ^ n) (both (eqb (length o.words) (words_for n)) (ltb J (2 ^ n)) w) in
    sym
    ((λ i. digits (2 ^ 64) (words_for (length-offered o i)) (joined 2 (bits-rows n J o.cells i)))
    ∙ ap (digits (2 ^ 64) (words_for n)) (joined-digits 2 n J (omega arith) lt)
    ∙ (λ i. digits (2 ^ 64) (sym l i) J)
    ∙ digits-joined (2 ^ 64) o.words b)

-- it stands as it is handed in
pub stored : (o : Offer) → offer_refused o ≡ None → Below (2 ^ 64) o.words → length o.words ≡ words_for (length o.cells) → o.cells ≡ cells (offered o) → o ≡ offer_of (cleaned o)
stored o e b l z = λ i. record { kind = o.kind; cells = z i; words = words-presence o e b l i }

-- cells with 0 under the blanks, in places that they fill
pub filled : (o : Offer) (out old : List ℕ) → out ≡ written (cells (offered o)) old → length old ≡ length o.cells → out ≡ cells (offered o)
filled o out old e l =
    let h = length-cleaned o in
    e ∙ ap (λ xs. cells (offered o) ++ xs) (drop_all (length (cells (offered o))) old (omega arith)) ∙ append-nil (cells (offered o))

pub zeros : (o : Offer) (out : List ℕ) → out ≡ cells (offered o) → out ≡ cells (offered (with_cells o out))
zeros o out e = e ∙ ap cells (sym (offered-again o)) ∙ ap (λ xs. cells (offered (with_cells o xs))) (sym e)

pub still : (o : Offer) (out : List ℕ) → offer_refused o ≡ None → out ≡ cells (offered o) → offer_refused (with_cells o out) ≡ None
still o out n e =
    let l : length out ≡ length o.cells = ap length e ∙ length-cleaned o in
    (λ i. refused_by o.kind (l i) o.words ((ap (λ xs. offered (with_cells o xs)) e ∙ offered-again o) i)) ∙ n
