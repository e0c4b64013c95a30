-- The view of a column that no refusal turns away, with 0 under each blank.
use Rattle.std.proofs.Common.{◌≡◌, ℕ, ◌^◌, ◌<◌, Bool, true, false, not, ◌||◌, ltb, List, [], ◌∷◌, ◌++◌, length, drop, None, Option, sym, refl, ap, ◌∙◌, subst, arith}
use Rattle.std.proofs.lemmas.List.{append-nil, drop_all}
use Rattle.std.proofs.lemmas.Bool.{ltb-true, eqb-true}
use Rattle.std.proofs.lemmas.Option.{none-some}
use Rattle.packing.specs.Packing.{joined, digits, written}
use Rattle.packing.proofs.Digits.{digits-joined, joined-digits}
use Rattle.column.specs.declared.views.View.{View}
use Rattle.column.specs.declared.refusals.Refusal.TheVariants.{UnknownKind, TooManyRows, BadPresence}
use Rattle.column.specs.Columns.{Offer, Sound, CleanView, bits, cells, presence, offered, offer_seen, offer_refused, or_else, refuse_stray, seen, stray_from, words_for, words_wrong}
use Rattle.column.proofs.WordLaws.{Words}
use Rattle.column.proofs.RowLaws.{bits-rows, clean-short, length-offered}
use Rattle.column.proofs.ViewLaws.{view-rows}
use Rattle.column.proofs.InspectLaws.{unrefused}

-- what an offer that is not turned away says of its presence words
fine-words : (o : Offer) → offer_refused o ≡ None → words_wrong (length o.cells) o.words ≡ false
fine-words o e = go (ltb 7 o.kind) (ltb 131072 (length o.cells)) (words_wrong (length o.cells) o.words) refl e
  where
    go : (p q s : Bool) → words_wrong (length o.cells) o.words ≡ s
        → or_else p UnknownKind (or_else q TooManyRows (or_else s BadPresence (refuse_stray (stray_from o.kind 0 (offered o))))) ≡ None → words_wrong (length o.cells) o.words ≡ false
    go true q s w f = absurd (none-some UnknownKind (sym f))
    go false true s w f = absurd (none-some TooManyRows (sym f))
    go false false true w f = absurd (none-some BadPresence (sym f))
    go false false false w f = w

few-bits : (n : ℕ) (ws : List ℕ) → words_wrong n ws ≡ false → (length ws ≡ words_for n) × (joined (2 ^ 64) ws < 2 ^ n)
few-bits n ws e = go (Rattle.std.proofs.Common.eqb (length ws) (words_for n)) (ltb (joined (2 ^ 64) ws) (2 ^ n)) refl refl e
  where
    go : (p q : Bool) → Rattle.std.proofs.Common.eqb (length ws) (words_for n) ≡ p → ltb (joined (2 ^ 64) ws) (2 ^ n) ≡ q → (not p || not q) ≡ false
        → (length ws ≡ words_for n) × (joined (2 ^ 64) ws < 2 ^ n)
    go true true a b f = (eqb-true _ _ a, ltb-true _ _ b)
    go true false a b f = absurd (Rattle.std.proofs.Common.true≢false f)
    go false q a b f = absurd (Rattle.std.proofs.Common.true≢false f)

-- a view that no refusal turns away has a word for each 64 rows, and no more rows than a column may have
pub unrefused-sound : (v : View) → offer_refused (offer_seen v) ≡ None → Sound v
unrefused-sound v e =
    let rows = view-rows v in
    let short = clean-short (seen v) (unrefused (offer_seen v) e) in
    record { few = omega (arith, rows, short); words = (few-bits (length v.cells.now) v.words.now (fine-words (offer_seen v) e)).0 }

-- its presence words are those of its rows
pub words-back : (o : Offer) → Words o.words → offer_refused o ≡ None → o.words ≡ presence (offered o)
words-back o w e =
    let n = length o.cells in
    let f = few-bits n o.words (fine-words o e) in
    let x = joined (2 ^ 64) o.words in
    let b : joined 2 (bits (offered o)) ≡ x = ap (joined 2) (bits-rows n x o.cells) ∙ joined-digits 2 n x (omega arith) f.1 in
    sym (digits-joined (2 ^ 64) o.words w) ∙ ap (λ k. digits (2 ^ 64) k x) (f.0 ∙ ap words_for (sym (length-offered o))) ∙ ap (digits (2 ^ 64) (words_for (length (offered o)))) (sym b)

-- an offer with 0 under each blank is its column as it is stored
pub clean-view : (v : View) → Words v.words.now → offer_refused (offer_seen v) ≡ None → v.cells.now ≡ cells (seen v).rows → CleanView v
clean-view v w e c = record { stored = λ i. record { kind = (seen v).kind; cells = c i; words = words-back (offer_seen v) w e i }; clean = unrefused (offer_seen v) e }

-- written over as many cells, they are the cells
pub all-written : (new old : List ℕ) → length new ≡ length old → written new old ≡ new
all-written new old e = ap (λ (xs : List ℕ). new ++ xs) (drop_all (length new) old (omega arith)) ∙ append-nil new
