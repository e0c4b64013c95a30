-- Which refusal turns an offer away.
use Rattle.std.proofs.Common.{◌≡◌, ℕ, zero, suc, ◌/◌, ◌%◌, ◌^◌, ◌<◌, ◌≤◌, Bool, true, false, not, ◌||◌, eqb, ltb, List, length, get_or, Some, None, Option, Ok, Err, Result, sym, refl, ap, ◌∙◌, subst, arith}
use native.Mathlib.Nat.{zero-div}
use Rattle.std.proofs.lemmas.Bool.{lt-ltb, le-leb, le-ltb, ltb-false, eq-eqb, ne_eqb, eqb-true, or_parts, not-false}
use Rattle.std.proofs.lemmas.List.{get_or_past}
use Rattle.std.specs.Result.{result_ok}
use Rattle.packing.specs.Packing.{joined}
use Rattle.column.specs.declared.kinds.Kind.{Kind}
use Rattle.column.specs.declared.kinds.Kind.TheVariants.{U8, U16, U32, U64, I8, I16, I32, I64}
use Rattle.column.specs.declared.refusals.Refusal.{Refusal}
use Rattle.column.specs.declared.refusals.Refusal.TheVariants.{UnknownKind, TooManyRows, BadPresence}
use Rattle.column.specs.declared.views.View.{View}
use Rattle.column.specs.Kinds.{number_of, kind_of, known, known_kind}
use Rattle.column.specs.Columns.{Offer, Clean, cleaned, offered, words_for, words_wrong, or_else, refuse_stray, stray_from, offer_refused, offer_seen}
use Rattle.column.specs.Views.{unless, Shown}
use Rattle.column.proofs.RowLaws.{length-offered}
use Rattle.column.proofs.WordLaws.{Words, words-spare}

not-not : (b : Bool) → not (not b) ≡ b
not-not true = refl
not-not false = refl

apart : {X : Type 0} {q : Kind} → ◌≡◌ {A = Option Kind} (Some q) None → X
apart e = absurd (let z : ◌≡◌ {A = ℕ} 0 1 = cc in omega arith)

same_kind : {q p : Kind} → ◌≡◌ {A = Option Kind} (Some q) (Some p) → q ≡ p
same_kind e = cc

pub kind-none : (n : ℕ) → kind_of n ≡ None → 7 < n
kind-none zero e = apart e
kind-none (suc zero) e = apart e
kind-none (suc (suc zero)) e = apart e
kind-none (suc (suc (suc zero))) e = apart e
kind-none (suc (suc (suc (suc zero)))) e = apart e
kind-none (suc (suc (suc (suc (suc zero))))) e = apart e
kind-none (suc (suc (suc (suc (suc (suc zero)))))) e = apart e
kind-none (suc (suc (suc (suc (suc (suc (suc zero))))))) e = apart e
kind-none (suc (suc (suc (suc (suc (suc (suc (suc n)))))))) e = omega arith

pub kind-some : (n : ℕ) (q : Kind) → kind_of n ≡ Some q → n ≡ number_of q
kind-some zero q e = ap number_of (same_kind e)
kind-some (suc zero) q e = ap number_of (same_kind e)
kind-some (suc (suc zero)) q e = ap number_of (same_kind e)
kind-some (suc (suc (suc zero))) q e = ap number_of (same_kind e)
kind-some (suc (suc (suc (suc zero)))) q e = ap number_of (same_kind e)
kind-some (suc (suc (suc (suc (suc zero))))) q e = ap number_of (same_kind e)
kind-some (suc (suc (suc (suc (suc (suc zero)))))) q e = ap number_of (same_kind e)
kind-some (suc (suc (suc (suc (suc (suc (suc zero))))))) q e = ap number_of (same_kind e)
kind-some (suc (suc (suc (suc (suc (suc (suc (suc n)))))))) q e = apart (sym e)

pub kind-few : (q : Kind) → number_of q ≤ 7
kind-few U8 = omega arith
kind-few U16 = omega arith
kind-few U32 = omega arith
kind-few U64 = omega arith
kind-few I8 = omega arith
kind-few I16 = omega arith
kind-few I32 = omega arith
kind-few I64 = omega arith

apart-known : {X : Type 0} {e : Refusal} {q : Kind} → ◌≡◌ {A = Result Kind Refusal} (Err e) (Ok q) → X
apart-known e = absurd (let z : ◌≡◌ {A = ℕ} 0 1 = cc in omega arith)

-- the kind that a number names
pub known-is : (n : ℕ) (q : Kind) → known_kind n ≡ Ok q → n ≡ number_of q
known-is n q e = go (kind_of n) refl e
  where
    go : (k : Option Kind) → kind_of n ≡ k → known k ≡ Ok q → n ≡ number_of q
    go (Some p) f g = kind-some n q (f ∙ ap {B = Option Kind} Some (same_ok g))
      where
        same_ok : {p r : Kind} → ◌≡◌ {A = Result Kind Refusal} (Ok p) (Ok r) → p ≡ r
        same_ok h = cc
    go None f g = apart-known g

-- the number's kind is what the answer says where it is granted
pub known-ok : (k : Option Kind) → result_ok (known k) ≡ k
known-ok (Some q) = refl
known-ok None = refl

pub known-few : (n : ℕ) (q : Kind) → known_kind n ≡ Ok q → n ≤ 7
known-few n q e = let f = kind-few q in let g = known-is n q e in omega arith

-- ---- the first refusal

pub refused-kind : (o : Offer) → 7 < o.kind → offer_refused o ≡ Some UnknownKind
refused-kind o k = λ i. or_else (lt-ltb 7 o.kind k i) UnknownKind (or_else (ltb 131072 (length o.cells)) TooManyRows (or_else (words_wrong (length o.cells) o.words) BadPresence (refuse_stray (stray_from o.kind 0 (offered o)))))

-- rows and presence words
abbrev pub shape : ℕ → List ℕ → Option Refusal → Option Refusal
shape n ws later = or_else (ltb 131072 n) TooManyRows (or_else (words_wrong n ws) BadPresence later)

pub record Right (n : ℕ) (ws : List ℕ) : Type 0 where
  pub few : n ≤ 131072
  pub words : length ws ≡ words_for n
  pub whole : words_wrong n ws ≡ false

apart-refusal : {X : Type 0} {r : Refusal} → ◌≡◌ {A = Option Refusal} (Some r) None → X
apart-refusal e = absurd (let z : ◌≡◌ {A = ℕ} 0 1 = cc in omega arith)

words_right : (n : ℕ) (ws : List ℕ) → words_wrong n ws ≡ false → length ws ≡ words_for n
words_right n ws e =
    let p = or_parts (not (eqb (length ws) (words_for n))) (not (ltb (joined (2 ^ 64) ws) (2 ^ n))) e in
    eqb-true (length ws) (words_for n) (not-false (eqb (length ws) (words_for n)) p.0)

granted : (o : Option Refusal) → unless o ≡ Ok tt → o ≡ None
granted None e = refl
granted (Some r) e = absurd (let z : ◌≡◌ {A = ℕ} 0 1 = cc in omega arith)

shape-none : (n : ℕ) (ws : List ℕ) → shape n ws None ≡ None → Right n ws
shape-none n ws e = go (ltb 131072 n) (words_wrong n ws) refl refl e
  where
    go : (p q : Bool) → ltb 131072 n ≡ p → words_wrong n ws ≡ q → or_else p TooManyRows (or_else q BadPresence None) ≡ None → Right n ws
    go true q a b f = apart-refusal f
    go false true a b f = apart-refusal f
    go false false a b f = record { few = ltb-false 131072 n a; words = words_right n ws b; whole = b }

pub shape-right : (n : ℕ) (ws : List ℕ) → unless (shape n ws None) ≡ Ok tt → Right n ws
shape-right n ws e = shape-none n ws (granted (shape n ws None) e)

shape-some : (n : ℕ) (ws : List ℕ) (r : Refusal) (later : Option Refusal) → shape n ws None ≡ Some r → shape n ws later ≡ Some r
shape-some n ws r later e = go (ltb 131072 n) (words_wrong n ws) e
  where
    go : (p q : Bool) → or_else p TooManyRows (or_else q BadPresence None) ≡ Some r → or_else p TooManyRows (or_else q BadPresence later) ≡ Some r
    go true q f = f
    go false true f = f
    go false false f = apart-refusal (sym f)

pub refused-shape : (o : Offer) → o.kind ≤ 7 → (r : Refusal) → shape (length o.cells) o.words None ≡ Some r → offer_refused o ≡ Some r
refused-shape o k r e = ap (λ t. or_else t UnknownKind (shape (length o.cells) o.words (refuse_stray (stray_from o.kind 0 (offered o))))) (le-ltb 7 o.kind k) ∙ shape-some (length o.cells) o.words r _ e

pub refused-stray : (o : Offer) → o.kind ≤ 7 → Right (length o.cells) o.words → (s : Option ℕ) → stray_from o.kind 0 (offered o) ≡ s → offer_refused o ≡ refuse_stray s
refused-stray o k g s e = λ i. or_else (le-ltb 7 o.kind k i) UnknownKind (or_else (le-ltb 131072 (length o.cells) g.few i) TooManyRows (or_else (g.whole i) BadPresence (refuse_stray (e i))))

-- an offer that no refusal turns away has a clean column
pub unrefused : (o : Offer) → offer_refused o ≡ None → Clean (cleaned o)
unrefused o e = go (ltb 7 o.kind) (ltb 131072 (length o.cells)) (words_wrong (length o.cells) o.words) (stray_from o.kind 0 (offered o)) refl refl refl e
  where
    go : (p q s : Bool) (t : Option ℕ) → ltb 7 o.kind ≡ p → ltb 131072 (length o.cells) ≡ q → stray_from o.kind 0 (offered o) ≡ t
        → or_else p UnknownKind (or_else q TooManyRows (or_else s BadPresence (refuse_stray t))) ≡ None → Clean (cleaned o)
    go true q s t a b c f = apart-refusal f
    go false true s t a b c f = apart-refusal f
    go false false true t a b c f = apart-refusal f
    go false false false (Some r) a b c f = apart-refusal f
    go false false false None a b c f =
        let k = ltb-false 7 o.kind a in
        let n = ltb-false 131072 (length o.cells) b in
        let l = length-offered o in
        (le-leb o.kind 7 k, le-leb (length (offered o)) 131072 (omega arith), c)

-- a view that shows an offer of this kind and shape, whose rows are all of the kind
pub shown : (o : Offer) (k : Kind) → known_kind o.kind ≡ Ok k → unless (shape (length o.cells) o.words None) ≡ Ok tt → stray_from (number_of k) 0 (offered o) ≡ None → (v : View)
    → offer_seen v ≡ record { kind = number_of k; cells = o.cells; words = o.words } → Shown o v
shown o k e g none v w =
    let n : o.kind ≡ number_of k = known-is o.kind k e in
    let right = shape-right (length o.cells) o.words g in
    let free = refused-stray o (known-few o.kind k e) right None (ap (λ z. stray_from z 0 (offered o)) n ∙ none) in
    let cells : v.cells.now ≡ o.cells = ap (λ (p : Offer). p.cells) w in
    let words : v.words.now ≡ o.words = ap (λ (p : Offer). p.words) w in
    let same : offer_seen v ≡ o = w ∙ (λ i. record { kind = sym n i; cells = o.cells; words = o.words }) in
    record {
      unrefused = free;
      same = same;
      sound = record { few = subst (λ cs. length cs ≤ 131072) (sym cells) right.few; words = ap length words ∙ right.words ∙ ap (λ cs. words_for (length cs)) (sym cells) };
      clean = subst (λ p. Clean (cleaned p)) (sym same) (unrefused o free);
    }

-- ---- the words of n rows

words_are : (n : ℕ) (ws : List ℕ) → length ws ≡ words_for n → not (words_wrong n ws) ≡ ltb (joined (2 ^ 64) ws) (2 ^ n)
words_are n ws e = ap (λ z. not (not z || not (ltb (joined (2 ^ 64) ws) (2 ^ n)))) (eq-eqb (length ws) (words_for n) e) ∙ not-not (ltb (joined (2 ^ 64) ws) (2 ^ n))

pub words_last : (n : ℕ) (ws : List ℕ) → Words ws → length ws ≡ words_for n → eqb (get_or ws (n / 64) 0 / 2 ^ (n % 64)) 0 ≡ not (words_wrong n ws)
words_last n ws a e = sym (words_are n ws e ∙ words-spare ws n a e)

pub words-whole : (n : ℕ) (ws : List ℕ) → Words ws → length ws ≡ words_for n → length ws ≤ n / 64 → true ≡ not (words_wrong n ws)
words-whole n ws a e h =
    let past : get_or ws (n / 64) 0 ≡ 0 = get_or_past ws (n / 64) 0 h in
    sym (eq-eqb (get_or ws (n / 64) 0 / 2 ^ (n % 64)) 0 (ap (λ x. x / 2 ^ (n % 64)) past ∙ zero-div (2 ^ (n % 64)))) ∙ words_last n ws a e

pub words-other : (n : ℕ) (ws : List ℕ) → (length ws ≡ words_for n → ⊥) → false ≡ not (words_wrong n ws)
words-other n ws e = sym (ap (λ z. not (not z || not (ltb (joined (2 ^ 64) ws) (2 ^ n)))) (ne_eqb (length ws) (words_for n) e))
