-- What an opening that is not refused says of its levels and of its bank's ids.
use Rattle.std.proofs.Common.{◌≡◌, ℕ, zero, suc, ◌<◌, ◌≤◌, Bool, true, false, not, ◌&&◌, eqb, leb, List, [], ◌∷◌, length, None, sym, refl, ap, ◌∙◌, arith}
use Rattle.std.proofs.lemmas.Bool.{leb-true, eq-eqb, true≢false, and_parts, or_parts}
use Rattle.std.proofs.lemmas.Option.{none-some}
use Rattle.column.specs.declared.refusals.Refusal.TheVariants.{BadOpening}
use Rattle.column.specs.Columns.{or_else}
use Rattle.scheme.specs.Meaning.{Meaning}
use Rattle.scheme.specs.Banks.{at}
use Rattle.levels.specs.Openings.{Opened}
use Rattle.calls.specs.Openings.{Setting, has_id, ids_fit, fits, Granted}

granted-fits : (set : Setting) → Granted set → fits set ≡ true
granted-fits set g = go (fits set) refl g.unrefused
  where
    go : (q : Bool) → fits set ≡ q → or_else (not q) BadOpening None ≡ None → fits set ≡ true
    go true e f = e
    go false e f = absurd (none-some BadOpening (sym f))

pub few-levels : (set : Setting) → Granted set → set.levels ≤ 8
few-levels set g =
    let ids = ids_fit set.opening.bank in
    let low = leb set.levels 8 in
    leb-true set.levels 8 (and_parts low ids (and_parts (leb (length set.opening.bank) 8) (low && ids) (granted-fits set g)).1).0

-- ---- ids

id-parts : (m : Meaning) (ms : List Meaning) → ids_fit (m ∷ ms) ≡ true → (16 ≤ m.id) × (has_id m.id ms ≡ false) × (ids_fit ms ≡ true)
id-parts m ms e =
    let p = and_parts (leb 16 m.id && leb m.id 255) (not (has_id m.id ms) && ids_fit ms) e in
    let q = and_parts (not (has_id m.id ms)) (ids_fit ms) p.1 in
    (leb-true 16 m.id (and_parts (leb 16 m.id) (leb m.id 255) p.0).0, go (has_id m.id ms) q.0, q.1)
  where
    go : (b : Bool) → not b ≡ true → b ≡ false
    go true f = absurd (true≢false (sym f))
    go false f = refl

absent : (k : ℕ) (ms : List Meaning) → has_id k ms ≡ false → (i : ℕ) → i < length ms → (at ms i).id ≡ k → ⊥
absent k [] e i l f = absurd (omega arith)
absent k (m ∷ ms) e zero l f = true≢false (sym (eq-eqb m.id k f) ∙ (or_parts (eqb m.id k) (has_id k ms) e).0)
absent k (m ∷ ms) e (suc i) l f = absent k ms (or_parts (eqb m.id k) (has_id k ms) e).1 i (omega arith) f

ids-high : (ms : List Meaning) → ids_fit ms ≡ true → (i : ℕ) → i < length ms → 16 ≤ (at ms i).id
ids-high [] e i l = absurd (omega arith)
ids-high (m ∷ ms) e zero l = (id-parts m ms e).0
ids-high (m ∷ ms) e (suc i) l = ids-high ms (id-parts m ms e).2 i (omega arith)

ids-apart : (ms : List Meaning) → ids_fit ms ≡ true → (i j : ℕ) → i < length ms → j < length ms → (at ms i).id ≡ (at ms j).id → i ≡ j
ids-apart [] e i j l k f = absurd (omega arith)
ids-apart (m ∷ ms) e zero zero l k f = refl
ids-apart (m ∷ ms) e zero (suc j) l k f = absurd (absent m.id ms (id-parts m ms e).1 j (omega arith) (sym f))
ids-apart (m ∷ ms) e (suc i) zero l k f = absurd (absent m.id ms (id-parts m ms e).1 i (omega arith) f)
ids-apart (m ∷ ms) e (suc i) (suc j) l k f = ap suc (ids-apart ms (id-parts m ms e).2 i j (omega arith) (omega arith) f)

pub granted-bank : (set : Setting) → Granted set → Opened set.opening.bank
granted-bank set g =
    let ms = set.opening.bank in
    let low = leb set.levels 8 in
    let p = and_parts (leb (length ms) 8) (low && ids_fit ms) (granted-fits set g) in
    let ids = (and_parts low (ids_fit ms) p.1).1 in
    record { few = leb-true (length ms) 8 p.0; high = ids-high ms ids; apart = ids-apart ms ids }
