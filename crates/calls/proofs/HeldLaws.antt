-- What a binder holds after a bind that was accepted.
use Rattle.std.proofs.Common.{◌≡◌, ℕ, ◌-◌, ◌≤◌, Bool, true, false, ltb, leb, List, [], ◌∷◌, ◌++◌, length, take, drop, replicate, Some, None, Ok, Err, Option, Result, sym, refl, ap, ◌∙◌, append_assoc, arith, length-append}
use Rattle.std.proofs.lemmas.Bool.{ltb-false}
use Rattle.std.proofs.lemmas.List.{take_at, drop_at, length-replicate}
use Rattle.packing.specs.Packing.{written_at}
use Rattle.column.specs.declared.refusals.Refusal.{Refusal}
use Rattle.column.specs.declared.refusals.Refusal.TheVariants.{LittleMemory, ManyColumns, LittleSpace}
use Rattle.column.specs.Columns.{Column, Clean, Offer, cleaned, offer_refused}
use Rattle.column.proofs.InspectLaws.{unrefused}
use Rattle.node.specs.Nodes.{Node, flat, flats, whole}
use Rattle.node.proofs.NodeBytes.{length-flat}
use Rattle.levels.specs.Levels.{Bound}
use Rattle.levels.specs.Plans.{working_memory}
use Rattle.calls.specs.Openings.{Setting}
use Rattle.calls.specs.Calls.{State, opened, bound_in, unless, fitting, taken_by, taken, bind_next, Held}
use Rattle.calls.proofs.NodeLists.{drop-replicate, length-more, flats-more, each-more}

-- ---- what an accepted offer says

pub unless-ok : {A : Type 0} (q : Bool) (e : Refusal) (r : Result A Refusal) (x : A) → unless q e r ≡ Ok x → (q ≡ false) × (r ≡ Ok x)
unless-ok true e r x h = absurd (let z : ◌≡◌ {A = ℕ} 0 1 = cc in omega arith)
unless-ok false e r x h = (refl, h)

pub record Accepted (set : Setting) (s : State) (o : Offer) (n : Node) : Type 0 where
  pub unrefused : offer_refused o ≡ None
  pub made : bound_in set (cleaned o) ≡ Ok n
  pub fits : whole n ≤ length s.bytes - s.used

fitting-ok : (free : ℕ) (b : Bound) (n : Node) → fitting free b ≡ Ok n → (b ≡ Ok n) × (whole n ≤ free)
fitting-ok free (Err e) n h = absurd (let z : ◌≡◌ {A = ℕ} 0 1 = cc in omega arith)
fitting-ok free (Ok k) n h =
    let u = unless-ok (ltb free (whole k)) LittleSpace (Ok k) n h in
    let e : k ≡ n = let g = u.1 in cc in
    let f = ltb-false free (whole k) u.0 in
    let w = ap whole e in
    (u.1, omega arith)

pub accepted : (set : Setting) (s : State) (o : Offer) (m : ℕ) (n : Node) → taken set s o m ≡ Ok n → Accepted set s o n
accepted set s o m n h = go (offer_refused o) refl h
  where
    go : (q : Option Refusal) → offer_refused o ≡ q → taken_by q set s o m ≡ Ok n → Accepted set s o n
    go (Some e) g f = absurd (let z : ◌≡◌ {A = ℕ} 0 1 = cc in omega arith)
    go None g f =
        let fit = fitting (length s.bytes - s.used) (bound_in set (cleaned o)) in
        let a = unless-ok (ltb m (working_memory set.levels (length o.cells))) LittleMemory (unless (leb 64 s.count) ManyColumns fit) n f in
        let b = unless-ok (leb 64 s.count) ManyColumns fit n a.1 in
        let c = fitting-ok (length s.bytes - s.used) (bound_in set (cleaned o)) n b.1 in
        record { unrefused = g; made = c.0; fits = c.1 }

-- ---- the columns held, over as many bytes as the binder was opened over

pub record Holds (set : Setting) (room : ℕ) (s : State) (cs : List Column) : Type 0 where
  pub held : Held set s cs
  pub size : length s.bytes ≡ room

pub none-held : (set : Setting) (room : ℕ) → Holds set room (opened room) []
none-held set room = record {
  held = record { nodes = []; made = tt; count = refl; used = refl; layout = ap (λ n. replicate n 0) (let l = length-replicate {A = ℕ} room 0 in omega arith) };
  size = length-replicate room 0;
}

-- the bytes after a node is written after those used
placed : (bytes ns : List ℕ) (n : Node) (used : ℕ) → bytes ≡ ns ++ replicate (length bytes - used) 0 → used ≡ length ns
    → written_at used (flat n) bytes ≡ (ns ++ flat n) ++ replicate (length bytes - used - whole n) 0
placed bytes ns n used e u =
    let z = length bytes - used in
    let front : take used bytes ≡ ns = ap (take used) e ∙ take_at ns (replicate z 0) used (sym u) in
    let back : drop used bytes ≡ replicate z 0 = ap (drop used) e ∙ drop_at ns (replicate z 0) used (sym u) in
    (λ i. front i ++ (flat n ++ drop (length-flat n i) (back i)))
    ∙ ap (λ x. ns ++ (flat n ++ x)) (drop-replicate (whole n) z 0)
    ∙ sym (append_assoc ns (flat n) (replicate (z - whole n) 0))

-- as many bytes as before
placed-length : (bytes ns : List ℕ) (n : Node) (used : ℕ) → bytes ≡ ns ++ replicate (length bytes - used) 0 → used ≡ length ns
    → whole n ≤ length bytes - used → length (written_at used (flat n) bytes) ≡ length bytes
placed-length bytes ns n used e u fit =
    let z = length bytes - used in
    let a = ap length (placed bytes ns n used e u) in
    let b = length-append (ns ++ flat n) (replicate (z - whole n) 0) in
    let c = length-append ns (flat n) in
    let d = length-replicate {A = ℕ} (z - whole n) 0 in
    let f = length-flat n in
    let g = ap length e in
    let h = length-append ns (replicate z 0) in
    let i = length-replicate {A = ℕ} z 0 in
    omega arith

pub one-more : (set : Setting) (room : ℕ) (s : State) (cs : List Column) → Holds set room s cs → (o : Offer) (n : Node) → Accepted set s o n
    → Holds set room (bind_next s (Ok n)) (cs ++ (cleaned o ∷ []))
one-more set room s cs h o n a =
    let ns = h.held.nodes in
    let all = ns ++ (n ∷ []) in
    let t = bind_next s (Ok n) in
    let z = length s.bytes - s.used in
    let more = flats-more ns n in
    let lay = placed s.bytes (flats ns) n s.used h.held.layout h.held.used ∙ ap (λ x. x ++ replicate (z - whole n) 0) (sym more) in
    let size = placed-length s.bytes (flats ns) n s.used h.held.layout h.held.used a.fits in
    let lf = length-flat n in
    let la = length-append (flats ns) (flat n) in
    let lm = ap length more in
    let lc = length-more cs (cleaned o) in
    let count = h.held.count in
    let used = h.held.used in
    record {
      held = record {
        nodes = all;
        made = each-more (λ c k. Clean c × (bound_in set c ≡ Ok k)) cs ns (cleaned o) n h.held.made (unrefused o a.unrefused, a.made);
        count = omega arith;
        used = omega arith;
        layout = lay ∙ ap (λ k. flats all ++ replicate k 0) (omega arith);
      };
      size = size ∙ h.size;
    }
