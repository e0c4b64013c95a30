-- Two calls alike but for cells under blanks answer the same and leave the same.
use Rattle.std.proofs.Common.{◌≡◌, ℕ, ◌-◌, Bool, true, false, ltb, leb, List, length, Some, None, Ok, Err, Option, Result, sym, refl, ap, ◌∙◌, subst}
use Rattle.std.proofs.lemmas.Bool.{leb-true, leb-false}
use Rattle.std.proofs.lemmas.Option.{same_Some}
use Rattle.column.specs.declared.kinds.Kind.{Kind}
use Rattle.column.specs.declared.kinds.Kind.TheVariants.{U8, U16, U32, U64, I8, I16, I32, I64}
use Rattle.column.specs.declared.refusals.Refusal.{Refusal}
use Rattle.column.specs.declared.refusals.Refusal.TheVariants.{LittleMemory, ManyColumns}
use Rattle.column.specs.Kinds.{number_of, kind_of}
use Rattle.column.specs.Columns.{Column, Offer, cleaned, offer_refused}
use Rattle.column.specs.Views.{Alike}
use Rattle.column.proofs.HiddenLaws.{hidden}
use Rattle.levels.specs.Levels.{Bound}
use Rattle.levels.specs.Plans.{working_memory}
use Rattle.calls.specs.declared.answers.Fetched.{Fetched}
use Rattle.calls.specs.Openings.{Setting, Granted}
use Rattle.calls.specs.Calls.{State, bound_in, unless, fitting, taken_by, taken, bind_reply, bind_next, Held, Lent, Names, short_by, GivenBy, Fetch, weigh_reply}
use Rattle.calls.specs.Runs.{Event, bound, fetched, weighed, Step, AlikeCall, SameReply}
use Rattle.calls.proofs.OpenLaws.{few-levels}
use Rattle.calls.proofs.MadeLaws.{node-begins}

-- ---- bind: it goes by the refusal, the row count and the cleaned column

abbrev taken-from : Option Refusal → Setting → State → ℕ → Column → ℕ → Bound
taken-from (Some e) set s n c m = Err e
taken-from None set s n c m =
    unless (ltb m (working_memory set.levels n)) LittleMemory (unless (leb 64 s.count) ManyColumns (fitting (length s.bytes - s.used) (bound_in set c)))

from-offer : (q : Option Refusal) (set : Setting) (s : State) (o : Offer) (m : ℕ) → taken_by q set s o m ≡ taken-from q set s (length o.cells) (cleaned o) m
from-offer (Some e) set s o m = refl
from-offer None set s o m = refl

same-taken : (set : Setting) (s : State) (o p : Offer) (m k : ℕ) → Alike o p → m ≡ k → taken set s o m ≡ taken set s p k
same-taken set s o p m k a e =
    let h = hidden o p a in
    from-offer (offer_refused o) set s o m
    ∙ (λ i. taken-from (h.1 i) set s (a.rows i) (h.0 i) (e i))
    ∙ sym (from-offer (offer_refused p) set s p k)

-- ---- fetch: the answer names the column, and nothing else is free

number-back : (k : Kind) → kind_of (number_of k) ≡ Some k
number-back U8 = refl
number-back U16 = refl
number-back U32 = refl
number-back U64 = refl
number-back I8 = refl
number-back I16 = refl
number-back I32 = refl
number-back I64 = refl

same-kind : (k l : Kind) → number_of k ≡ number_of l → k ≡ l
same-kind k l e = same_Some k l (sym (number-back k) ∙ ap kind_of e ∙ number-back l)

same-names : (c : Column) (r q : Result Fetched Refusal) → Names c r → Names c q → r ≡ q
same-names c (Err e) q a b = absurd a
same-names c (Ok f) (Err e) a b = absurd b
same-names c (Ok f) (Ok g) a b =
    let k = same-kind f.kind g.kind (a.0 ∙ sym b.0) in
    let n = a.1 ∙ sym b.1 in
    λ i. Ok (record { kind = k i; rows = n i })

same-given : (short : Option Refusal) (c : Column) (x : Lent) (r q : Result Fetched Refusal) (y w : Lent) → GivenBy short c x r y → GivenBy short c x q w → (r ≡ q) × (y ≡ w)
same-given (Some e) c x r q y w a b = (a.0 ∙ sym b.0, a.1 ∙ sym b.1)
same-given None c x r q y w a b = (same-names c r q a.0 b.0, a.1 ∙ sym b.1)

same-fetch : (set : Setting) → Granted set → (s : State) (cs : List Column) → Held set s cs → (i m : ℕ) (x : Lent) (r q : Result Fetched Refusal) (y w : Lent)
    → Fetch set s i m x r y → Fetch set s i m x q w → (r ≡ q) × (y ≡ w)
same-fetch set g s cs h i m x r q y w a b = go (leb s.count i) refl
  where
    go : (t : Bool) → leb s.count i ≡ t → (r ≡ q) × (y ≡ w)
    go true e =
        let l = leb-true s.count i e in
        let u = a.unknown l in
        let v = b.unknown l in
        (u.0 ∙ sym v.0, u.1 ∙ sym v.1)
    go false e =
        let n = node-begins set g.keep.bank (few-levels set g) s cs h i (leb-false s.count i e) in
        let c = n.column in
        same-given (short_by set (length c.rows) x m) c x r q y w (a.given cs h c n.number) (b.given cs h c n.number)

-- ---- any call

pub same-call : (set : Setting) → Granted set → (s : State) (cs : List Column) → Held set s cs → (e f : Event) (t v : State)
    → Step set s e t → Step set s f v → AlikeCall e f → SameReply e f × (t ≡ v)
same-call set g s cs h (bound o m r) (bound p k q) t v a b (l, n) =
    let e = same-taken set s o p m k l n in
    (a.answer ∙ ap (bind_reply s) e ∙ sym b.answer, a.next ∙ ap (bind_next s) e ∙ sym b.next)
same-call set g s cs h (bound o m r) (fetched j k x q w) t v a b l = absurd l
same-call set g s cs h (bound o m r) (weighed j q) t v a b l = absurd l
same-call set g s cs h (fetched i m x r y) (bound p k q) t v a b l = absurd l
same-call set g s cs h (fetched i m x r y) (fetched j k z q w) t v (a, d) (b, e) (i0, (m0, x0)) =
    let c = subst (λ (n : ℕ). Fetch set s n m x q w) (sym i0) (subst (λ (n : ℕ). Fetch set s j n x q w) (sym m0) (subst (λ (n : Lent). Fetch set s j k n q w) (sym x0) b)) in
    (same-fetch set g s cs h i m x r q y w a c, d ∙ sym e)
same-call set g s cs h (fetched i m x r y) (weighed j q) t v a b l = absurd l
same-call set g s cs h (weighed i r) (bound p k q) t v a b l = absurd l
same-call set g s cs h (weighed i r) (fetched j k x q w) t v a b l = absurd l
same-call set g s cs h (weighed i r) (weighed j q) t v (a, d) (b, e) l = (a.answer ∙ ap (weigh_reply set s) l ∙ sym b.answer, d ∙ sym e)
