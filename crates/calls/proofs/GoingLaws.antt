-- Every call has an answer that meets its contract.
use Rattle.std.proofs.Common.{◌≡◌, ℕ, zero, suc, ◌^◌, ◌<◌, ◌≤◌, Bool, true, false, ◌||◌, ltb, leb, List, [], ◌∷◌, length, drop, slice_get, Some, None, Ok, Err, Option, Result, ◌⊎◌, inl, inr, sym, refl, ap, ◌∙◌, subst, arith, length-append, length-drop}
use Rattle.std.proofs.lemmas.Bool.{leb-true, leb-false, ltb-false, or_parts}
use Rattle.std.proofs.lemmas.Option.{none-some, same_Some}
use Rattle.packing.specs.Packing.{joined, written}
use Rattle.column.specs.declared.kinds.Kind.{Kind}
use Rattle.column.specs.declared.kinds.Kind.TheVariants.{U8, U16, U32, U64, I8, I16, I32, I64}
use Rattle.column.specs.declared.refusals.Refusal.{Refusal}
use Rattle.column.specs.declared.refusals.Refusal.TheVariants.{UnknownColumn, ShortBuffers, LittleMemory}
use Rattle.column.specs.Kinds.{number_of}
use Rattle.column.specs.Columns.{Column, Clean, bits, cells, presence, words_for}
use Rattle.column.proofs.RowLaws.{clean-kind, length-cells, length_digits}
use Rattle.node.specs.Nodes.{Node}
use Rattle.levels.specs.NodesOf.{Each}
use Rattle.levels.specs.Plans.{working_memory}
use Rattle.calls.specs.declared.answers.Fetched.{Fetched}
use Rattle.calls.specs.Openings.{Setting, Granted}
use Rattle.calls.specs.Calls.{State, opened, bound_in, taken, bind_reply, bind_next, weigh_reply, Held, Lent, filled_with, short_if, short_by, GivenBy, Given, Astray, Fetch}
use Rattle.calls.specs.Going.{BytesFix, RunsGoOn}
use Rattle.calls.proofs.OpenLaws.{few-levels, granted-bank}
use Rattle.calls.proofs.NodeLists.{each-map, past-end}
use Rattle.calls.proofs.HeldLaws.{none-held}
use Rattle.calls.proofs.MadeLaws.{made}
use Rattle.calls.proofs.RunLaws.{held-last}
use Rattle.calls.proofs.SameBytes.{Readable, columns-same, column-same}

-- ---- the columns are fixed

readable : (set : Setting) → Granted set → (c : Column) (n : Node) → Clean c × (bound_in set c ≡ Ok n) → Readable set.opening.bank set.levels c n
readable set g c n p =
    let h = (made set g.keep.bank (few-levels set g) c n p).holding in
    record { of = h.of; clean = p.0; fit = h.fit }

pub bytes-fix : BytesFix
bytes-fix set g s cs ds a b =
    let ms = set.opening.bank in
    let P : Column → Node → Type 0 = λ c n. Clean c × (bound_in set c ≡ Ok n) in
    let R = Readable ms set.levels in
    columns-same ms g.keep.bank (granted-bank set g) set.levels (column-same ms g.keep.bank (granted-bank set g) set.levels) cs ds a.nodes b.nodes _ _
    (each-map P R (readable set g) cs a.nodes a.made) (each-map P R (readable set g) ds b.nodes b.made) (sym a.count ∙ b.count) (sym a.layout ∙ b.layout)

-- ---- what a fetch may answer

named : (n : ℕ) → n ≤ 7 → (k : Kind) × (number_of k ≡ n)
named zero h = (U8, refl)
named (suc zero) h = (U16, refl)
named (suc (suc zero)) h = (U32, refl)
named (suc (suc (suc zero))) h = (U64, refl)
named (suc (suc (suc (suc zero)))) h = (I8, refl)
named (suc (suc (suc (suc (suc zero))))) h = (I16, refl)
named (suc (suc (suc (suc (suc (suc zero)))))) h = (I32, refl)
named (suc (suc (suc (suc (suc (suc (suc zero))))))) h = (I64, refl)
named (suc (suc (suc (suc (suc (suc (suc (suc n)))))))) h = absurd (omega arith)

-- an answer with what it leaves in the places, by the contract of a held column
record Answer (set : Setting) (c : Column) (m : ℕ) (x : Lent) : Type 0 where
  pub reply : Result Fetched Refusal
  pub left : Lent
  pub given : Given set c x m reply left
  pub astray : Astray x reply left

own-refusal : {e : Refusal} (p q : Bool) → short_if p q ≡ Some e → (e ≡ UnknownColumn) ⊎ ((e ≡ ShortBuffers) ⊎ (e ≡ LittleMemory))
own-refusal true q f = inr (inl cc)
own-refusal false true f = inr (inr cc)
own-refusal false false f = absurd (none-some _ f)

enough : (p q : Bool) → short_if p q ≡ None → (p ≡ false) × (q ≡ false)
enough true q e = absurd (none-some _ (sym e))
enough false true e = absurd (none-some _ (sym e))
enough false false e = (refl, refl)

answer : (set : Setting) (c : Column) → Clean c → (m : ℕ) (x : Lent) → Answer set c m x
answer set c cl m x = go (short_by set (length c.rows) x m) refl
  where
    n : ℕ
    n = length c.rows

    go : (q : Option Refusal) → short_by set n x m ≡ q → Answer set c m x
    go (Some e) f = record { reply = Err e; left = x; given = subst (λ q. GivenBy q c x (Err e) x) (sym f) (refl, refl); astray = (refl, own-refusal _ _ f) }
    go None f =
        let k = named c.kind (clean-kind c cl) in
        let few = enough (ltb (length x.cells) n || ltb (length x.words) (words_for n)) (ltb m (working_memory set.levels n)) f in
        let room = or_parts (ltb (length x.cells) n) (ltb (length x.words) (words_for n)) few.0 in
        let a = ltb-false (length x.cells) n room.0 in
        let b = ltb-false (length x.words) (words_for n) room.1 in
        let r : Result Fetched Refusal = Ok (record { kind = k.0; rows = n }) in
        record { reply = r; left = filled_with c x; given = subst (λ q. GivenBy q c x r (filled_with c x)) (sym f) ((k.1, refl), refl); astray = record { rows = c.rows; count = refl; cells_fit = a; words_fit = b; filled = refl } }

clean-at : (P : Column → Node → Type 0) → ((c : Column) (n : Node) → P c n → Clean c) → (cs : List Column) (ns : List Node) → Each P cs ns → (i : ℕ) → i < length cs
    → (c : Column) × ((slice_get cs i ≡ Some c) × Clean c)
clean-at P f [] ns e i l = absurd (omega arith)
clean-at P f (c ∷ cs) [] e i l = absurd e
clean-at P f (c ∷ cs) (n ∷ ns) e zero l = (c, (refl, f c n e.0))
clean-at P f (c ∷ cs) (n ∷ ns) e (suc i) l = clean-at P f cs ns e.1 i (omega arith)

-- a fetch of a column held, by what is said of that column
pub held-fetch : (set : Setting) → Granted set → (s : State) (cs : List Column) → Held set s cs → (i : ℕ) (c : Column) → slice_get cs i ≡ Some c → i < s.count
    → (m : ℕ) (x : Lent) (r : Result Fetched Refusal) (y : Lent) → Given set c x m r y → Astray x r y → Fetch set s i m x r y
held-fetch set g s cs h i c e l m x r y a b = record {
  unknown = λ w. absurd (omega arith);
  given = λ ds k d f.
      let same = same_Some c d (sym e ∙ ap (λ z. slice_get z i) (bytes-fix set g s cs ds h k) ∙ f) in
      subst (λ z. Given set z x m r y) same a;
  astray = b;
}

past-fetch : (set : Setting) (s : State) (i m : ℕ) (x : Lent) → s.count ≤ i → Fetch set s i m x (Err UnknownColumn) x
past-fetch set s i m x l = record {
  unknown = λ _. (refl, refl);
  given = λ ds k c f. absurd (none-some c (sym (past-end ds i (let n = k.count in omega arith)) ∙ f));
  astray = (refl, inl refl);
}

can-fetch : (set : Setting) → Granted set → (s : State) (cs : List Column) → Held set s cs → (i m : ℕ) (x : Lent) → (r : Result Fetched Refusal) × ((y : Lent) × Fetch set s i m x r y)
can-fetch set g s cs h i m x = go (leb s.count i) refl
  where
    go : (q : Bool) → leb s.count i ≡ q → (r : Result Fetched Refusal) × ((y : Lent) × Fetch set s i m x r y)
    go true e = (Err UnknownColumn, (x, past-fetch set s i m x (leb-true s.count i e)))
    go false e =
        let l = leb-false s.count i e in
        let c = clean-at (λ b n. Clean b × (bound_in set b ≡ Ok n)) (λ b n p. p.0) cs h.nodes h.made i (let n = h.count in omega arith) in
        let a = answer set c.0 c.1.1 m x in
        (a.reply, (a.left, held-fetch set g s cs h i c.0 c.1.0 l m x a.reply a.left a.given a.astray))

pub runs-go-on : RunsGoOn
runs-go-on set g room es u p =
    let h = held-last set g room (opened room) [] (none-held set room) es u p in
    record {
      binds = λ o m. (bind_reply u (taken set u o m), (bind_next u (taken set u o m), record { answer = refl; next = refl }));
      fetches = can-fetch set g u _ h.held;
      weighs = λ i. (weigh_reply set u i, record { answer = refl });
    }
