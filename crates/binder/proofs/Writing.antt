-- A column's node behind the others.
use Rattle.std.proofs.Common.{◌≡◌, ℕ, ◌+◌, ◌-◌, ◌<◌, ◌≤◌, min, Bool, true, false, ltb, leb, List, length, take, drop, None, Ok, Err, Result, IfOk, sym, refl, ap, ◌∙◌, subst, arith}
use Rattle.std.proofs.lemmas.Bool.{ltb-false, lt-leb, le-ltb}
use Rattle.std.proofs.lemmas.List.{take_rest, length-drop}
use borrow.Rule.Slice.PartMut.{put_mid, put_same}
use Rattle.packing.specs.Packing.{written_at}
use Rattle.column.specs.declared.refusals.Refusal.{Refusal}
use Rattle.column.specs.declared.refusals.Refusal.TheVariants.{LittleMemory, ManyColumns, LittleSpace}
use Rattle.column.specs.Columns.{Offer, cleaned, offer_refused}
use Rattle.node.specs.Nodes.{Node, leaf, over, fork, flat, whole}
use Rattle.node.proofs.WriteLaws.{rest-written}
use Rattle.levels.specs.Levels.{Bound}
use Rattle.levels.specs.Plans.{working_memory}
use Rattle.calls.specs.Openings.{Setting}
use Rattle.calls.specs.Calls.{State, bound_in, fitting, taken, taken_by, unless, bind_next}
use Rattle.compressor.specs.Compressed.{whole_of, bytes_after}

whole-some : (n : Node) → 1 ≤ whole n
whole-some (leaf h p) = omega arith
whole-some (over h p a) = omega arith
whole-some (fork h p a b) = omega arith

-- an offer that only its scheme or the free bytes can turn away
pub taken-is : (set : Setting) (s : State) (o : Offer) (m : ℕ) → offer_refused o ≡ None → working_memory set.levels (length o.cells) ≤ m → s.count < 64
    → taken set s o m ≡ fitting (length s.bytes - s.used) (bound_in set (cleaned o))
taken-is set s o m e h k =
    let b = fitting (length s.bytes - s.used) (bound_in set (cleaned o)) in
    ap (λ q. taken_by q set s o m) e
    ∙ ap (λ q. unless q LittleMemory (unless (leb 64 s.count) ManyColumns b)) (le-ltb m (working_memory set.levels (length o.cells)) h)
    ∙ ap (λ q. unless q ManyColumns b) (lt-leb 64 s.count k)

module _ (s : State) (start : ℕ) (es : start ≡ min s.used (length s.bytes)) where
  abbrev rest : List ℕ
  rest = take (length s.bytes - start) (drop start s.bytes)

  rest-long : length rest ≡ length s.bytes - s.used
  rest-long = let a = ap length (take_rest s.bytes start) in let b = length-drop start s.bytes in omega arith

  -- what was written there is what the call leaves
  pub written-back : (b : Bound) (part : List ℕ) → part ≡ bytes_after (fitting (length rest) b) rest
      → put_mid start (length s.bytes - start) s.bytes part ≡ (bind_next s (fitting (length s.bytes - s.used) b)).bytes
  written-back b part e = go b (e ∙ ap (λ z. bytes_after (fitting z b) rest) rest-long)
    where
      same : part ≡ rest → put_mid start (length s.bytes - start) s.bytes part ≡ s.bytes
      same f = ap (put_mid start (length s.bytes - start) s.bytes) f ∙ put_same start (length s.bytes - start) s.bytes

      sized : (n : Node) (q : Bool) → ltb (length s.bytes - s.used) (whole n) ≡ q → part ≡ bytes_after (unless q LittleSpace (Ok n)) rest
          → put_mid start (length s.bytes - start) s.bytes part ≡ (bind_next s (unless q LittleSpace (Ok n))).bytes
      sized n true t f = same f
      sized n false t f =
          let w = whole-some n in
          let l = ltb-false (length s.bytes - s.used) (whole n) t in
          let u : start ≡ s.used = omega arith in
          rest-written start (flat n) s.bytes part f ∙ ap (λ i. written_at i (flat n) s.bytes) u

      go : (x : Bound) → part ≡ bytes_after (fitting (length s.bytes - s.used) x) rest → put_mid start (length s.bytes - start) s.bytes part ≡ (bind_next s (fitting (length s.bytes - s.used) x)).bytes
      go (Err r) f = same f
      go (Ok n) f = sized n (ltb (length s.bytes - s.used) (whole n)) refl f

  -- where a node is granted it fits
  pub has-room : (b : Bound) (r : Result ℕ Refusal) → r ≡ whole_of (fitting (length rest) b) → s.count < 64 → IfOk r (λ w. (s.count < 64) × (s.used + w ≤ length s.bytes))
  has-room b r e k = subst (λ x. IfOk x (λ w. (s.count < 64) × (s.used + w ≤ length s.bytes))) (sym (e ∙ ap (λ z. whole_of (fitting z b)) rest-long)) (go b)
    where
      sized : (n : Node) (q : Bool) → ltb (length s.bytes - s.used) (whole n) ≡ q → IfOk (whole_of (unless q LittleSpace (Ok n))) (λ w. (s.count < 64) × (s.used + w ≤ length s.bytes))
      sized n true t = tt
      sized n false t =
          let w = whole-some n in
          let l = ltb-false (length s.bytes - s.used) (whole n) t in
          (k, omega arith)

      go : (x : Bound) → IfOk (whole_of (fitting (length s.bytes - s.used) x)) (λ w. (s.count < 64) × (s.used + w ≤ length s.bytes))
      go (Err y) = tt
      go (Ok n) = sized n (ltb (length s.bytes - s.used) (whole n)) refl
