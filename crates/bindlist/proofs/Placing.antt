-- A node that a bind wrote, read again where it was written.
use Rattle.std.proofs.Common.{◌≡◌, ℕ, ◌<◌, ◌≤◌, List, ◌++◌, length, take, drop, Some, Ok, Err, Result, refl, ap, ◌∙◌, subst, arith}
use Rattle.std.proofs.lemmas.List.{length-take-le, take_at, drop_at}
use Rattle.packing.specs.Packing.{written, written_at}
use Rattle.column.specs.declared.refusals.Refusal.{Refusal}
use Rattle.column.specs.Columns.{Offer, cleaned}
use Rattle.column.proofs.InspectLaws.{unrefused}
use Rattle.node.specs.Nodes.{Node, leaf, over, fork, flat, whole, height, Fit}
use Rattle.scheme.specs.Banks.{AllKeep}
use Rattle.dict.specs.DictKeeps.{dict-keeps}
use Rattle.runs.specs.RunsKeeps.{runs-keeps}
use Rattle.frame.specs.FrameLaws.{frame-keeps}
use Rattle.banks.specs.Banks.{house}
use Rattle.levels.specs.Levels.{Bound}
use Rattle.calls.specs.Openings.{Setting}
use Rattle.calls.specs.Calls.{State, Bind, taken, bind_reply, bind_next}
use Rattle.calls.proofs.HeldLaws.{accepted}
use Rattle.calls.proofs.MadeLaws.{made}
use Rattle.tree.specs.Trees.{preorder}
use Rattle.listing.specs.Rows.{rows_text}
use Rattle.bindlist.specs.Printed.{four_levels, memory, unread, printed_by}

house-keeps : AllKeep house
house-keeps = (dict-keeps, (runs-keeps, (frame-keeps, tt)))

whole-some : (n : Node) → 0 < whole n
whole-some (leaf h p) = omega arith
whole-some (over h p a) = omega arith
whole-some (fork h p a b) = omega arith

pub record Placed (s : State) (n : Node) : Type 0 where
  pub fit : Fit n
  pub low : height n ≤ 4
  pub rest : List ℕ
  pub bytes : drop s.used (written_at s.used (flat n) s.bytes) ≡ flat n ++ rest

pub placed : (s : State) (o : Offer) (n : Node) → taken four_levels s o memory ≡ Ok n → Placed s n
placed s o n e =
    let a = accepted four_levels s o memory n e in
    let m = made four_levels house-keeps (omega arith) (cleaned o) n (unrefused o a.unrefused, a.made) in
    let w = whole-some n in
    let f = a.fits in
    record {
      fit = m.holding.fit;
      low = m.holding.low;
      rest = drop (length (flat n)) (drop s.used s.bytes);
      bytes = drop_at (take s.used s.bytes) (written (flat n) (drop s.used s.bytes)) s.used (length-take-le s.used s.bytes (omega arith));
    }

-- what a lent slice was left with, where it kept its length
pub kept : (xs old : List ℕ) (n : ℕ) → length xs ≡ n → take n (xs ++ drop (length xs) old) ≡ xs
kept xs old n e = take_at xs (drop (length xs) old) n e

-- ---- the text of a line, from what the bind answers

module _ (set : Setting) (hs : set ≡ four_levels) (m : ℕ) (hm : m ≡ memory) (s t : State) (ht : t ≡ s) (o p : Offer) (hp : p ≡ o) (n : ℕ) where
  at-shelf : (r : Result ℕ Refusal) (u : State) → Bind set t p m r u → Bind four_levels s o memory r u
  at-shelf r u b =
      subst (λ z. Bind four_levels s z memory r u) hp
      (subst (λ z. Bind four_levels z p memory r u) ht (subst (λ z. Bind four_levels t p z r u) hm (subst (λ z. Bind z t p m r u) hs b)))

  pub refused-text : (e : Refusal) (u : State) → Bind set t p m (Err e) u → unread n ≡ printed_by s n (Some (taken four_levels s o memory))
  refused-text e u b = go (taken four_levels s o memory) (at-shelf (Err e) u b).answer
    where
      go : (x : Bound) → Err e ≡ bind_reply s x → unread n ≡ printed_by s n (Some x)
      go (Err f) q = refl
      go (Ok k) q = absurd (let z : ◌≡◌ {A = ℕ} 0 1 = cc in omega arith)

  pub bound-text : (i : ℕ) (u : State) → Bind set t p m (Ok i) u → (bs : List ℕ) → bs ≡ drop s.used u.bytes → (text : List ℕ)
      → ((x : Node) (rest : List ℕ) → Fit x → height x ≤ 4 → bs ≡ flat x ++ rest → text ≡ rows_text i (preorder 0 0 x))
      → text ≡ printed_by s n (Some (taken four_levels s o memory))
  bound-text i u b bs at text f =
      let k = at-shelf (Ok i) u b in
      go (taken four_levels s o memory) refl k.answer k.next
    where
      go : (x : Bound) → taken four_levels s o memory ≡ x → Ok i ≡ bind_reply s x → u ≡ bind_next s x → text ≡ printed_by s n (Some x)
      go (Err e) q a v = absurd (let z : ◌≡◌ {A = ℕ} 0 1 = cc in omega arith)
      go (Ok x) q a v =
          let w = placed s o x q in
          let same : i ≡ s.count = cc in
          f x w.rest w.fit w.low (at ∙ ap (λ z. drop s.used z.bytes) v ∙ w.bytes) ∙ ap (λ j. rows_text j (preorder 0 0 x)) same
