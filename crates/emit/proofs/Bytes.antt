-- A node's bytes: payload, children and head, each written to its place.
use Rattle.std.proofs.Common.{◌≡◌, ℕ, ◌+◌, ◌-◌, ◌≤◌, Bool, List, [], ◌∷◌, ◌++◌, length, take, drop, sym, refl, ap, ◌∙◌, append_assoc, append-nil, arith, length-append}
use borrow.Rule.Slice.PartMut.{put_mid, same_len_mid}
use Rattle.std.proofs.lemmas.List.{length-take-le, drop_at, drop-drop}
use Rattle.packing.specs.Packing.{written, written_at}
use Rattle.packing.proofs.Written.{written_at-++}
use Rattle.column.specs.declared.kinds.Kind.{Kind}
use Rattle.column.specs.declared.views.View.{View}
use Rattle.column.specs.Kinds.{number_of, width}
use Rattle.column.specs.Columns.{seen, has_blank}
use Rattle.node.specs.Payloads.{flag_by, flag_of}
use Rattle.node.specs.declared.heads.Head.{Head}
use Rattle.node.specs.Nodes.{Node, head_of, payload_of, children_of, head_bytes, head_size, whole, flat, flats}
use Rattle.node.proofs.NodeBytes.{flat-is, whole_is, length-flat, length-flats}
use Rattle.node.proofs.WriteLaws.{rest-written, then-written}
use Rattle.emit.specs.declared.nodes.Written.{Written}
use Rattle.emit.specs.Emitted.{Emitted, AllEmitted, counts}
use Rattle.emit.proofs.Plan.{count_is}

-- a write to the front, before what was written already
front-last : (h b o : List ℕ) (i : ℕ) → length h ≡ i → i ≤ length o → written h (written_at i b o) ≡ written (h ++ b) o
front-last h b o i e le =
    let rest = written b (drop i o) in
    let d : drop (length h) (written_at i b o) ≡ rest = ap (λ k. drop k (written_at i b o)) e ∙ drop_at (take i o) rest i (length-take-le i o le) in
    let l : length (h ++ b) ≡ length b + i = let a = length-append h b in omega arith in
    ap (λ x. h ++ x) d
    ∙ sym (append_assoc h b (drop (length b) (drop i o)))
    ∙ ap (λ x. (h ++ b) ++ x) (drop-drop (length b) i o ∙ ap (λ k. drop k o) (let z : i + length b ≡ length (h ++ b) = omega arith in z))

-- a write from place i on keeps the length
pub length-put : (i : ℕ) (o part : List ℕ) → length part ≡ length (take (length o - i) (drop i o)) → length (put_mid i (length o - i) o part) ≡ length o
length-put i o part e = same_len_mid i (length o - i) o part e

pub masked-is : (f : ℕ) (v : View) (k : Kind) (b : Bool) (rows : ℕ) (h : Head) → k ≡ v.kind → b ≡ has_blank (seen v).rows → rows ≡ length (seen v).rows
    → h ≡ record { form = f; kind = number_of k; cell_bits = width (number_of k); flag = flag_by b; rows = rows }
    → ◌≡◌ {A = Head} (record { form = f; kind = number_of v.kind; cell_bits = width (number_of v.kind); flag = flag_of (seen v).rows; rows = length (seen v).rows }) h
masked-is f v k b rows h ek eb er e =
    sym (e ∙ (λ j. record { form = f; kind = number_of (ek j); cell_bits = width (number_of (ek j)); flag = flag_by (eb j); rows = er j }))

-- the head last
pub closed : (n : Node) (h : Head) (p : ℕ) (r below : Written) (o0 o2 o3 : List ℕ) → head_of n ≡ h → p ≡ length (payload_of n) → head_size ≤ length o0
    → o2 ≡ written_at head_size (payload_of n ++ flats (children_of n)) o0
    → below.whole ≡ length (flats (children_of n)) → below.nodes ≡ counts (children_of n)
    → r.whole ≡ head_size + p + below.whole → r.nodes ≡ 1 + below.nodes
    → o3 ≡ written (head_bytes h p (head_size + p + below.whole)) o2 → Emitted n r o0 o3
closed n h p r below o0 o2 o3 eh ep le e2 bw bn rw rn e3 =
    let w = whole_is n in
    let lf = length-flats (children_of n) in
    let c = count_is n in
    let t : head_size + p + below.whole ≡ whole n = omega arith in
    let H = head_bytes (head_of n) (length (payload_of n)) (whole n) in
    let B = payload_of n ++ flats (children_of n) in
    let eH : head_bytes h p (head_size + p + below.whole) ≡ H = (λ j. head_bytes (sym eh j) (ep j) (t j)) in
    record {
      whole = rw ∙ t;
      nodes = omega arith;
      bytes = e3 ∙ (λ j. written (eH j) (e2 j)) ∙ front-last H B o0 head_size refl le ∙ ap (λ x. written x o0) (sym (flat-is n));
    }

-- a node without children
pub leaf-closed : (n : Node) (h : Head) (p : ℕ) (r below : Written) (o0 o3 part : List ℕ) → children_of n ≡ [] → head_of n ≡ h → p ≡ length (payload_of n)
    → head_size ≤ length o0 → part ≡ written (payload_of n) (take (length o0 - head_size) (drop head_size o0))
    → below.whole ≡ 0 → below.nodes ≡ 0 → r.whole ≡ head_size + p + below.whole → r.nodes ≡ 1 + below.nodes
    → o3 ≡ written (head_bytes h p (head_size + p + below.whole)) (put_mid head_size (length o0 - head_size) o0 part) → Emitted n r o0 o3
leaf-closed n h p r below o0 o3 part ek eh ep le e1 bw bn rw rn e3 =
    let f : flats (children_of n) ≡ [] = ap flats ek in
    let q : payload_of n ++ flats (children_of n) ≡ payload_of n = ap (λ x. payload_of n ++ x) f ∙ append-nil (payload_of n) in
    closed n h p r below o0 (put_mid head_size (length o0 - head_size) o0 part) o3 eh ep le
    (rest-written head_size (payload_of n) o0 part e1 ∙ ap (λ x. written_at head_size x o0) (sym q))
    (bw ∙ sym (ap length f)) (bn ∙ sym (ap counts ek)) rw rn e3

-- payload, then children
pub over-closed : (n : Node) (h : Head) (p : ℕ) (r below : Written) (o0 o1 o3 part part1 : List ℕ) → head_of n ≡ h → p ≡ length (payload_of n)
    → head_size ≤ length o0 → part ≡ written (payload_of n) (take (length o0 - head_size) (drop head_size o0))
    → o1 ≡ put_mid head_size (length o0 - head_size) o0 part
    → AllEmitted (children_of n) below (take (length o1 - (head_size + p)) (drop (head_size + p) o1)) part1
    → r.whole ≡ head_size + p + below.whole → r.nodes ≡ 1 + below.nodes
    → o3 ≡ written (head_bytes h p (head_size + p + below.whole)) (put_mid (head_size + p) (length o1 - (head_size + p)) o1 part1) → Emitted n r o0 o3
over-closed n h p r below o0 o1 o3 part part1 eh ep le e1 em k rw rn e3 =
    let C = flats (children_of n) in
    let P = payload_of n in
    let m1 : o1 ≡ written_at head_size P o0 = em ∙ rest-written head_size P o0 part e1 in
    let m2 : put_mid (head_size + p) (length o1 - (head_size + p)) o1 part1 ≡ written_at (head_size + p) C o1 = rest-written (head_size + p) C o1 part1 k.bytes in
    let m3 : written_at (head_size + p) C o1 ≡ written_at head_size (P ++ C) o0 =
    (λ j. written_at (head_size + ep j) C (m1 j)) ∙ sym (written_at-++ head_size P C o0 le) in
    closed n h p r below o0 (put_mid (head_size + p) (length o1 - (head_size + p)) o1 part1) o3 eh ep le (m2 ∙ m3) k.whole k.nodes rw rn e3

-- ---- children, one after the other

pub none-emitted : (r : Written) (o : List ℕ) → r.whole ≡ 0 → r.nodes ≡ 0 → AllEmitted [] r o o
none-emitted r o w k = record { whole = w; nodes = k; bytes = refl }

pub one-emitted : (a : Node) (r : Written) (o0 o1 : List ℕ) → Emitted a r o0 o1 → AllEmitted (a ∷ []) r o0 o1
one-emitted a r o0 o1 e =
    let f = append-nil (flat a) in
    let l = ap length f in
    let k = length-flat a in
    let w = e.whole in
    let n = e.nodes in
    record { whole = omega arith; nodes = omega arith; bytes = e.bytes ∙ ap (λ x. written x o0) (sym f) }

pub two-emitted : (a b : Node) (r0 r1 r : Written) (o0 o1 part : List ℕ) → Emitted a r0 o0 o1
    → Emitted b r1 (take (length o1 - r0.whole) (drop r0.whole o1)) part
    → r.whole ≡ r0.whole + r1.whole → r.nodes ≡ r0.nodes + r1.nodes
    → AllEmitted (a ∷ (b ∷ [])) r o0 (put_mid r0.whole (length o1 - r0.whole) o1 part)
two-emitted a b r0 r1 r o0 o1 part x y w k =
    let f : flat a ++ flat b ≡ flats (a ∷ (b ∷ [])) = ap (λ z. flat a ++ z) (sym (append-nil (flat b))) in
    let l = ap length f in
    let d = length-append (flat a) (flat b) in
    let i = length-flat a in
    let j = length-flat b in
    let w0 = x.whole in
    let w1 = y.whole in
    let k0 = x.nodes in
    let k1 = y.nodes in
    record {
      whole = omega arith;
      nodes = omega arith;
      bytes = then-written (flat a) (flat b) o0 o1 part r0.whole (omega arith) x.bytes y.bytes ∙ ap (λ z. written z o0) f;
    }
