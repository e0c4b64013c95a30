-- A walk over a node's bytes lists its tree.
use Rattle.std.proofs.Common.{◌≡◌, ℕ, zero, suc, ◌+◌, ◌-◌, ◌<◌, ◌≤◌, List, [], ◌∷◌, ◌++◌, length, drop, Some, None, sym, refl, ap, ◌∙◌, append_assoc, append-nil, arith, length-append}
use Rattle.std.proofs.lemmas.List.{length-take, length-drop}
use Rattle.node.specs.declared.heads.Header.{Header}
use Rattle.node.specs.Nodes.{Node, leaf, over, fork, payload_of, children_of, head_size, whole, flat, flats, height, Fit}
use Rattle.node.specs.Reading.{payload_length, whole_length, payload_read, after_payload, own_bytes, after_node, header_read, header_of}
use Rattle.node.proofs.HeaderLaws.{header-back, missing, short-children}
use Rattle.node.proofs.NodeBytes.{length-flat, own_back, after-back, payload-alone, children-alone}
use Rattle.tree.specs.declared.Entry.{Entry}
use Rattle.tree.specs.Trees.{entry, preorder, entry_read, below, below_at, next_at, walked, children_walked}

-- ---- no bytes, and too few for a head

pub walk-none : (d l i : ℕ) → walked d l i [] ≡ []
walk-none zero l i = refl
walk-none (suc d) l i = λ j. walk-none d (l + 1) (below_at i []) j ++ walk-none d (l + 1) (next_at (below_at i []) (below [])) j

pub children-none : (d l i : ℕ) → children_walked d l i [] ≡ []
children-none d l i = λ j. walk-none d l i j ++ walk-none d l (next_at i []) j

pub walk-ground : (d l i : ℕ) (bs : List ℕ) → d ≡ 0 → walked d l i bs ≡ entry_read l i (header_read bs)
walk-ground d l i bs e = ap (λ m. walked m l i bs) e

pub walk-step : (d l i : ℕ) (bs : List ℕ) → 0 < d → walked d l i bs ≡ entry_read l i (header_read bs) ++ children_walked (d - 1) (l + 1) (below_at i bs) (below bs)
walk-step zero l i bs h = absurd (omega arith)
walk-step (suc d) l i bs h = ap (λ m. entry_read l i (header_read bs) ++ children_walked m (l + 1) (below_at i bs) (below bs)) (omega arith)

pub walk-short : (d l i : ℕ) (bs : List ℕ) → header_read bs ≡ None → walked d l i bs ≡ []
walk-short zero l i bs e = ap (entry_read l i) e
walk-short (suc d) l i bs e =
    let s = missing bs e in
    let t = length-take (whole_length bs) bs in
    let k : below bs ≡ [] = short-children (own_bytes bs) (omega arith) in
    (λ j. entry_read l i (e j) ++ children_walked d (l + 1) (below_at i bs) (k j)) ∙ children-none d (l + 1) (below_at i bs)

-- ---- a node's bytes and what follows

own-walk : (d l i : ℕ) (n : Node) (rest : List ℕ) → Fit n
    → walked (suc d) l i (flat n ++ rest) ≡ entry l i (header_of n) ∷ children_walked d (l + 1) (i + head_size + length (payload_of n)) (flats (children_of n))
own-walk d l i n rest f =
    let own = own_back n rest f in
    let p : payload_read (own_bytes (flat n ++ rest)) ≡ payload_of n = ap payload_read own ∙ payload-alone n f in
    let k : below (flat n ++ rest) ≡ flats (children_of n) = ap after_payload own ∙ children-alone n f in
    λ j. entry_read l i (header-back n rest f j) ++ children_walked d (l + 1) (i + head_size + length (p j)) (k j)

next-flat : (i : ℕ) (n : Node) (rest : List ℕ) → Fit n → next_at i (flat n ++ rest) ≡ i + whole n
next-flat i n rest f =
    let e = ap length (after-back n rest f) in
    let a = length-append (flat n) rest in
    let l = length-flat n in
    omega arith

pub walk-flat : (d l i : ℕ) (n : Node) (rest : List ℕ) → Fit n → height n ≤ d → walked d l i (flat n ++ rest) ≡ preorder l i n
walk-flat zero l i (leaf h p) rest f g = ap (entry_read l i) (header-back (leaf h p) rest f)
walk-flat zero l i (over h p a) rest f g = absurd (omega arith)
walk-flat zero l i (fork h p a b) rest f g = absurd (omega arith)
walk-flat (suc d) l i (leaf h p) rest f g =
    own-walk d l i (leaf h p) rest f
    ∙ ap (λ (es : List Entry). entry l i (header_of (leaf h p)) ∷ es) (children-none d (l + 1) (i + head_size + length p))
walk-flat (suc d) l i (over h p a) rest f g =
    let k : ℕ = i + head_size + length p in
    let last : walked d (l + 1) (next_at k (flat a ++ [])) (after_node (flat a ++ [])) ≡ [] =
    ap (walked d (l + 1) (next_at k (flat a ++ []))) (after-back a [] f.2) ∙ walk-none d (l + 1) (next_at k (flat a ++ [])) in
    own-walk d l i (over h p a) rest f
    ∙ (λ j. entry l i (header_of (over h p a)) ∷ (walk-flat d (l + 1) k a [] f.2 (omega arith) j ++ last j))
    ∙ ap (λ (es : List Entry). entry l i (header_of (over h p a)) ∷ es) (append-nil (preorder (l + 1) k a))
walk-flat (suc d) l i (fork h p a b) rest f g =
    let k : ℕ = i + head_size + length p in
    let more : List ℕ = flat b ++ [] in
    let last : walked d (l + 1) (next_at k (flat a ++ more)) (after_node (flat a ++ more)) ≡ preorder (l + 1) (k + whole a) b =
    (λ j. walked d (l + 1) (next-flat k a more f.2 j) (after-back a more f.2 j)) ∙ walk-flat d (l + 1) (k + whole a) b [] f.3 (omega arith) in
    own-walk d l i (fork h p a b) rest f
    ∙ (λ j. entry l i (header_of (fork h p a b)) ∷ (walk-flat d (l + 1) k a more f.2 (omega arith) j ++ last j))

-- ---- on any bytes

-- head, payload and what follows lie within the bytes
pub below-room : (bs : List ℕ) → head_size ≤ length bs → head_size + length (payload_read (own_bytes bs)) + length (below bs) ≤ length bs
below-room bs h =
    let own = own_bytes bs in
    let o = length-take (whole_length bs) bs in
    let t = length-take (payload_length own) (drop head_size own) in
    let d = length-drop (payload_length own) (drop head_size own) in
    let r = length-drop head_size own in
    omega arith

-- a node pushed, and then its children
pub pushed : (d l i : ℕ) (bs : List ℕ) (h : Header) (old mid new kids : List Entry) → header_read bs ≡ Some h → 0 < d → mid ≡ old ++ (entry l i h ∷ [])
    → kids ≡ children_walked (d - 1) (l + 1) (below_at i bs) (below bs) → new ≡ mid ++ kids → new ≡ old ++ walked d l i bs
pushed d l i bs h old mid new kids e g m k n =
    n ∙ (λ j. m j ++ k j)
    ∙ append_assoc old (entry l i h ∷ []) (children_walked (d - 1) (l + 1) (below_at i bs) (below bs))
    ∙ ap (λ (es : List Entry). old ++ es) (ap (λ o. entry_read l i o ++ children_walked (d - 1) (l + 1) (below_at i bs) (below bs)) (sym e) ∙ sym (walk-step d l i bs g))
