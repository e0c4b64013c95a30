-- The header at the front of bytes.
use Rattle.std.proofs.Common.{◌≡◌, ℕ, ◌<◌, ◌≤◌, max, Bool, true, false, ltb, List, [], ◌++◌, length, take, drop, Some, None, sym, refl, ap, ◌∙◌, arith, length-append}
use Rattle.std.proofs.lemmas.Bool.{ltb-true, ltb-false, lt-ltb, le-ltb}
use Rattle.std.proofs.lemmas.List.{take_all, drop_all}
use Rattle.node.specs.declared.heads.Header.{Header}
use Rattle.node.specs.Nodes.{Node, head_size, flat, Fit}
use Rattle.node.specs.Reading.{payload_length, whole_length, payload_read, after_payload, after_node, header_at, header_by, header_read, header_of}
use Rattle.node.proofs.NodeBytes.{length-flat, whole_is, head-back, payload_length-back, whole_back}

pub short-header : (bs : List ℕ) → length bs < head_size → header_read bs ≡ None
short-header bs h = ap (λ q. header_by q bs) (lt-ltb (length bs) head_size h)

pub long-header : (bs : List ℕ) → head_size ≤ length bs → header_read bs ≡ Some (header_at bs)
long-header bs h = ap (λ q. header_by q bs) (le-ltb (length bs) head_size h)

pub header-back : (n : Node) (rest : List ℕ) → Fit n → header_read (flat n ++ rest) ≡ Some (header_of n)
header-back n rest f =
    let a = length-append (flat n) rest in
    let l = length-flat n in
    let w = whole_is n in
    long-header (flat n ++ rest) (omega arith)
    ∙ (λ i. Some (record { head = head-back n rest f i; payload = payload_length-back n rest f i; whole = whole_back n rest f i }))

-- what a header that was read says of the bytes
pub record Found (bs : List ℕ) (h : Header) : Type 0 where
  pub long : head_size ≤ length bs
  pub payload : h.payload ≡ payload_length bs
  pub whole : h.whole ≡ whole_length bs

pub found : (bs : List ℕ) (h : Header) → header_read bs ≡ Some h → Found bs h
found bs h e = go (ltb (length bs) head_size) refl e
  where
    go : (q : Bool) → ltb (length bs) head_size ≡ q → header_by q bs ≡ Some h → Found bs h
    go true g f = absurd (let z : ◌≡◌ {A = ℕ} 0 1 = cc in omega arith)
    go false g f =
        let s : header_at bs ≡ h = cc in
        record { long = ltb-false (length bs) head_size g; payload = ap (λ x. x.payload) (sym s); whole = ap (λ x. x.whole) (sym s) }

pub missing : (bs : List ℕ) → header_read bs ≡ None → length bs < head_size
missing bs e = go (ltb (length bs) head_size) refl e
  where
    go : (q : Bool) → ltb (length bs) head_size ≡ q → header_by q bs ≡ None → length bs < head_size
    go true g f = ltb-true (length bs) head_size g
    go false g f = absurd (let z : ◌≡◌ {A = ℕ} 0 1 = cc in omega arith)

-- ---- fewer bytes than a head

pub short-rest : (bs : List ℕ) → length bs < head_size → drop head_size bs ≡ []
short-rest bs h = drop_all head_size bs (omega arith)

pub short-payload : (bs : List ℕ) → length bs < head_size → payload_read bs ≡ []
short-payload bs h = ap (take (payload_length bs)) (short-rest bs h) ∙ take_all (payload_length bs) [] (omega arith)

pub short-children : (bs : List ℕ) → length bs < head_size → after_payload bs ≡ []
short-children bs h = ap (drop (payload_length bs)) (short-rest bs h) ∙ drop_all (payload_length bs) [] (omega arith)

pub short-after : (bs : List ℕ) → length bs < head_size → after_node bs ≡ []
short-after bs h = drop_all (max head_size (whole_length bs)) bs (omega arith)
