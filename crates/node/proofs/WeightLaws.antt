-- The weight that is read from a node's bytes is its weight.
use Rattle.std.proofs.Common.{◌≡◌, ℕ, zero, suc, ◌+◌, ◌-◌, ◌<◌, ◌≤◌, max, List, [], ◌++◌, length, drop, refl, ap, ◌∙◌, arith}
use Rattle.std.proofs.lemmas.List.{length-take, length-drop}
use Rattle.node.specs.Nodes.{Node, leaf, over, fork, payload_of, children_of, weight, head_size, flat, flats, height, Fit}
use Rattle.node.specs.Reading.{payload_length, whole_length, payload_read, after_payload, own_bytes, after_node, weight_read}
use Rattle.node.proofs.HeaderLaws.{short-payload, short-children}
use Rattle.node.proofs.NodeBytes.{own_back, after-back, payload-alone, children-alone}

pub weigh-none : (l : ℕ) → weight_read l [] ≡ 0
weigh-none zero = refl
weigh-none (suc l) = let e = weigh-none l in omega arith

-- by payload and what follows it, of the node's own bytes
abbrev pub parts : ℕ → List ℕ → ℕ
parts l bs = length (payload_read bs) + weight_read l (after_payload bs) + weight_read l (after_node (after_payload bs))

pub weigh-step : (l : ℕ) (bs : List ℕ) → 0 < l → weight_read l bs ≡ parts (l - 1) (own_bytes bs)
weigh-step zero bs h = absurd (omega arith)
weigh-step (suc l) bs h = ap (λ m. parts m (own_bytes bs)) (omega arith)

-- no children
pub weigh-leaf : (l : ℕ) (bs : List ℕ) → after_payload (own_bytes bs) ≡ [] → weight_read l bs ≡ length (payload_read (own_bytes bs))
weigh-leaf zero bs e = refl
weigh-leaf (suc l) bs e =
    let z = weigh-none l in
    ap (λ cs. length (payload_read (own_bytes bs)) + weight_read l cs + weight_read l (after_node cs)) e ∙ omega arith

-- ---- a node's bytes and what follows

own-weight : (l : ℕ) (n : Node) (rest : List ℕ) → Fit n → weight_read (suc l) (flat n ++ rest)
    ≡ length (payload_of n) + weight_read l (flats (children_of n)) + weight_read l (after_node (flats (children_of n)))
own-weight l n rest f =
    ap (parts l) (own_back n rest f)
    ∙ (λ i. length (payload-alone n f i) + weight_read l (children-alone n f i) + weight_read l (after_node (children-alone n f i)))

pub weigh-flat : (l : ℕ) (n : Node) (rest : List ℕ) → Fit n → height n ≤ l → weight_read l (flat n ++ rest) ≡ weight n
weigh-flat zero (leaf h p) rest f g = ap (λ bs. length (payload_read bs)) (own_back (leaf h p) rest f) ∙ ap length (payload-alone (leaf h p) f)
weigh-flat zero (over h p a) rest f g = absurd (omega arith)
weigh-flat zero (fork h p a b) rest f g = absurd (omega arith)
weigh-flat (suc l) (leaf h p) rest f g = own-weight l (leaf h p) rest f ∙ (let z = weigh-none l in omega arith)
weigh-flat (suc l) (over h p a) rest f g =
    own-weight l (over h p a) rest f
    ∙ (λ i. length p + weigh-flat l a [] f.2 (omega arith) i + (ap (weight_read l) (after-back a [] f.2) ∙ weigh-none l) i)
    ∙ omega arith
weigh-flat (suc l) (fork h p a b) rest f g =
    own-weight l (fork h p a b) rest f
    ∙ (λ i. length p + weigh-flat l a (flat b ++ []) f.2 (omega arith) i + (ap (weight_read l) (after-back a (flat b ++ []) f.2) ∙ weigh-flat l b [] f.3 (omega arith)) i)

-- ---- on any bytes

-- payload and what follows it stand after the head
parted : (bs : List ℕ) → length (payload_read bs) + length (after_payload bs) ≡ length bs - head_size
parted bs =
    let t = length-take (payload_length bs) (drop head_size bs) in
    let d = length-drop (payload_length bs) (drop head_size bs) in
    let h = length-drop head_size bs in
    omega arith

pub weigh-le : (l : ℕ) (bs : List ℕ) → weight_read l bs ≤ length (own_bytes bs)
weigh-le zero bs = let p = parted (own_bytes bs) in omega arith
weigh-le (suc l) bs =
    let cs = after_payload (own_bytes bs) in
    let p = parted (own_bytes bs) in
    let a = weigh-le l cs in
    let b = weigh-le l (after_node cs) in
    let t = length-take (whole_length cs) cs in
    let u = length-take (whole_length (after_node cs)) (after_node cs) in
    let d = length-drop (max head_size (whole_length cs)) cs in
    omega arith

pub weigh-within : (l : ℕ) (bs : List ℕ) → weight_read l bs ≤ length bs
weigh-within l bs = let w = weigh-le l bs in let t = length-take (whole_length bs) bs in omega arith

pub weigh-short : (l : ℕ) (bs : List ℕ) → length bs < head_size → weight_read l bs ≡ 0
weigh-short l bs h =
    let t = length-take (whole_length bs) bs in
    let short : length (own_bytes bs) < head_size = omega arith in
    weigh-leaf l bs (short-children (own_bytes bs) short) ∙ ap length (short-payload (own_bytes bs) short)

-- what follows the payload is shorter than the bytes
pub children-shorter : (bs : List ℕ) → 0 < length bs → length (after_payload (own_bytes bs)) < length bs
children-shorter bs h =
    let p = parted (own_bytes bs) in
    let t = length-take (whole_length bs) bs in
    omega arith

pub child-1-shorter : (cs : List ℕ) → length (after_node cs) ≤ length cs
child-1-shorter cs = let d = length-drop (max head_size (whole_length cs)) cs in omega arith
