-- A node's bytes, read back part by part, whatever follows.
use Rattle.std.proofs.Common.{◌≡◌, ℕ, suc, ◌+◌, ◌^◌, ◌<◌, ◌≤◌, max, List, [], ◌∷◌, ◌++◌, length, take, drop, sym, refl, ap, ◌∙◌, subst, append_assoc, append-nil, zero-lt-suc, arith, length-append}
use lib.Seq.{take-append_seam, drop-append_seam}
use Rattle.std.specs.List.{AllByRecursion}
use Rattle.std.proofs.lemmas.List.{take_at, drop_at}
use Rattle.packing.specs.Packing.{joined, digits, Below}
use Rattle.packing.proofs.Digits.{below-digits, joined-digits}
use Rattle.packing.proofs.Below.{below-append}
use Rattle.node.specs.declared.heads.Head.{Head}
use Rattle.node.specs.Nodes.{Node, leaf, over, fork, head_of, payload_of, children_of, weight, head_size, head_bytes, laid, whole, flat, flats, height, node_over, FitHead, Fit}
use Rattle.node.specs.Reading.{head_read, payload_length, whole_length, payload_read, after_payload, own_bytes, after_node}

abbrev pub wholes : List Node → ℕ
wholes [] = 0
wholes (n ∷ ns) = whole n + wholes ns

abbrev pub weights : List Node → ℕ
weights [] = 0
weights (n ∷ ns) = weight n + weights ns

-- ---- a node by its head, payload and children

pub flat-is : (n : Node) → flat n ≡ laid (head_bytes (head_of n) (length (payload_of n)) (whole n)) (payload_of n) (flats (children_of n))
flat-is (leaf h p) = refl
flat-is (over h p a) = ap (laid (head_bytes h (length p) (whole (over h p a))) p) (sym (append-nil (flat a)))
flat-is (fork h p a b) = ap (λ k. laid (head_bytes h (length p) (whole (fork h p a b))) p (flat a ++ k)) (sym (append-nil (flat b)))

pub whole_is : (n : Node) → whole n ≡ head_size + length (payload_of n) + wholes (children_of n)
whole_is (leaf h p) = omega arith
whole_is (over h p a) = omega arith
whole_is (fork h p a b) = omega arith

pub weight_is : (n : Node) → weight n ≡ length (payload_of n) + weights (children_of n)
weight_is (leaf h p) = omega arith
weight_is (over h p a) = omega arith
weight_is (fork h p a b) = omega arith

pub length-head_bytes : (h : Head) (p w : ℕ) → length (head_bytes h p w) ≡ head_size
length-head_bytes h p w = refl

pub length-flat : (n : Node) → length (flat n) ≡ whole n
length-flat (leaf h p) = let e = length-append p [] in omega arith
length-flat (over h p a) = let e = length-append p (flat a) in let f = length-flat a in omega arith
length-flat (fork h p a b) =
    let e = length-append p (flat a ++ flat b) in
    let g = length-append (flat a) (flat b) in
    let f = length-flat a in
    let i = length-flat b in
    omega arith

pub length-flats : (ns : List Node) → length (flats ns) ≡ wholes ns
length-flats [] = refl
length-flats (n ∷ ns) = let e = length-append (flat n) (flats ns) in let f = length-flat n in let g = length-flats ns in omega arith

-- ---- a node over given children, at most two

pub over-head : (h : Head) (p : List ℕ) (ns : List Node) → head_of (node_over h p ns) ≡ h
over-head h p [] = refl
over-head h p (a ∷ []) = refl
over-head h p (a ∷ (b ∷ ns)) = refl

pub over-payload : (h : Head) (p : List ℕ) (ns : List Node) → payload_of (node_over h p ns) ≡ p
over-payload h p [] = refl
over-payload h p (a ∷ []) = refl
over-payload h p (a ∷ (b ∷ ns)) = refl

pub over-children : (h : Head) (p : List ℕ) (ns : List Node) → length ns ≤ 2 → children_of (node_over h p ns) ≡ ns
over-children h p [] l = refl
over-children h p (a ∷ []) l = refl
over-children h p (a ∷ (b ∷ [])) l = refl
over-children h p (a ∷ (b ∷ (c ∷ ns))) l = absurd (omega arith)

pub whole-over : (h : Head) (p : List ℕ) (ns : List Node) → length ns ≤ 2 → whole (node_over h p ns) ≡ head_size + length p + wholes ns
whole-over h p ns l = whole_is (node_over h p ns) ∙ (λ i. head_size + length (over-payload h p ns i) + wholes (over-children h p ns l i))

pub weight-over : (h : Head) (p : List ℕ) (ns : List Node) → length ns ≤ 2 → weight (node_over h p ns) ≡ length p + weights ns
weight-over h p ns l = weight_is (node_over h p ns) ∙ (λ i. length (over-payload h p ns i) + weights (over-children h p ns l i))

pub flat-over : (h : Head) (p : List ℕ) (ns : List Node) → length ns ≤ 2 → flat (node_over h p ns) ≡ laid (head_bytes h (length p) (whole (node_over h p ns))) p (flats ns)
flat-over h p ns l =
    flat-is (node_over h p ns)
    ∙ (λ i. laid (head_bytes (over-head h p ns i) (length (over-payload h p ns i)) (whole (node_over h p ns))) (over-payload h p ns i) (flats (over-children h p ns l i)))

pub height-over : (h : Head) (p : List ℕ) (ns : List Node) (d : ℕ) → AllByRecursion (λ n. height n ≤ d) ns → height (node_over h p ns) ≤ suc d
height-over h p [] d a = omega arith
height-over h p (m ∷ []) d a = let x = a.0 in omega arith
height-over h p (m ∷ (n ∷ ns)) d a = let x = a.0 in let y = a.1.0 in omega arith

-- ---- what fits the head's fields

pub fit-over : (h : Head) (p : List ℕ) (ns : List Node) → FitHead h → whole (node_over h p ns) < 2 ^ 32 → AllByRecursion Fit ns → Fit (node_over h p ns)
fit-over h p [] f w a = (f, w)
fit-over h p (m ∷ []) f w a = (f, w, a.0)
fit-over h p (m ∷ (n ∷ ns)) f w a = (f, w, a.0, a.1.0)

pub fit-head : (n : Node) → Fit n → FitHead (head_of n)
fit-head (leaf h p) f = f.0
fit-head (over h p a) f = f.0
fit-head (fork h p a b) f = f.0

pub fit-whole : (n : Node) → Fit n → whole n < 2 ^ 32
fit-whole (leaf h p) f = f.1
fit-whole (over h p a) f = f.1
fit-whole (fork h p a b) f = f.1

pub fit-payload : (n : Node) → Fit n → length (payload_of n) < 2 ^ 32
fit-payload n f = let e = whole_is n in let l = fit-whole n f in omega arith

number-back : (x : ℕ) → x < 2 ^ 32 → joined 256 (digits 256 4 x) ≡ x
number-back x h = joined-digits 256 4 x (zero-lt-suc 255) h

-- ---- the parts back

-- head, payload, children and what follows
abbrev spread : Node → List ℕ → List ℕ
spread n rest = head_bytes (head_of n) (length (payload_of n)) (whole n) ++ (payload_of n ++ (flats (children_of n) ++ rest))

spread-is : (n : Node) (rest : List ℕ) → flat n ++ rest ≡ spread n rest
spread-is n rest =
    ap (λ x. x ++ rest) (flat-is n)
    ∙ ap (λ x. head_bytes (head_of n) (length (payload_of n)) (whole n) ++ x) (append_assoc (payload_of n) (flats (children_of n)) rest)

pub head-back : (n : Node) (rest : List ℕ) → Fit n → head_read (flat n ++ rest) ≡ head_of n
head-back n rest f =
    let h = head_of n in
    ap head_read (spread-is n rest)
    ∙ (λ i. record { form = h.form; kind = h.kind; cell_bits = h.cell_bits; flag = h.flag; rows = number-back h.rows (fit-head n f).rows i })

pub payload_length-back : (n : Node) (rest : List ℕ) → Fit n → payload_length (flat n ++ rest) ≡ length (payload_of n)
payload_length-back n rest f = ap payload_length (spread-is n rest) ∙ number-back (length (payload_of n)) (fit-payload n f)

pub whole_back : (n : Node) (rest : List ℕ) → Fit n → whole_length (flat n ++ rest) ≡ whole n
whole_back n rest f = ap whole_length (spread-is n rest) ∙ number-back (whole n) (fit-whole n f)

pub payload-back : (n : Node) (rest : List ℕ) → Fit n → payload_read (flat n ++ rest) ≡ payload_of n
payload-back n rest f =
    (λ i. take (payload_length-back n rest f i) (drop head_size (spread-is n rest i)))
    ∙ take-append_seam (payload_of n) (flats (children_of n) ++ rest)

pub children-back : (n : Node) (rest : List ℕ) → Fit n → after_payload (flat n ++ rest) ≡ flats (children_of n) ++ rest
children-back n rest f =
    (λ i. drop (payload_length-back n rest f i) (drop head_size (spread-is n rest i)))
    ∙ drop-append_seam (payload_of n) (flats (children_of n) ++ rest)

pub own_back : (n : Node) (rest : List ℕ) → Fit n → own_bytes (flat n ++ rest) ≡ flat n
own_back n rest f = ap (λ m. take m (flat n ++ rest)) (whole_back n rest f) ∙ take_at (flat n) rest (whole n) (length-flat n)

pub after-back : (n : Node) (rest : List ℕ) → Fit n → after_node (flat n ++ rest) ≡ rest
after-back n rest f =
    let e = whole_is n in
    let l = length-flat n in
    ap (λ m. drop (max head_size m) (flat n ++ rest)) (whole_back n rest f)
    ∙ drop_at (flat n) rest (max head_size (whole n)) (omega arith)

-- the same where nothing follows
pub payload-alone : (n : Node) → Fit n → payload_read (flat n) ≡ payload_of n
payload-alone n f = ap payload_read (sym (append-nil (flat n))) ∙ payload-back n [] f

pub children-alone : (n : Node) → Fit n → after_payload (flat n) ≡ flats (children_of n)
children-alone n f = ap after_payload (sym (append-nil (flat n))) ∙ children-back n [] f ∙ append-nil (flats (children_of n))

-- ---- all are bytes

pub below-head_bytes : (h : Head) (p w : ℕ) → FitHead h → Below 256 (head_bytes h p w)
below-head_bytes h p w f = (
  f.form,
  (
    f.kind,
    (
      f.bits,
      (
        f.flag,
        below-append 256 (digits 256 4 h.rows) (digits 256 4 p ++ digits 256 4 w) (below-digits 256 4 h.rows (zero-lt-suc 255))
            (below-append 256 (digits 256 4 p) (digits 256 4 w) (below-digits 256 4 p (zero-lt-suc 255)) (below-digits 256 4 w (zero-lt-suc 255))),
      ),
    ),
  ),
)

pub below-flat : (n : Node) → Fit n → Below 256 (payload_of n) → Below 256 (flats (children_of n)) → Below 256 (flat n)
below-flat n f p k =
    subst (Below 256) (sym (flat-is n))
    (below-append 256 (head_bytes (head_of n) (length (payload_of n)) (whole n)) (payload_of n ++ flats (children_of n))
    (below-head_bytes (head_of n) (length (payload_of n)) (whole n) (fit-head n f))
    (below-append 256 (payload_of n) (flats (children_of n)) p k))
