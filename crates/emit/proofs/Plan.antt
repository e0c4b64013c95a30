-- The plan: the forms of a node, then those of its children.
use Rattle.std.proofs.Common.{◌≡◌, ℕ, zero, suc, ◌+◌, ◌≤◌, List, [], ◌∷◌, ◌++◌, length, take, drop, get_or, sym, refl, ap, ◌∙◌, append-nil, arith, length-append}
use Rattle.std.proofs.lemmas.List.{length-take, drop-take, take_at, drop_at}
use Rattle.node.specs.Nodes.{Node, leaf, over, fork, head_of, children_of, whole, flat, flats}
use Rattle.node.proofs.NodeBytes.{length-flat}
use Rattle.levels.specs.Plans.{node_count, forms}
use Rattle.emit.specs.Emitted.{counts, all_forms}

-- ---- lists

head-is : {A : Type 0} {a b : A} {xs ys : List A} → (a ∷ xs) ≡ (b ∷ ys) → a ≡ b
head-is e = cc

tail-is : {A : Type 0} {a b : A} {xs ys : List A} → (a ∷ xs) ≡ (b ∷ ys) → xs ≡ ys
tail-is e = cc

nil-cons : {X : Type 0} {A : Type 0} {a : A} {xs : List A} → ◌≡◌ {A = List A} [] (a ∷ xs) → X
nil-cons e = absurd (let z : ◌≡◌ {A = ℕ} 0 1 = cc in omega arith)

take-front : (i k : ℕ) (xs : List ℕ) → i ≤ k → take i (take k xs) ≡ take i xs
take-front zero k xs h = refl
take-front (suc i) zero xs h = absurd (omega arith)
take-front (suc i) (suc k) [] h = refl
take-front (suc i) (suc k) (x ∷ xs) h = ap (λ ys. x ∷ ys) (take-front i k xs (omega arith))

take-long : (n : ℕ) (xs ys : List ℕ) → take n xs ≡ ys → length ys ≡ n → n ≤ length xs
take-long n xs ys e l = let m = length-take n xs in let k = ap length e in omega arith

-- a list that begins with two lists
both-front : (i j : ℕ) (xs ys zs : List ℕ) → take (i + j) xs ≡ ys ++ zs → length ys ≡ i → take i xs ≡ ys
both-front i j xs ys zs e l = sym (take-front i (i + j) xs (omega arith)) ∙ ap (take i) e ∙ take_at ys zs i l

both-back : (i j : ℕ) (xs ys zs : List ℕ) → take (i + j) xs ≡ ys ++ zs → length ys ≡ i → take j (drop i xs) ≡ zs
both-back i j xs ys zs e l = sym (drop-take i j xs) ∙ ap (drop i) e ∙ drop_at ys zs i l

first_of : (k : ℕ) (pl fs : List ℕ) (f : ℕ) → take (suc k) pl ≡ (f ∷ fs) → (get_or pl 0 0 ≡ f) × (take k (drop 1 pl) ≡ fs)
first_of k [] fs f e = nil-cons e
first_of k (x ∷ pl) fs f e = (head-is e, tail-is e)

-- ---- a node's forms

forms-is : (n : Node) → forms n ≡ ((head_of n).form ∷ all_forms (children_of n))
forms-is (leaf h p) = refl
forms-is (over h p a) = ap (λ x. h.form ∷ x) (sym (append-nil (forms a)))
forms-is (fork h p a b) = ap (λ x. h.form ∷ (forms a ++ x)) (sym (append-nil (forms b)))

pub count_is : (n : Node) → node_count n ≡ suc (counts (children_of n))
count_is (leaf h p) = omega arith
count_is (over h p a) = omega arith
count_is (fork h p a b) = omega arith

length-forms : (n : Node) → length (forms n) ≡ node_count n
length-forms (leaf h p) = refl
length-forms (over h p a) = let i = length-forms a in omega arith
length-forms (fork h p a b) = let i = length-forms a in let j = length-forms b in let k = length-append (forms a) (forms b) in omega arith

length-all : (ns : List Node) → length (all_forms ns) ≡ counts ns
length-all [] = refl
length-all (n ∷ ns) = let i = length-forms n in let j = length-all ns in let k = length-append (forms n) (all_forms ns) in omega arith

pub count-whole : (n : Node) → node_count n ≤ whole n
count-whole (leaf h p) = omega arith
count-whole (over h p a) = let i = count-whole a in omega arith
count-whole (fork h p a b) = let i = count-whole a in let j = count-whole b in omega arith

pub counts-whole : (ns : List Node) → counts ns ≤ length (flats ns)
counts-whole [] = omega arith
counts-whole (n ∷ ns) =
    let i = count-whole n in
    let j = counts-whole ns in
    let k = length-append (flat n) (flats ns) in
    let l = length-flat n in
    omega arith

-- ---- a plan that begins with them

named-by : (n : Node) (pl : List ℕ) → take (node_count n) pl ≡ forms n → take (suc (counts (children_of n))) pl ≡ ((head_of n).form ∷ all_forms (children_of n))
named-by n pl e = ap (λ k. take k pl) (sym (count_is n)) ∙ e ∙ forms-is n

-- its first place names the node
pub named-first : (n : Node) (pl : List ℕ) → take (node_count n) pl ≡ forms n → get_or pl 0 0 ≡ (head_of n).form
named-first n pl e = (first_of (counts (children_of n)) pl (all_forms (children_of n)) (head_of n).form (named-by n pl e)).0

-- the rest names the children
pub named-rest : (n : Node) (pl : List ℕ) → take (node_count n) pl ≡ forms n → take (counts (children_of n)) (drop 1 pl) ≡ all_forms (children_of n)
named-rest n pl e = (first_of (counts (children_of n)) pl (all_forms (children_of n)) (head_of n).form (named-by n pl e)).1

pub named-some : (n : Node) (pl : List ℕ) → take (node_count n) pl ≡ forms n → 1 ≤ length pl
named-some n pl e = let l = take-long (node_count n) pl (forms n) e (length-forms n) in let c = count_is n in omega arith

-- child 0, and child 1 behind it
pub named-one : (a : Node) (pl : List ℕ) → take (counts (a ∷ [])) pl ≡ all_forms (a ∷ []) → take (node_count a) pl ≡ forms a
named-one a pl e = both-front (node_count a) 0 pl (forms a) [] e (length-forms a)

pub named-left : (a b : Node) (pl : List ℕ) → take (counts (a ∷ (b ∷ []))) pl ≡ all_forms (a ∷ (b ∷ [])) → take (node_count a) pl ≡ forms a
named-left a b pl e = both-front (node_count a) (counts (b ∷ [])) pl (forms a) (all_forms (b ∷ [])) e (length-forms a)

pub named-right : (a b : Node) (pl : List ℕ) → take (counts (a ∷ (b ∷ []))) pl ≡ all_forms (a ∷ (b ∷ [])) → take (node_count b) (drop (node_count a) pl) ≡ forms b
named-right a b pl e =
    named-one b (drop (node_count a) pl) (both-back (node_count a) (counts (b ∷ [])) pl (forms a) (all_forms (b ∷ [])) e (length-forms a))

pub named-long : (ns : List Node) (pl : List ℕ) → take (counts ns) pl ≡ all_forms ns → counts ns ≤ length pl
named-long ns pl e = take-long (counts ns) pl (all_forms ns) e (length-all ns)
