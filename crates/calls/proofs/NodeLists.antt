-- Columns with their nodes, the nodes' bytes one after the other, and where the i-th node begins.
use Rattle.std.proofs.Common.{◌≡◌, ℕ, zero, suc, ◌+◌, ◌-◌, ◌<◌, ◌≤◌, List, [], ◌∷◌, ◌++◌, length, drop, replicate, slice_get, Some, None, sym, refl, ap, ◌∙◌, append_assoc, append-nil, arith, length-append}
use native.Mathlib.Nat.{sub-zero, zero-sub, suc-sub-suc}
use Rattle.column.specs.Columns.{Column}
use Rattle.node.specs.Nodes.{Node, flat, flats, Fit}
use Rattle.node.specs.Reading.{after_node}
use Rattle.node.proofs.NodeBytes.{after-back}
use Rattle.levels.specs.NodesOf.{Each}
use Rattle.calls.specs.Calls.{node_at}

-- ---- lists

pub drop-replicate : {A : Type 0} (w z : ℕ) (a : A) → drop w (replicate z a) ≡ replicate (z - w) a
drop-replicate zero z a = ap (λ n. replicate n a) (sym (sub-zero z))
drop-replicate (suc w) zero a = ap (λ n. replicate n a) (sym (zero-sub (suc w)))
drop-replicate (suc w) (suc z) a = drop-replicate w z a ∙ ap (λ n. replicate n a) (sym (suc-sub-suc z w))

pub length-more : {A : Type 0} (xs : List A) (x : A) → length (xs ++ (x ∷ [])) ≡ length xs + 1
length-more xs x = length-append xs (x ∷ [])

pub flats-more : (ns : List Node) (n : Node) → flats (ns ++ (n ∷ [])) ≡ flats ns ++ flat n
flats-more [] n = append-nil (flat n)
flats-more (k ∷ ns) n = ap (λ x. flat k ++ x) (flats-more ns n) ∙ sym (append_assoc (flat k) (flats ns) (flat n))

-- ---- one more column with its node

pub each-more : (P : Column → Node → Type 0) (cs : List Column) (ns : List Node) (c : Column) (n : Node) → Each P cs ns → P c n → Each P (cs ++ (c ∷ [])) (ns ++ (n ∷ []))
each-more P [] [] c n e p = (p, tt)
each-more P [] (k ∷ ns) c n e p = absurd e
each-more P (b ∷ cs) [] c n e p = absurd e
each-more P (b ∷ cs) (k ∷ ns) c n e p = (e.0, each-more P cs ns c n e.1 p)

pub each-map : (P Q : Column → Node → Type 0) → ((c : Column) (n : Node) → P c n → Q c n) → (cs : List Column) (ns : List Node) → Each P cs ns → Each Q cs ns
each-map P Q f [] [] e = tt
each-map P Q f [] (n ∷ ns) e = absurd e
each-map P Q f (c ∷ cs) [] e = absurd e
each-map P Q f (c ∷ cs) (n ∷ ns) e = (f c n e.0, each-map P Q f cs ns e.1)

-- ---- the i-th node

-- bytes that begin with a node of column i
pub record Beginning (P : Column → Node → Type 0) (cs : List Column) (i : ℕ) (bs : List ℕ) : Type 0 where
  pub column : Column
  pub node : Node
  pub rest : List ℕ
  pub number : slice_get cs i ≡ Some column
  pub good : P column node
  pub bytes : bs ≡ flat node ++ rest

pub beginning : (P : Column → Node → Type 0) → ((c : Column) (n : Node) → P c n → Fit n) → (cs : List Column) (ns : List Node) → Each P cs ns → (i : ℕ) → i < length cs
    → (rest : List ℕ) → Beginning P cs i (node_at i (flats ns ++ rest))
beginning P fit [] ns e i l rest = absurd (omega arith)
beginning P fit (c ∷ cs) [] e i l rest = absurd e
beginning P fit (c ∷ cs) (n ∷ ns) e zero l rest =
    record { column = c; node = n; rest = flats ns ++ rest; number = refl; good = e.0; bytes = append_assoc (flat n) (flats ns) rest }
beginning P fit (c ∷ cs) (n ∷ ns) e (suc i) l rest =
    let b = beginning P fit cs ns e.1 i (omega arith) rest in
    let past : after_node ((flat n ++ flats ns) ++ rest) ≡ flats ns ++ rest = ap after_node (append_assoc (flat n) (flats ns) rest) ∙ after-back n (flats ns ++ rest) (fit c n e.0) in
    record { column = b.column; node = b.node; rest = b.rest; number = b.number; good = b.good; bytes = ap (node_at i) past ∙ b.bytes }

pub past-end : {A : Type 0} (xs : List A) (i : ℕ) → length xs ≤ i → slice_get xs i ≡ None
past-end [] i l = refl
past-end (x ∷ xs) zero l = absurd (omega arith)
past-end (x ∷ xs) (suc i) l = past-end xs i (omega arith)
