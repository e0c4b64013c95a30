-- Children one after the other.
use Rattle.std.proofs.Common.{◌≡◌, ℕ, ◌<◌, ◌≤◌, List, [], ◌∷◌, ◌++◌, length, take, sym, refl, ap, ◌∙◌, append_assoc, arith}
use Rattle.std.specs.List.{AllByRecursion}
use Rattle.column.specs.Columns.{Column, Clean}
use Rattle.node.specs.Nodes.{Node, flat, flats, Fit}
use Rattle.scheme.specs.Meaning.{Meaning, AllClean, NoLonger}
use Rattle.levels.specs.NodesOf.{Each, NodeOf}
use Rattle.reading.specs.Reads.{Begins}
use Rattle.reading.specs.Places.{BeginWith}

-- the first of them, and those that follow it
pub record First (ms : List Meaning) (l n : ℕ) (cs : List Column) (bytes : List ℕ) : Type 0 where
  pub column : Column
  pub more : List Column
  pub are : cs ≡ column ∷ more
  pub clean : Clean column
  pub short : length column.rows ≤ n
  pub begins : Begins ms l column bytes
  pub later : (bs : List ℕ) → bs ≡ begins.rest → BeginWith ms l n more bs

first-by : (ms : List Meaning) (l n : ℕ) (c : Column) (cs : List Column) (ns : List Node) (bytes rest : List ℕ) → Each (NodeOf ms l) (c ∷ cs) ns → AllByRecursion Fit ns → bytes ≡ flats ns ++ rest
    → AllClean (c ∷ cs) → NoLonger n (c ∷ cs) → First ms l n (c ∷ cs) bytes
first-by ms l n c cs [] bytes rest e f b a s = absurd e
first-by ms l n c cs (m ∷ ns) bytes rest e f b a s = record {
  column = c;
  more = cs;
  are = refl;
  clean = a.0;
  short = s.0;
  begins = record { node = m; rest = flats ns ++ rest; of = e.0; fit = f.0; is = b ∙ append_assoc (flat m) (flats ns) rest };
  later = λ bs q. record { nodes = ns; rest = rest; of = e.1; fit = f.1; is = q; clean = a.1; short = s.1 };
}

first-of : (ms : List Meaning) (l n : ℕ) (cs : List Column) (bytes : List ℕ) → BeginWith ms l n cs bytes → 0 < length cs → First ms l n cs bytes
first-of ms l n [] bytes b h = absurd (omega arith)
first-of ms l n (c ∷ cs) bytes b h = first-by ms l n c cs b.nodes bytes b.rest b.of b.fit b.is b.clean b.short

pub first : {ms : List Meaning} {l n : ℕ} {cs : List Column} {bytes : List ℕ} → BeginWith ms l n cs bytes → 0 < length cs → First ms l n cs bytes
first {ms} {l} {n} {cs} {bytes} b h = first-of ms l n cs bytes b h

-- ---- of two that were read, as many as there are

pub one-child : (cs more : List Column) (k a b : Column) (n : ℕ) → cs ≡ k ∷ more → length cs ≡ n → n ≡ 1 → a ≡ k → take n (a ∷ (b ∷ [])) ≡ cs
one-child cs [] k a b n s e z f = ap (λ x. take x (a ∷ (b ∷ []))) z ∙ ap (λ (x : Column). x ∷ []) f ∙ sym s
one-child cs (x ∷ more) k a b n s e z f = absurd (let l = ap length s in omega arith)

pub two-children : (cs more others : List Column) (k j a b : Column) (n : ℕ) → cs ≡ k ∷ more → more ≡ j ∷ others → length cs ≡ n → n ≡ 2 → a ≡ k → b ≡ j → take n (a ∷ (b ∷ [])) ≡ cs
two-children cs more [] k j a b n s r e z f g =
    ap (λ x. take x (a ∷ (b ∷ []))) z ∙ (λ i. f i ∷ (g i ∷ [])) ∙ ap (λ (x : List Column). k ∷ x) (sym r) ∙ sym s
two-children cs more (x ∷ others) k j a b n s r e z f g = absurd (let l = ap length s in let m = ap length r in omega arith)
