-- Nodes for which no scheme competes.
use Rattle.std.proofs.Common.{◌≡◌, ℕ, ◌+◌, ◌<◌, Bool, true, false, List, [], ◌∷◌, length, Some, None, Option, option_map, sym, refl, ap, ◌∙◌, arith, true≢false}
use Rattle.column.specs.Columns.{Row, Column, values}
use Rattle.constant.specs.Constants.{constantly}
use Rattle.node.specs.Nodes.{Node, head_size, weight, plain_node, constant_node}
use Rattle.levels.specs.Levels.{lighter, lighter_by}
use Rattle.cascade.specs.declared.size.Size.{Size}
use Rattle.cascade.specs.declared.leaf.Leaf.{Leaf}
use Rattle.cascade.specs.Sizes.{leaf_of, lighter_leaf, lighter_leaf_by}
use Rattle.cascade.specs.Settled.{settled, settled_by}

pub sized_leaf : (f : ℕ) {s : Size} {p q : ℕ} → s ≡ record { weight = p; whole = head_size + p; nodes = 1 } → p ≡ q
    → ◌≡◌ {A = Leaf} (record { form = f; size = s }) (record { form = f; size = record { weight = q; whole = head_size + q; nodes = 1 } })
sized_leaf f e pq = ap (λ x. record { form = f; size = x }) e ∙ ap (λ x. record { form = f; size = record { weight = x; whole = head_size + x; nodes = 1 } }) pq

lighter-leaf : (n p : Node) → lighter_leaf (leaf_of n) (leaf_of p) ≡ leaf_of (lighter n p)
lighter-leaf n p = go (Rattle.std.proofs.Common.ltb (weight n) (weight p))
  where
    go : (b : Bool) → lighter_leaf_by b (leaf_of n) (leaf_of p) ≡ leaf_of (lighter_by b n p)
    go true = refl
    go false = refl

-- the nodes of a level where none competes; a column has a row if it has a value
rows-of-values : (c : Column) (v : ℕ) (vs : List ℕ) → values c ≡ v ∷ vs → (r : Row) × ((rs : List Row) × (c.rows ≡ r ∷ rs))
rows-of-values c v vs e = go c.rows e
  where
    go : (rs : List Row) → Rattle.column.specs.Columns.values_of rs ≡ v ∷ vs → (r : Row) × ((ts : List Row) × (rs ≡ r ∷ ts))
    go [] q = absurd (let z : ◌≡◌ {A = ℕ} 0 1 = cc in omega arith)
    go (r ∷ rs) q = (r, (rs, refl))

constant-by : (f : Bool) (c : Column) (rs : List Row) (vs : List ℕ) → 0 < length rs → f ≡ false → constantly (values c) ≡ true → 0 < length vs
    → settled_by f c rs vs ≡ Some (lighter (constant_node c) (plain_node c))
constant-by f c [] vs l e k n = absurd (omega arith)
constant-by f c (r ∷ rs) [] l e k n = absurd (omega arith)
constant-by true c (r ∷ rs) (v ∷ vs) l e k n = absurd (true≢false e)
constant-by false c (r ∷ rs) (v ∷ vs) l e k n = ap (λ b. Rattle.cascade.specs.Settled.settled_constant b c) k

pub some-values : (vs : List ℕ) → constantly vs ≡ true → 0 < length vs
some-values [] e = absurd (true≢false (sym e))
some-values (v ∷ vs) e = omega arith

pub settled-constant : (f : Bool) (c : Column) (s : Leaf) → 0 < length c.rows → f ≡ false → constantly (values c) ≡ true → s ≡ lighter_leaf (leaf_of (constant_node c)) (leaf_of (plain_node c))
    → ◌≡◌ {A = Option Leaf} (Some s) (option_map leaf_of (settled f c))
settled-constant f c s l e k q =
    ap (λ (x : Leaf). Some x) (q ∙ lighter-leaf (constant_node c) (plain_node c))
    ∙ ap (option_map leaf_of) (sym (constant-by f c c.rows (values c) l e k (some-values (values c) k)))
