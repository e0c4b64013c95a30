-- A node's own part and its children: the parts of a scheme, which join to the column.
use Rattle.std.proofs.Common.{◌≡◌, ℕ, List, [], ◌∷◌, length, take, sym, ap, ◌∙◌}
use Rattle.std.specs.List.{AllByRecursion}
use Rattle.column.specs.Kinds.{number_of}
use Rattle.column.specs.Columns.{Column, Clean, Offer, cleaned}
use Rattle.node.specs.declared.heads.Head.{Head}
use Rattle.node.specs.Nodes.{Node, leaf, over, fork, children_of, Fit}
use Rattle.scheme.specs.declared.stored.Stored.{Stored}
use Rattle.scheme.specs.Meaning.{Meaning, Parts, PartsKeep}
use Rattle.scheme.specs.Memory.{parts_seen, held}
use Rattle.scheme.specs.Banks.{AllKeep, at}
use Rattle.holds.proofs.Sizes.{parts-keep}
use Rattle.levels.specs.Levels.{scheme_head}
use Rattle.reading.specs.declared.nodes.Own.{Own}
use Rattle.reading.specs.Places.{OwnOf, BeginWith, parts_read}

fit-children : (n : Node) → Fit n → AllByRecursion Fit (children_of n)
fit-children (leaf h p) f = tt
fit-children (over h p a) f = (f.2, tt)
fit-children (fork h p a b) f = (f.2, (f.3, tt))

module _ {ms : List Meaning} (all : AllKeep ms) {l i : ℕ} {c : Column} (cl : Clean c) {o : Own} (w : OwnOf ms l i c o) where
  keep : PartsKeep (at ms i) c w.of.parts
  keep = parts-keep ms all i c cl w.of.able w.of.parts w.of.split

  own-head : o.head ≡ scheme_head (at ms i) c w.of.parts
  own-head = w.head ∙ w.of.head

  pub own-rows : o.read.rows ≡ length c.rows
  own-rows = w.rows ∙ ap (λ (x : Head). x.rows) own-head

  pub own-count : length w.of.parts.children ≡ (at ms i).child_count
  own-count = keep.kids

  pub own-children : BeginWith ms l (length c.rows) w.of.parts.children o.body.children.now
  own-children = record {
    nodes = children_of w.node;
    rest = w.rest;
    of = w.of.children;
    fit = fit-children w.node w.fit;
    is = w.children;
    clean = keep.kids_clean;
    short = keep.kids_short;
  }

  parts-are : (s : Stored) (a b : Column) (k : ℕ) → parts_seen 2 s ≡ parts_read o a b → take k (a ∷ (b ∷ [])) ≡ w.of.parts.children → parts_seen k s ≡ w.of.parts
  parts-are s a b k e ek = λ j. record {
    payload = (ap (λ (x : Parts). x.payload) e ∙ w.payload ∙ w.of.payload) j;
    cell_bits = (ap (λ (x : Parts). x.cell_bits) e ∙ ap (λ (x : Head). x.cell_bits) own-head) j;
    flag = (ap (λ (x : Parts). x.flag) e ∙ ap (λ (x : Head). x.flag) own-head) j;
    children = (ap (λ (x : Parts). take k x.children) e ∙ ek) j;
  }

  -- joined from them, it is the column
  pub own-joined : (s : Stored) (x0 x1 : Offer) (cs ws : List ℕ) → s.kind ≡ o.read.kind → s.rows ≡ o.read.rows → parts_seen 2 s ≡ parts_read o (cleaned x0) (cleaned x1)
      → take (at ms i).child_count (cleaned x0 ∷ (cleaned x1 ∷ [])) ≡ w.of.parts.children
      → held (number_of s.kind) cs ws ≡ (at ms i).join (number_of s.kind) s.rows (parts_seen (at ms i).child_count s) → held (number_of o.read.kind) cs ws ≡ c
  own-joined s x0 x1 cs ws ek er ep ec j =
      let kind = ap number_of ek ∙ w.kind ∙ ap (λ (x : Head). x.kind) own-head in
      let parts = parts-are s (cleaned x0) (cleaned x1) (at ms i).child_count ep ec in
      ap (λ q. held (number_of q) cs ws) (sym ek)
      ∙ j
      ∙ (λ z. (at ms i).join (kind z) ((er ∙ own-rows) z) (parts z))
      ∙ keep.joins
