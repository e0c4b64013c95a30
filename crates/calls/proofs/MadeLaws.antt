-- The nodes that were made for the columns held, and where each begins. Whatever is drawn.
use Rattle.std.proofs.Common.{◌≡◌, ℕ, ◌-◌, ◌<◌, ◌≤◌, false, List, [], length, replicate, Ok, sym, subst, arith}
use Rattle.column.specs.Columns.{Column, Clean}
use Rattle.node.specs.Nodes.{Node}
use Rattle.scheme.specs.Banks.{AllKeep}
use Rattle.levels.specs.NodesOf.{Each}
use Rattle.holds.specs.Holding.{Holding}
use Rattle.holds.proofs.HoldLaws.{levels-hold}
use Rattle.calls.specs.Openings.{Setting}
use Rattle.calls.specs.Calls.{State, bound_in, Held, node_at}
use Rattle.calls.proofs.NodeLists.{each-map, Beginning, beginning}

pub record Made (set : Setting) (c : Column) (n : Node) : Type 0 where
  pub clean : Clean c
  pub bound : bound_in set c ≡ Ok n
  pub holding : Holding set.opening.bank set.levels c n

module _ (set : Setting) (kp : AllKeep set.opening.bank) (few : set.levels ≤ 8) where
  pub made : (c : Column) (n : Node) → Clean c × (bound_in set c ≡ Ok n) → Made set c n
  made c n p = record { clean = p.0; bound = p.1; holding = levels-hold set.opening.bank kp set.opening.source set.levels few c p.0 [] false n p.1 }

  pub all-made : (s : State) (cs : List Column) → (h : Held set s cs) → Each (Made set) cs h.nodes
  all-made s cs h = each-map (λ c n. Clean c × (bound_in set c ≡ Ok n)) (Made set) made cs h.nodes h.made

  -- the i-th node's bytes
  pub node-begins : (s : State) (cs : List Column) → Held set s cs → (i : ℕ) → i < s.count → Beginning (Made set) cs i (node_at i s.bytes)
  node-begins s cs h i l =
      subst (λ bs. Beginning (Made set) cs i (node_at i bs)) (sym h.layout)
      (beginning (Made set) (λ c n k. k.holding.fit) cs h.nodes (all-made s cs h) i (let e = h.count in omega arith) (replicate (length s.bytes - s.used) 0))
