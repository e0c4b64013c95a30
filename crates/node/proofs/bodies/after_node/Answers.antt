use Rattle.std.proofs.Common.{◌≡◌, ℕ, ◌≤◌, max, List, length, drop, sym, ap, ◌∙◌, arith}
use Rattle.node.specs.Nodes.{head_size}
use Rattle.node.specs.Reading.{after_node}
use Rattle.node.proofs.WeightLaws.{child-1-shorter}
use Rattle.node.proofs.NodeBytes.{after-back}
use Rattle.node.proofs.HeaderLaws.{found, missing, short-rest, short-after}
use Rattle.node.proofs.bodies.after_node.Goals as goal

within : (bs r : List ℕ) → r ≡ after_node bs → length r ≤ length bs
within bs r e = let l = ap length e in let s = child-1-shorter bs in omega arith

pub returns-in-Some : goal.returns-in-Some
returns-in-Some c =
    let bs = c.args.bytes.now in
    let g = found bs c.in-Some.header (sym c.read.ensures.value ∙ c.in-Some.is) in
    let v : c.from.result.now ≡ after_node bs = c.from.ensures ∙ ap (λ w. drop w bs) (c.end.ensures ∙ ap (max head_size) g.whole) in
    record { value = v; within = within bs _ v; back = λ n rest f e. v ∙ ap after_node e ∙ after-back n rest f }

pub returns-in-None : goal.returns-in-None
returns-in-None c =
    let bs = c.args.bytes.now in
    let short = missing bs (sym c.read.ensures.value ∙ c.in-None.is) in
    let v : c.from-in-None.result.now ≡ after_node bs = c.from-in-None.ensures ∙ short-rest bs short ∙ sym (short-after bs short) in
    record { value = v; within = within bs _ v; back = λ n rest f e. v ∙ ap after_node e ∙ after-back n rest f }
