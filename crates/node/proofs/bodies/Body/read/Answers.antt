use Rattle.std.proofs.Common.{◌≡◌, take, drop, sym, ap, ◌∙◌}
use Rattle.node.specs.Reading.{payload_read, after_payload}
use Rattle.node.proofs.NodeBytes.{payload-back, children-back}
use Rattle.node.proofs.HeaderLaws.{found, missing, short-rest, short-payload, short-children}
use Rattle.node.proofs.bodies.Body.read.Goals as goal

pub returns-in-Some : goal.returns-in-Some
returns-in-Some c =
    let bs = c.args.bytes.now in
    let g = found bs c.in-Some.header (sym c.read.ensures.value ∙ c.in-Some.is) in
    let p : c.cut.result.payload.now ≡ payload_read bs = c.cut.ensures.payload ∙ (λ i. take (g.payload i) (c.from-rest.ensures i)) in
    let k : c.cut.result.children.now ≡ after_payload bs = c.cut.ensures.children ∙ (λ i. drop (g.payload i) (c.from-rest.ensures i)) in
    record {
      payload = p;
      children = k;
      back = λ n rest f e. (p ∙ ap payload_read e ∙ payload-back n rest f, k ∙ ap after_payload e ∙ children-back n rest f);
    }

pub returns-in-None : goal.returns-in-None
returns-in-None c =
    let bs = c.args.bytes.now in
    let short = missing bs (sym c.read.ensures.value ∙ c.in-None.is) in
    let p : c.cut-in-None.result.payload.now ≡ payload_read bs = c.cut-in-None.ensures.payload ∙ sym (short-payload bs short) in
    let k : c.cut-in-None.result.children.now ≡ after_payload bs = c.cut-in-None.ensures.children ∙ c.from-rest.ensures ∙ short-rest bs short ∙ sym (short-children bs short) in
    record {
      payload = p;
      children = k;
      back = λ n rest f e. (p ∙ ap payload_read e ∙ payload-back n rest f, k ∙ ap after_payload e ∙ children-back n rest f);
    }
