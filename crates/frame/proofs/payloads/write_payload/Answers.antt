use Rattle.std.proofs.Common.{[], ◌∷◌, sym, ◌∙◌}
use Rattle.column.specs.Columns.{seen}
use Rattle.column.specs.Kinds.{number_of}
use Rattle.node.specs.Payloads.{at_width}
use Rattle.node.proofs.WidthLaws.{length-at_width}
use Rattle.node.proofs.WriteLaws.{then-written}
use Rattle.frame.specs.Frame.{body_by}
use Rattle.frame.proofs.payloads.write_payload.Goals as goal

pub returns : goal.returns
returns c =
    let k = number_of c.args.array.view.kind in
    let least = c.args.reference.least ∷ [] in
    let body = body_by c.args.reference.bits c.args.distances.now (seen c.args.array.view).rows in
    then-written (at_width k least) body c.args.out.now c.write_at_width-start.new.out c.write_body.new.out c.write_at_width-start.result
    (c.write_at_width-start.ensures.len ∙ sym (length-at_width k least)) c.write_at_width-start.ensures.bytes c.write_body.ensures
