use Rattle.std.proofs.Common.{ap}
use Rattle.column.specs.Columns.{seen}
use Rattle.column.specs.Kinds.{number_of}
use Rattle.frame.proofs.Outlines.{outline-is}
use Rattle.frame.proofs.FrameSchemeScheme.shape.Goals as goal

pub returns : goal.returns
returns c =
    let e = c.of-extent.result in
    let x = c.of-extent.ensures in
    outline-is (seen c.args.array.view) _ (number_of e.kind) c.of-reference.result.bits e.rows c.from.result e.has_blank
    c.payload_len.ensures (ap number_of x.kind) c.of-reference.ensures.bits x.rows c.from.ensures x.has_blank c.args.array.clean.clean
