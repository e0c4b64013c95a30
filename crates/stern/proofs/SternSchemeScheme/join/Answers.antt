use Rattle.std.proofs.Common.{is_some}
use Rattle.column.proofs.InspectLaws.{kind-few}
use Rattle.stern.proofs.Plains.{leaf-joined}
use Rattle.stern.proofs.SternSchemeScheme.join.Goals as goal

pub returns : goal.returns
returns c =
    let s = c.args.stored in
    let j = c.requires.joinable in
    leaf-joined c.plain_head-head.result _ s.cell_bits s.flag s.rows s.payload.now c.args.cells.now c.args.words.now _ _ (is_some c.read_leaf.result)
    c.plain_head-head.ensures (kind-few s.kind) j.few j.cells j.words c.read_leaf.auto.cells c.read_leaf.auto.words c.read_leaf.ensures.answer c.read_leaf.ensures.places
