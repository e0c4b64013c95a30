use Rattle.std.proofs.Common.{◌≤◌, length, sym, ap, ◌∙◌, subst, arith}
use Rattle.std.proofs.lemmas.List.{length-map}
use Rattle.packing.specs.Packing.{written}
use Rattle.column.specs.Columns.{seen}
use Rattle.column.proofs.ViewLaws.{view-rows}
use Rattle.frame.specs.Frame.{over_base}
use Rattle.frame.proofs.Distances.{payload-is, distances-below}
use Rattle.frame.proofs.FrameSchemeScheme.payload.Goals as goal

pub write_payload-requires : goal.write_payload-requires
write_payload-requires c =
    let s = seen c.args.array.view in
    let r = c.of-reference.ensures in
    let ds = c.write_distances.new.out in
    let n = ap length c.write_distances.ensures ∙ length-map s.rows (over_base s.kind c.of-reference.result.least) ∙ view-rows c.args.array.view in
    let f = c.args.array.sound.few in
    let e = payload-is s c.of-reference.result.least c.of-reference.result.bits ds r.least r.bits c.write_distances.ensures in
    record {
      few = omega (arith, n, f);
      narrow = distances-below s c.of-reference.result.least c.of-reference.result.bits ds r.least r.bits c.write_distances.ensures c.args.array.clean.clean;
      room = subst (λ xs. length xs ≤ length c.args.out.now) (sym e) c.requires.room;
    }

pub returns : goal.returns
returns c =
    let r = c.of-reference.ensures in
    c.write_payload.ensures
    ∙ ap (λ xs. written xs c.args.out.now) (payload-is (seen c.args.array.view) c.of-reference.result.least c.of-reference.result.bits _ r.least r.bits c.write_distances.ensures)
