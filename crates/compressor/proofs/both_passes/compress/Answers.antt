use Rattle.std.proofs.Common.{length, ap, ◌∙◌}
use Rattle.column.specs.Columns.{offer_seen, seen}
use Rattle.column.proofs.InspectLaws.{unrefused}
use Rattle.calls.specs.Calls.{bound_in, fitting}
use Rattle.compressor.specs.Compressed.{setting, whole_of, bytes_after}
use Rattle.compressor.proofs.Writing.{lawful}
use Rattle.compressor.proofs.both_passes.compress.Goals as goal

pub returns-clause-law : goal.returns-clause-law
returns-clause-law g c =
    let o = c.args.opening.now in
    let v = c.args.view in
    let d = g.D.Draws.source in
    let set = setting (g.B.Bank.meanings o.bank.schemes.now) d o.levels in
    let z = length c.args.out.now in
    let s = c.cleaned-array.ensures.column in
    lawful set (record { unrefused = o.unrefused d; keep = record { bank = g.met.B.Bank.all o.bank.schemes.now; source = g.met.D.Draws.within } }) (seen v) (unrefused (offer_seen v) c.requires.taken)
    c.write_node.result c.args.out.now c.write_node.new.out (c.write_node.ensures.answer ∙ ap (λ x. whole_of (fitting z (bound_in set x))) s)
    (c.write_node.ensures.bytes ∙ ap (λ x. bytes_after (fitting z (bound_in set x)) c.args.out.now) s)
