use Rattle.std.proofs.Common.{false, [], rules}
use Rattle.sample.specs.Draws.{centre}
use Rattle.calls.specs.Openings.{Granted}
use Rattle.calls.proofs.OpenLaws.{few-levels, granted-bank}
use Rattle.holds.proofs.HoldLaws.{levels-hold}
use Rattle.compressor.specs.Compressed.{setting}
use Rattle.compressor.proofs.read_back.decompress.Goals as goal

pub returns-clause-back : goal.returns-clause-back
returns-clause-back g c d v n rest cl e eb space =
    let o = c.args.opening.now in
    let ms = g.B.Bank.meanings o.bank.schemes.now in
    let kp = g.met.B.Bank.all o.bank.schemes.now in
    let set = setting ms centre o.levels in
    let granted : Granted set = record { unrefused = o.unrefused centre; keep = record { bank = kp; source = search rules } } in
    let h = levels-hold ms kp d o.levels (few-levels set granted) v cl [] false n e in
    c.read.ensures.back (granted-bank set granted) v cl (record { node = n; rest = rest; of = h.of; fit = h.fit; is = eb }) space
