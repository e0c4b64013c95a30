use Rattle.std.proofs.Common.{◌^◌, arith}
use Rattle.packing.specs.Packing.{Below}
use Rattle.packing.proofs.Below.{below-get_or}
use Rattle.column.proofs.InspectLaws.{unrefused}
use Rattle.treeslist.proofs.Cleaning.{stored}
use Rattle.treeslist.proofs.columns.as_cleaned.Goals as goal

pub invariant_of-result : goal.invariant_of-result
invariant_of-result c =
    let b : Below (2 ^ 64) c.args.words.now = below-get_or (2 ^ 64) c.args.words.now (λ k. omega (arith, c.type_inv.words k)) in
    record {
      sound = record { few = c.requires.few; words = c.requires.worded };
      clean = record {
        stored = stored _ c.requires.unrefused b c.requires.worded c.requires.zeros;
        clean = unrefused _ c.requires.unrefused;
      };
    }
