use Rattle.std.proofs.Common.{length, sym, ap, ◌∙◌, arith}
use Rattle.column.specs.Columns.{words_for, offer_seen}
use Rattle.column.proofs.HiddenLaws.{length-cleaned}
use Rattle.treeslist.proofs.Cleaning.{filled, zeros, still}
use Rattle.treeslist.proofs.columns.clean.Goals as goal

pub as_cleaned-requires : goal.as_cleaned-requires
as_cleaned-requires c =
    let o = offer_seen c.args.view in
    let out = c.clean.new.out in
    let f = filled o out c.args.out.now c.clean.ensures.written c.requires.room in
    let h = length-cleaned o in
    record {
      few = let l = ap length f in omega arith;
      worded = c.requires.sound.words ∙ ap words_for (sym (ap length f ∙ h));
      unrefused = still o out c.requires.unrefused f;
      zeros = zeros o out f;
    }
