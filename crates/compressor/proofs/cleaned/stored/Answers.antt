use Rattle.std.proofs.Common.{◌^◌, ◌<◌, rules}
use Rattle.std.proofs.ByRecursion.{All-from_get_or}
use Rattle.column.proofs.WordLaws.{Words}
use Rattle.compressor.proofs.Cleaning.{clean-view}
use Rattle.compressor.proofs.cleaned.stored.Goals as goal

pub invariant_of-result : goal.invariant_of-result
invariant_of-result c =
    let words : Words c.args.words.now = All-from_get_or (λ w. w < 2 ^ 64) c.args.words.now 0 (λ i h. search rules) in
    record { sound = record { few = c.requires.few; words = c.requires.worded }; clean = clean-view _ words c.requires.taken c.requires.blanks }
