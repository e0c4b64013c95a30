use Rattle.std.proofs.Common.{◌^◌, ◌<◌, ◌∙◌, rules}
use Rattle.std.proofs.ByRecursion.{All-from_get_or}
use Rattle.column.specs.Columns.{offer_seen}
use Rattle.column.proofs.WordLaws.{Words, row-present}
use Rattle.column.proofs.views.View.is_present.Goals as goal

pub returns : goal.returns
returns c =
    let o = offer_seen c.args.self.now in
    let a : Words o.words = All-from_get_or (λ w. w < 2 ^ 64) o.words 0 (λ i h. search rules) in
    c.is_set.ensures ∙ row-present o c.args.row a c.requires.within
