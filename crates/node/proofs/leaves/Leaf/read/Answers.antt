use Rattle.std.proofs.Common.{length, sym, refl, ap, ◌∙◌, rules}
use Rattle.column.specs.Kinds.{number_of}
use Rattle.node.specs.Forms.{number_of_form}
use Rattle.node.specs.Reading.{rows_read}
use Rattle.node.proofs.LeafLaws.{blank-held}
use Rattle.node.proofs.leaves.Leaf.read.Goals as goal

pub returns-in-Blank : goal.returns-in-Blank
returns-in-Blank c =
    blank-held (length c.args.cells.now) (length c.args.words.now) c.args.cells.now c.fill.new.self refl (c.fill.ensures.after (λ y e. search rules))
    ∙ ap (λ x. rows_read (number_of_form x) (number_of c.args.self.kind) (length c.args.cells.now) c.args.self.flag c.args.self.payload.now) (sym c.in-Blank.is)
