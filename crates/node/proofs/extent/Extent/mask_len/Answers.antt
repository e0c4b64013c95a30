use Rattle.std.proofs.Common.{sym, ap, ◌∙◌}
use Rattle.std.proofs.lemmas.Bool.{not-false}
use Rattle.node.specs.Payloads.{mask_len}
use Rattle.node.proofs.MaskLaws.{mask-len-by}
use Rattle.node.proofs.extent.Extent.mask_len.Goals as goal

pub returns-clause-meant : goal.returns-clause-meant
returns-clause-meant c =
    let e = c.args.self in
    let blank = not-false e.has_blank c.if-not-self.false in
    λ rs l q. c.packed_len.ensures ∙ ap (λ b. mask_len b e.rows) (sym blank) ∙ mask-len-by e.has_blank e.rows rs l q
