use Rattle.std.proofs.Common.{◌≡◌, Some, Option, sym, ap, ◌∙◌}
use Rattle.node.specs.declared.heads.Header.{Header}
use Rattle.node.specs.Reading.{header_read}
use Rattle.node.proofs.HeaderLaws.{long-header, header-back}
use Rattle.node.proofs.heads.Header.read.Goals as goal

pub returns : goal.returns
returns c =
    let bs = c.args.bytes.now in
    let v : ◌≡◌ {A = Option Header} (Some c.at_front.result) (header_read bs) = ap Some c.at_front.ensures ∙ sym (long-header bs c.if-bytes-lt-HEAD_SIZE.false) in
    record { value = v; back = λ n rest f e. v ∙ ap header_read e ∙ header-back n rest f }
