use Rattle.std.proofs.Common.{◌≡◌, ◌-◌, ◌≤◌, length, take, sym, ap, ◌∙◌, arith}
use Rattle.std.proofs.lemmas.List.{length-take-le}
use Rattle.column.specs.Kinds.{number_of}
use Rattle.column.specs.Columns.{seen, values}
use Rattle.node.specs.Payloads.{flag_by}
use Rattle.node.proofs.MaskLaws.{flag_is}
use Rattle.scheme.specs.Children.{narrow}
use Rattle.runs.specs.Runs.{heads, ends}
use Rattle.runs.proofs.ShapeLaws.{shaped}
use Rattle.runs.proofs.RunsSchemeScheme.shape.Goals as goal

pub returns : goal.returns
returns c =
    let view = c.args.array.view in
    let rs = (seen view).rows in
    let vs = values (seen view) in
    let n = c.gather-count.result in
    let out = c.gather-count.new.out in
    let fits = c.gather-count.ensures.fits in
    let few = c.split_runs-runs.ensures.few in
    let front = c.gather-count.ensures.front in
    let found : take (n - 0) out ≡ vs = ap (λ z. take z out) (let s : n - 0 ≡ n = omega arith in s) ∙ front in
    let room : n ≤ length out = omega arith in
    let len : n ≡ length vs = sym (length-take-le n out room) ∙ ap length front in
    let held = ap length found in
    let kept = c.split_runs-runs.auto in
    let x = c.of-extent.ensures in
    shaped (seen view) c.mask_len.result _ c.split_runs-runs.result (number_of c.narrowest.result) _ _ _ _ _ _
    (c.mask_len.ensures.meant rs (sym x.rows) (sym x.has_blank))
    (c.from.ensures ∙ flag_is _ ∙ ap flag_by x.has_blank)
    (record { cells = c.split_runs-runs.ensures.firsts ∙ ap heads found; room = omega arith; words = c.read_mask.ensures })
    (record { cells = c.split_runs-runs.ensures.ends ∙ ap ends found; room = omega arith; words = c.read_mask-2.ensures })
    (c.narrowest.ensures ∙ ap narrow len)
