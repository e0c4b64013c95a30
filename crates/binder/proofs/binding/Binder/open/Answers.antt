use Rattle.std.proofs.Common.{◌≡◌, length, Err, sym, ap, ◌∙◌, rules}
use Rattle.std.specs.Result.{result_err}
use Rattle.calls.proofs.RunLaws.{main-law}
use Rattle.compressor.specs.Compressed.{setting}
use Rattle.binder.specs.Binders.{opened_bytes}
use Rattle.binder.proofs.Settings.{granted}
use Rattle.binder.proofs.binding.Binder.open.Goals as goal

pub returns-in_err-opening-clause-refusal : goal.returns-in_err-opening-clause-refusal
returns-in_err-opening-clause-refusal g c =
    let e = c.in_err-opening.field-0.0 in
    let eq : c.from_residual.result ≡ Err e = search rules in
    ap result_err eq ∙ c.in_err-opening.ensures.refusal g.D.Draws.source

pub returns-in_err-opening-clause-bytes : goal.returns-in_err-opening-clause-bytes
returns-in_err-opening-clause-bytes g c = ap (λ q. opened_bytes q c.args.bytes.now) (c.in_err-opening.ensures.refusal g.D.Draws.source)

pub returns-clause-refusal : goal.returns-clause-refusal
returns-clause-refusal g c = c.in_ok-opening.ensures.refusal g.D.Draws.source

pub returns-clause-bytes : goal.returns-clause-bytes
returns-clause-bytes g c =
    c.fill.ensures.after (λ y q. search rules) ∙ ap (λ q. opened_bytes q c.args.bytes.now) (c.in_ok-opening.ensures.refusal g.D.Draws.source)

pub returns-clause-law : goal.returns-clause-law
returns-clause-law g c =
    let d = g.D.Draws.source in
    main-law (setting (g.B.Bank.meanings c.args.schemes.now) d c.args.levels)
    (granted c.args.levels (g.met.B.Bank.all c.args.schemes.now) g.met.D.Draws.within (sym (c.in_ok-opening.ensures.refusal d))) (length c.args.bytes.now)
