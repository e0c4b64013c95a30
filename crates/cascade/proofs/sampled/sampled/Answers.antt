use Rattle.std.proofs.Common.{false, sym, ap, ◌∙◌}
use Rattle.column.specs.Columns.{cleaned, seen}
use Rattle.column.proofs.ViewLaws.{view-sound}
use Rattle.column.proofs.WordLaws.{cleaned-stored}
use Rattle.sample.specs.Samples.{sample_of}
use Rattle.cascade.proofs.Stored.{shown-clean}
use Rattle.cascade.proofs.sampled.sampled.Goals as goal

pub invariant_of-result : goal.invariant_of-result
invariant_of-result g c =
    let d = c.in-Some.ensures.sampled in
    let clean = shown-clean _ (sample_of g.D.Draws.source false (seen c.args.array.view)) (sym d.offer) d.clean in
    record { sound = view-sound _ clean; clean = clean }

pub returns-clause-column : goal.returns-clause-column
returns-clause-column g c =
    let d = c.in-Some.ensures.sampled in
    let s = sample_of g.D.Draws.source in
    ap cleaned (sym d.offer) ∙ cleaned-stored (s false (seen c.args.array.view)) ∙ ap (λ f. s f (seen c.args.array.view)) (sym c.if-is_sample.false)
