use Rattle.std.proofs.Common.{◌≡◌, ℕ, List, refl, ap, ◌∙◌, rules}
use Rattle.std.proofs.lemmas.Fn.{fold_over}
use Rattle.std.proofs.lemmas.Iterator.{YieldsList-from_slice, YieldsList-from_zip, zips}
use Rattle.std.proofs.iter.Yields.{fronts}
use Rattle.std.specs.List.{zip}
use Rattle.std.specs.Slice.Iter.{iter_rest}
use Rattle.stats.specs.Stats.{commonest}
use Rattle.stats.proofs.Tops.{commonest-more}
use Rattle.stats.proofs.distinct.commonest.Goals as goal

pub returns : goal.returns
returns c =
    let pairs = zip c.args.vals.now c.args.counts.now in
    let made = YieldsList-from_zip {s = c.zip.result} (YieldsList-from_slice c.args.vals.now (ap iter_rest c.zip.ensures.first ∙ c.iter.ensures.rest)) (YieldsList-from_slice c.args.counts.now c.zip.ensures.second.0) in
    let J : List (ℕ × ℕ) → ℕ × ℕ → Type 0 = λ ps b. b ≡ commonest ps in
    fold_over (zips fronts fronts) (λ p. (p.0.now, p.1.now)) _ J _ (λ ps a x b f h k. (commonest-more ps (x.0.now, x.1.now) a b h (search rules), refl)) c.zip.result pairs _ _ made.runs refl c.fold.ensures.ran
