use Rattle.std.proofs.Common.{◌≡◌, ℕ, ◌^◌, ◌<◌, List, [], ◌∷◌, ◌++◌, max, sym, ap, ◌∙◌, subst, rules}
use Rattle.std.specs.List.{AllByRecursion}
use Rattle.std.proofs.ByRecursion.{All-from_get_or}
use Rattle.std.proofs.lemmas.Fn.{fold_over}
use Rattle.std.proofs.lemmas.Iterator.{YieldsList-from_slice}
use Rattle.std.proofs.iter.Yields.{fronts}
use Rattle.std.specs.Ordering.{nat_cmp, ord_max}
use Rattle.column.specs.Kinds.{key, number_of, least}
use Rattle.stats.specs.Stats.{greatest_of}
use Rattle.stats.proofs.Ends.{ord-max-is, greatest-more, greatest-back}
use Rattle.stats.proofs.values.greatest_of.Goals as goal

pub returns : goal.returns
returns c =
    let k = number_of c.args.kind in
    let xs = c.args.found.now in
    let words : AllByRecursion (λ x. x < 2 ^ 64) xs = All-from_get_or (λ x. x < 2 ^ 64) xs 0 (λ i h. search rules) in
    let made = YieldsList-from_slice {s = c.iter.result} xs c.iter.ensures.rest in
    let J : List ℕ → ℕ → Type 0 = λ ys m. m ≡ key k (greatest_of k ys) in
    let step : (ys : List ℕ) (m x m2 : ℕ) → J ys m → m2 ≡ max m (key k x) → J (ys ++ (x ∷ [])) m2 = λ ys m x m2 h e. e ∙ ap (λ z. max z (key k x)) h ∙ sym (greatest-more k ys x) in
    let start : J [] c.key-none.result = c.key-none.ensures ∙ ap (key k) c.least.ensures in
    let folded : J xs c.fold.result = fold_over fronts (λ x. x.now) _ J _ (λ ys m x m2 f h call. (step ys m x.now m2 h (let e : m2 ≡ ord_max nat_cmp m (key k x.now) = search rules in e ∙ ord-max-is m (key k x.now)), search rules)) c.iter.result xs _ _ made.runs start c.fold.ensures.ran in
    let last : least k < 2 ^ 64 = subst (λ z. z < 2 ^ 64) c.least.ensures (search rules) in
    c.key.ensures ∙ ap (key k) folded ∙ greatest-back k xs last words
