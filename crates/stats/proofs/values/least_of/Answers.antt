use Rattle.std.proofs.Common.{◌≡◌, ℕ, ◌^◌, ◌<◌, List, [], ◌∷◌, ◌++◌, min, sym, ap, ◌∙◌, subst, rules}
use Rattle.std.specs.List.{AllByRecursion}
use Rattle.std.proofs.ByRecursion.{All-from_get_or}
use Rattle.std.proofs.lemmas.Fn.{fold_over}
use Rattle.std.proofs.lemmas.Iterator.{YieldsList-from_slice}
use Rattle.std.proofs.iter.Yields.{fronts}
use Rattle.std.specs.Ordering.{nat_cmp, ord_min}
use Rattle.column.specs.Kinds.{key, number_of, greatest}
use Rattle.stats.specs.Stats.{least_of}
use Rattle.stats.proofs.Ends.{ord-min-is, least_more, least_back}
use Rattle.stats.proofs.values.least_of.Goals as goal

pub returns : goal.returns
returns c =
    let k = number_of c.args.kind in
    let xs = c.args.found.now in
    let words : AllByRecursion (λ x. x < 2 ^ 64) xs = All-from_get_or (λ x. x < 2 ^ 64) xs 0 (λ i h. search rules) in
    let made = YieldsList-from_slice {s = c.iter.result} xs c.iter.ensures.rest in
    let J : List ℕ → ℕ → Type 0 = λ ys m. m ≡ key k (least_of k ys) in
    let step : (ys : List ℕ) (m x m2 : ℕ) → J ys m → m2 ≡ min m (key k x) → J (ys ++ (x ∷ [])) m2 = λ ys m x m2 h e. e ∙ ap (λ z. min z (key k x)) h ∙ sym (least_more k ys x) in
    let start : J [] c.key-none.result = c.key-none.ensures ∙ ap (key k) c.greatest.ensures in
    let folded : J xs c.fold.result = fold_over fronts (λ x. x.now) _ J _ (λ ys m x m2 f h call. (step ys m x.now m2 h (let e : m2 ≡ ord_min nat_cmp m (key k x.now) = search rules in e ∙ ord-min-is m (key k x.now)), search rules)) c.iter.result xs _ _ made.runs start c.fold.ensures.ran in
    let last : greatest k < 2 ^ 64 = subst (λ z. z < 2 ^ 64) c.greatest.ensures (search rules) in
    c.key.ensures ∙ ap (key k) folded ∙ least_back k xs last words
