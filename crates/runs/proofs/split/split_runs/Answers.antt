use Rattle.std.proofs.Common.{◌≡◌, ℕ, eqb, List, length, set, ap, arith, rules}
use Rattle.std.specs.Slice.Iter.{chunk_by_rest}
use Rattle.std.proofs.lemmas.List.{length-append}
use Rattle.std.proofs.lemmas.List.Sorted.{answers_always}
use Rattle.runs.proofs.SplitLaws.{Split, split-more}
use Rattle.runs.proofs.split.split_runs.Goals as goal

-- the end written is a number that is t
end-at : {xs fs rest : List ℕ} (es : List ℕ) (i : ℕ) {t u before runs : ℕ} → Split xs fs (set es i t) before runs rest → u ≡ t → Split xs fs (set es i u) before runs rest
end-at es i s h = rw h s

pub loop-run-preserved : goal.loop-run-preserved
loop-run-preserved c =
    let s = c.loop-run.invariant.2 in
    let run = c.in-Some.run'.now in
    let rest = chunk_by_rest c.next.new.self in
    let t = c.in-Some.ensures.steps in
    let p = t.2 eqb (answers_always _ _ _ (λ f a r g h. search rules)) in
    let few = s.few in
    let all = s.all in
    let ln = ap length t.0 in
    let la = length-append run rest in
    let m = split-more s run rest t.0 t.1 p.1 (omega arith) (omega arith) in
    (search rules, search rules, end-at c.loop-run.ends c.loop-run.runs m (omega arith))
