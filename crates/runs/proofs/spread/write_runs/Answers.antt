use Rattle.std.proofs.Common.{◌≡◌, ◌+◌, ◌-◌, min, [], ◌∷◌, ◌++◌, length, refl, ◌∙◌, arith, rules}
use Rattle.std.proofs.lemmas.List.{length-append}
use Rattle.std.specs.Slice.Iter.{iter_rest}
use Rattle.std.specs.Iterator.Adapters.{zip_first, zip_second}
use Rattle.std.proofs.lemmas.Slice.Zip.{zip_turn, zip_end}
use Rattle.runs.proofs.SpreadLaws.{wrote-more, wrote-all}
use Rattle.runs.proofs.spread.write_runs.Goals as goal

pub loop-first-preserved : goal.loop-first-preserved
loop-first-preserved c =
    let n = length c.args.out.now in
    let xs = c.loop-first.yielded in
    let first : iter_rest (zip_first c.into_iter-first-iterator.result) ≡ c.args.firsts.now = search rules in
    let second : iter_rest (zip_second c.into_iter-first-iterator.result) ≡ c.args.ends.now = search rules in
    let turn = zip_turn c.args.firsts.now c.args.ends.now xs c.into_iter-first-iterator.result c.loop-first.first-iterator c.next.new.self c.next.result first second c.loop-first.yielded_by _ c.in-Some.is c.next.ensures.steps in
    let m : c.min.result ≡ min (c.in-Some.end.now - c.loop-first.before) (n - c.loop-first.count) =
    c.min.ensures ∙ (λ t. min (c.run_len.ensures t) (c.loop-first.auto.out t - c.loop-first.count)) in
    wrote-more c.loop-first.invariant c.in-Some.first.now c.in-Some.end.now (turn.2 0) (turn.3 0) turn.0 turn.1 c.loop-first.auto.out
    (length (xs ++ (c.in-Some.first, c.in-Some.end) ∷ [])) c.min.result (c.loop-first.count + c.min.result) c.fill.new.self
    (length-append xs ((c.in-Some.first, c.in-Some.end) ∷ [])) m refl
    (c.fill.ensures.after (λ y e. search rules))

pub returns-clause-front : goal.returns-clause-front
returns-clause-front c =
    let xs = c.loop-first.yielded in
    let first : iter_rest (zip_first c.into_iter-first-iterator.result) ≡ c.args.firsts.now = search rules in
    let second : iter_rest (zip_second c.into_iter-first-iterator.result) ≡ c.args.ends.now = search rules in
    let l = zip_end c.args.firsts.now c.args.ends.now xs c.into_iter-first-iterator.result c.loop-first.first-iterator c.next.new.self c.next.result first second c.loop-first.yielded_by c.in-None.is c.next.ensures.steps in
    wrote-all c.loop-first.invariant (omega arith)
