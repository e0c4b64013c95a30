use Rattle.std.proofs.Common.{◌≡◌, ◌-◌, length, take, ap, ◌∙◌, arith}
use Rattle.column.specs.Kinds.{number_of}
use Rattle.column.specs.Columns.{seen, values}
use Rattle.runs.specs.Runs.{unrun}
use Rattle.runs.proofs.SpreadLaws.{joined-rows}
use Rattle.runs.proofs.RunsSchemeScheme.join.Goals as goal

pub returns : goal.returns
returns c =
    let s = c.args.stored in
    let f = c.gather-first_count.result in
    let firsts = c.gather-first_count.new.out in
    let e = c.gather-end_count.result in
    let ends = c.gather-end_count.new.out in
    let m = c.write_runs-count.result in
    let out = c.write_runs-count.new.out in
    let fs : take (f - 0) firsts ≡ values (seen s.child0) = ap (λ z. take z firsts) (let s : f - 0 ≡ f = omega arith in s) ∙ c.gather-first_count.ensures.front in
    let es : take (e - 0) ends ≡ values (seen s.child1) = ap (λ z. take z ends) (let s : e - 0 ≡ e = omega arith in s) ∙ c.gather-end_count.ensures.front in
    let all = unrun 0 (values (seen s.child0)) (values (seen s.child1)) in
    let vs : take (m - 0) out ≡ take s.rows all =
    ap (λ z. take z out) (let s : m - 0 ≡ m = omega arith in s) ∙ c.write_runs-count.ensures.front ∙ (λ t. take (c.split_at_mut-values.ensures.front_len t) (unrun 0 (fs t) (es t))) in
    ap (λ rs. record { kind = number_of s.kind; rows = rs })
    (joined-rows s.rows (length c.args.cells.now) s.flag s.payload.now c.read_mask.new.words c.args.words.now c.spread.new.cells _ all
    c.requires.joinable.words c.read_mask.ensures c.requires.joinable.cells (c.spread.auto.cells ∙ c.requires.joinable.cells) vs c.spread.ensures)
