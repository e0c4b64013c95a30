use Rattle.std.proofs.Common.{rules, ◌≡◌, ◌+◌, ◌-◌, ◌<◌, ◌≤◌, length, drop, List, [], ◌∷◌, ◌++◌, Some, Ok, Err, sym, ap, ◌∙◌, subst, arith, length-append, length-set, slice_set, slice_index_or, option_map, refl}
use borrow.Rule.Slice.PartMut.{put_mid, post_of, same_len_mid}
use Rattle.column.specs.declared.refusals.Refusal.TheVariants.{SchemeRefused}
use Rattle.column.specs.Columns.{seen}
use Rattle.column.specs.Kinds.{number_of}
use Rattle.column.proofs.ViewLaws.{view-rows}
use Rattle.node.specs.Nodes.{head_size}
use Rattle.scheme.specs.Meaning.{NoLonger}
use Rattle.scheme.specs.Banks.{at}
use Rattle.scheme.specs.Memory.{history_of, stats_in}
use Rattle.levels.specs.Choice.{decided, bested}
use Rattle.choice.specs.declared.table.Slot.{Slot}
use Rattle.scheme.specs.declared.estimate.DeferredEstimate.TheVariants.{Sample}
use Rattle.scheme.specs.declared.estimate.EstimateScore.TheVariants.{FiniteCompression}
use Rattle.cascade.specs.Sizes.{leaf_of}
use Rattle.cascade.specs.Settled.{settled}
use Rattle.cascade.proofs.Samples.{sample-kind}
use Rattle.levels.specs.NodesOf.{Able}
use Rattle.cascade.specs.Rooms.{scheme_room}
use Rattle.levels.specs.Levels.{levels, late}
use Rattle.levels.specs.Plans.{places, room}
use Rattle.choice.specs.Picks.{AblePick, best_of, deferred_of, slots_of, named}
use Rattle.children.specs.Apart.{children_seen}
use Rattle.children.proofs.Storing.{parted, not-parted}
use Rattle.holds.proofs.Sizes.{places-some}
use Rattle.cascade.proofs.Rooms.{choice-fits, places-up, room-less, scheme-less}
use Rattle.cascade.proofs.Deciding.{kept-first, able, refused, always, skipped, scored-next, kept-last}
use Rattle.cascade.proofs.Levelling.{on-ground, as_bound, leaf-ends, bud, settled-ends, competed-ends, choice-ended, choice-waiting, stats-here}
use Rattle.cascade.proofs.Scheming.{rest-length, kid, refused-as, placed, first-set, bound-refused, none-ends, first-refused, one-ends, second-refused, two-ends}
use Rattle.cascade.proofs.first_pass.+measuring.Goals as goal
use Rattle.cascade.proofs.first_pass.+measuring.Goals.{decide-in-Skip, decide-in-Ratio}

-- ---- measure

pub measure-noted-requires : goal.measure-noted-requires
measure-noted-requires g t c = let p = places-some c.args.ctx.now.allowed_cascading in let q = c.requires.plan in record { room = omega arith }

pub measure-returns-then-ctx-eq0 : goal.measure-returns-then-ctx-eq0
measure-returns-then-ctx-eq0 g t c =
    let ms = g.B.Bank.meanings c.args.bank.now.schemes.now in
    let e = as_bound (on-ground ms g.D.Draws.source c.args.ctx.now.allowed_cascading (seen c.args.array.view) (history_of c.args.ctx.now) c.args.ctx.now.is_sample c.if-ctx-eq0.true)
    (leaf-ends _ c.plain.result c.noted.result c.noted.new.plan _ bud c.plain.ensures c.noted.ensures.size c.noted.ensures.plan) in
    record { size = e.size; plan = e.plan }

pub measure-noted-requires-in-Some : goal.measure-noted-requires-in-Some
measure-noted-requires-in-Some g t c = let p = places-some c.args.ctx.now.allowed_cascading in let q = c.requires.plan in record { room = omega arith }

pub measure-compete-requires : goal.measure-compete-requires
measure-compete-requires g t c κs within =
    let n = c.if-ctx-eq0.false in
    let m = c.decreases in
    let l = c.args.ctx.now.allowed_cascading in
    let some : 0 < l = omega arith in
    let room = choice-fits l (length c.args.array.view.cells.now) (length c.args.mem.now) some c.requires.room in
    (omega arith, (within.0, (within.1, (some, (c.requires.deep, (c.requires.plan, room))))))

pub measure-returns-in-Some : goal.measure-returns-in-Some
measure-returns-in-Some g t c =
    let ms = g.B.Bank.meanings c.args.bank.now.schemes.now in
    let n = c.if-ctx-eq0.false in
    let e = settled-ends ms g.D.Draws.source c.args.ctx.now.allowed_cascading (seen c.args.array.view) (history_of c.args.ctx.now) c.args.ctx.now.is_sample c.in-Some.leaf c.noted-in-Some.result c.noted-in-Some.new.plan _
    (omega arith) (c.in-Some.ensures ∙ ap (λ f. option_map leaf_of (settled f (seen c.args.array.view))) c.is_sample.ensures) c.noted-in-Some.ensures.size c.noted-in-Some.ensures.plan in
    record { size = e.size; plan = e.plan }

pub measure-returns-in-None : goal.measure-returns-in-None
measure-returns-in-None g t c =
    let ms = g.B.Bank.meanings c.args.bank.now.schemes.now in
    let n = c.if-ctx-eq0.false in
    let e = competed-ends ms g.D.Draws.source c.args.ctx.now.allowed_cascading (seen c.args.array.view) (history_of c.args.ctx.now) c.args.ctx.now.is_sample c.compete.result c.compete.new.plan
    (omega arith) (c.in-None.ensures ∙ ap (λ f. option_map leaf_of (settled f (seen c.args.array.view))) c.is_sample.ensures) (record { size = c.compete.ensures.size; plan = c.compete.ensures.plan }) in
    record { size = e.size; plan = e.plan }

-- ---- compete

pub compete-choose_best_scheme-requires : goal.compete-choose_best_scheme-requires
compete-choose_best_scheme-requires g t c κs within =
    let m = c.decreases in
    let r = c.requires in
    (omega arith, (within.0, (within.1, (r.level, (r.deep, (r.plan, r.room))))))

pub compete-noted-requires : goal.compete-noted-requires
compete-noted-requires g t c = let p = places-some c.args.ctx.now.allowed_cascading in let q = c.requires.plan in let l = c.choose_best_scheme.auto.plan in record { room = omega arith }

pub compete-measure_scheme-requires : goal.compete-measure_scheme-requires
compete-measure_scheme-requires g t c κs within =
    let m = c.decreases in
    let r = c.requires in
    let ms = g.B.Bank.meanings c.args.bank.now.schemes.now in
    let k = number_of c.args.array.view.kind in
    let p = c.choose_best_scheme.auto.plan in
    let q = c.choose_best_scheme.auto.mem in
    let rp = r.plan in
    let rm = r.room in
    let a = subst (λ o. AblePick ms k (Ok o)) c.in-Some.is c.in_ok-winner.ensures.able in
    (omega arith, (within.0, (within.1, (r.level, (r.deep, (a, (omega arith, omega arith)))))))

pub compete-noted-requires-else-size-plain : goal.compete-noted-requires-else-size-plain
compete-noted-requires-else-size-plain g t c =
    let p = places-some c.args.ctx.now.allowed_cascading in
    let q = c.requires.plan in
    let l = c.choose_best_scheme.auto.plan in
    let k = c.measure_scheme.auto.plan in
    record { room = omega arith }

-- ---- choose_best_scheme

pub choose_best_scheme-decide-requires : goal.choose_best_scheme-decide-requires
choose_best_scheme-decide-requires g t c κs within =
    let m = c.decreases in
    let r = c.requires in
    let a = c.in-Waiting.ensures.able in
    let b = c.split_at_mut-table.ensures.back_len in
    let q = c.ask_all.auto.mem in
    let rm = r.room in
    let n = c.rows.ensures in
    let stats = c.generate_opts-stats.ensures in
    (omega arith, (within.0, (within.1, (r.level, (r.deep, (c.args.array.sound, (c.args.array.clean, (((c.any_wants.result, stats.stands), stats.holds), (a.0, (a.1, (r.plan, omega arith)))))))))))

pub choose_best_scheme-returns-in-Ended-clause-is : goal.choose_best_scheme-returns-in-Ended-clause-is
choose_best_scheme-returns-in-Ended-clause-is g t c =
    let ms = g.B.Bank.meanings c.args.bank.now.schemes.now in
    let v = seen c.args.array.view in
    let d = g.D.Draws.source in
    let l = c.args.ctx.now.allowed_cascading in
    let h = history_of c.args.ctx.now in
    let s = stats-here ms v c.cascade_history.result.now h c.any_wants.result _ c.generate_opts-stats.ensures.stands c.any_wants.ensures c.cascade_history.ensures.history in
    choice-ended ms d (levels ms d (l - 1)) v h c.args.ctx.now.is_sample _ s c.in-Ended.scheme c.in-Ended.ensures.is

pub choose_best_scheme-returns-in-Waiting-clause-is : goal.choose_best_scheme-returns-in-Waiting-clause-is
choose_best_scheme-returns-in-Waiting-clause-is g t c =
    let ms = g.B.Bank.meanings c.args.bank.now.schemes.now in
    let v = seen c.args.array.view in
    let d = g.D.Draws.source in
    let l = c.args.ctx.now.allowed_cascading in
    let h = history_of c.args.ctx.now in
    let s = stats-here ms v c.cascade_history.result.now h c.any_wants.result _ c.generate_opts-stats.ensures.stands c.any_wants.ensures c.cascade_history.ensures.history in
    choice-waiting ms d (levels ms d (l - 1)) v h c.args.ctx.now.is_sample _ s (best_of ms c.in-Waiting.best) (deferred_of ms (slots_of c.in-Waiting.waiting)) _ c.in-Waiting.ensures.is c.decide.ensures.is

-- ---- decide

pub decide-loop-slot-init : goal.decide-loop-slot-init
decide-loop-slot-init g t c =
    let ms = g.B.Bank.meanings c.args.bank.now.schemes.now in
    kept-first _ ms (number_of c.args.col.array.kind) (slots_of c.args.waiting.now) c.args.best c.requires.leader c.requires.slots

pub decide-late-requires : goal.decide-late-requires
decide-late-requires g t c κs within =
    let ms = g.B.Bank.meanings c.args.bank.now.schemes.now in
    let d = g.D.Draws.source in
    let L = late d (levels ms d (c.args.ctx.now.allowed_cascading - 1)) (seen c.args.col.array) (stats_in c.args.col) (history_of c.args.ctx.now) c.args.ctx.now.is_sample in
    let k = number_of c.args.col.array.kind in
    let ss = slots_of c.args.waiting.now in
    let i = c.loop-slot.slot-index in
    let b = c.loop-slot.best in
    let w = decided L (deferred_of ms ss) (best_of ms c.args.best) in
    let inv = c.loop-slot.invariant in
    let es = c.as_slice-slot-items.ensures.items in
    let lt : i < length ss = omega (arith, ap length es) in
    let m = c.decreases in
    let r = c.requires in
    let p = c.loop-slot.auto.plan in
    let q = c.loop-slot.auto.mem in
    let rp = r.plan in
    let rm = r.room in
    let x : Slot = record { scheme = 0; estimate = Sample } in
    let si : slice_index_or c.as_slice-slot-items.result.now i x ≡ slice_index_or ss i x = ap (λ (xs : List Slot). slice_index_or xs i x) es in
    let a = subst (λ (z : Slot). Able ms k z.scheme) (sym si) (able L ms k ss i b w inv x lt) in
    (omega arith, (within.0, (within.1, (r.level, (r.deep, (r.sound, (r.clean, (r.measured, (a, (omega arith, omega arith))))))))))

pub decide-returns-in_err-late-clause-is : goal.decide-returns-in_err-late-clause-is
decide-returns-in_err-late-clause-is g t c =
    let ms = g.B.Bank.meanings c.args.bank.now.schemes.now in
    let d = g.D.Draws.source in
    let L = late d (levels ms d (c.args.ctx.now.allowed_cascading - 1)) (seen c.args.col.array) (stats_in c.args.col) (history_of c.args.ctx.now) c.args.ctx.now.is_sample in
    let k = number_of c.args.col.array.kind in
    let ss = slots_of c.args.waiting.now in
    let i = c.loop-slot.slot-index in
    let b = c.loop-slot.best in
    let w = decided L (deferred_of ms ss) (best_of ms c.args.best) in
    let inv = c.loop-slot.invariant in
    let es = c.as_slice-slot-items.ensures.items in
    let lt : i < length ss = omega (arith, ap length es) in
    let x : Slot = record { scheme = 0; estimate = Sample } in
    let si : slice_index_or c.as_slice-slot-items.result.now i x ≡ slice_index_or ss i x = ap (λ (xs : List Slot). slice_index_or xs i x) es in
    let er : c.late.result ≡ L (at ms (slice_index_or {A = Slot} ss i x).scheme) (slice_index_or {A = Slot} ss i x).estimate c.mark.result = c.late.ensures ∙ ap (λ (z : Slot). L (at ms z.scheme) z.estimate c.mark.result) si in
    let e = c.in_err-late.field-0.0 in
    let eq : c.from_residual.result ≡ Err e = search rules in
    ap (named ms) eq ∙ refused L ms k ss i b w inv x lt c.late.result c.mark.result (c.mark.ensures ms) er e c.in_err-late.was

pub decide-returns-in-AlwaysUse-clause-is : goal.decide-returns-in-AlwaysUse-clause-is
decide-returns-in-AlwaysUse-clause-is g t c =
    let ms = g.B.Bank.meanings c.args.bank.now.schemes.now in
    let d = g.D.Draws.source in
    let L = late d (levels ms d (c.args.ctx.now.allowed_cascading - 1)) (seen c.args.col.array) (stats_in c.args.col) (history_of c.args.ctx.now) c.args.ctx.now.is_sample in
    let k = number_of c.args.col.array.kind in
    let ss = slots_of c.args.waiting.now in
    let i = c.loop-slot.slot-index in
    let b = c.loop-slot.best in
    let w = decided L (deferred_of ms ss) (best_of ms c.args.best) in
    let inv = c.loop-slot.invariant in
    let es = c.as_slice-slot-items.ensures.items in
    let lt : i < length ss = omega (arith, ap length es) in
    let x : Slot = record { scheme = 0; estimate = Sample } in
    let si : slice_index_or c.as_slice-slot-items.result.now i x ≡ slice_index_or ss i x = ap (λ (xs : List Slot). slice_index_or xs i x) es in
    let er : c.late.result ≡ L (at ms (slice_index_or {A = Slot} ss i x).scheme) (slice_index_or {A = Slot} ss i x).estimate c.mark.result = c.late.ensures ∙ ap (λ (z : Slot). L (at ms z.scheme) z.estimate c.mark.result) si in
    ap (λ (z : Slot). Ok (Some (at ms z.scheme))) si ∙ always L ms k ss i b w inv x lt c.late.result c.mark.result (c.mark.ensures ms) er (c.in_ok-late.was ∙ ap Ok c.in-AlwaysUse.is)

pub decide-returns-in-AlwaysUse-clause-able : goal.decide-returns-in-AlwaysUse-clause-able
decide-returns-in-AlwaysUse-clause-able g t c =
    let ms = g.B.Bank.meanings c.args.bank.now.schemes.now in
    let d = g.D.Draws.source in
    let L = late d (levels ms d (c.args.ctx.now.allowed_cascading - 1)) (seen c.args.col.array) (stats_in c.args.col) (history_of c.args.ctx.now) c.args.ctx.now.is_sample in
    let k = number_of c.args.col.array.kind in
    let ss = slots_of c.args.waiting.now in
    let i = c.loop-slot.slot-index in
    let b = c.loop-slot.best in
    let w = decided L (deferred_of ms ss) (best_of ms c.args.best) in
    let inv = c.loop-slot.invariant in
    let es = c.as_slice-slot-items.ensures.items in
    let lt : i < length ss = omega (arith, ap length es) in
    let x : Slot = record { scheme = 0; estimate = Sample } in
    let si : slice_index_or c.as_slice-slot-items.result.now i x ≡ slice_index_or ss i x = ap (λ (xs : List Slot). slice_index_or xs i x) es in
    subst (λ (z : Slot). Able ms k z.scheme) (sym si) (able L ms k ss i b w inv x lt)

pub decide-loop-slot-preserved : goal.decide-loop-slot-preserved
decide-loop-slot-preserved g t c =
    let ms = g.B.Bank.meanings c.args.bank.now.schemes.now in
    let d = g.D.Draws.source in
    let L = late d (levels ms d (c.args.ctx.now.allowed_cascading - 1)) (seen c.args.col.array) (stats_in c.args.col) (history_of c.args.ctx.now) c.args.ctx.now.is_sample in
    let k = number_of c.args.col.array.kind in
    let ss = slots_of c.args.waiting.now in
    let i = c.loop-slot.slot-index in
    let b = c.loop-slot.best in
    let w = decided L (deferred_of ms ss) (best_of ms c.args.best) in
    let inv = c.loop-slot.invariant in
    let es = c.as_slice-slot-items.ensures.items in
    let lt : i < length ss = omega (arith, ap length es) in
    let x : Slot = record { scheme = 0; estimate = Sample } in
    let si : slice_index_or c.as_slice-slot-items.result.now i x ≡ slice_index_or ss i x = ap (λ (xs : List Slot). slice_index_or xs i x) es in
    let er : c.late.result ≡ L (at ms (slice_index_or {A = Slot} ss i x).scheme) (slice_index_or {A = Slot} ss i x).estimate c.mark.result = c.late.ensures ∙ ap (λ (z : Slot). L (at ms z.scheme) z.estimate c.mark.result) si in
    elim c.match-branch-2.branch [
      | decide-in-Skip q ↦ skipped L ms k ss i b w inv x lt c.late.result c.mark.result (c.mark.ensures ms) er c.match-branch-2.best (c.in_ok-late.was ∙ ap Ok q.in-Skip.is) q.best-is
      | decide-in-Ratio q ↦
          let a = subst (λ (z : Slot). Able ms k z.scheme) (sym si) (able L ms k ss i b w inv x lt) in
          scored-next L ms k ss i b w inv x lt c.late.result c.mark.result (c.mark.ensures ms) er q.in-Ratio.ratio c.match-branch-2.best q.better_of-best.result (c.in_ok-late.was ∙ ap Ok q.in-Ratio.is) q.best-is
          (q.better_of-best.ensures.is ms ∙ ap (λ (z : Slot). bested (at ms z.scheme) (FiniteCompression q.in-Ratio.ratio) (best_of ms b)) si) (q.better_of-best.ensures.able ms k a inv.leader)
    ]

pub decide-returns-clause-is : goal.decide-returns-clause-is
decide-returns-clause-is g t c =
    let ms = g.B.Bank.meanings c.args.bank.now.schemes.now in
    let e = c.as_slice-slot-items.ensures.items in
    c.winner_of.ensures.is ms ∙ kept-last _ ms (number_of c.args.col.array.kind) (slots_of c.args.waiting.now) c.loop-slot.slot-index c.loop-slot.best _ c.loop-slot.invariant (omega (arith, ap length e))

pub decide-returns-clause-able : goal.decide-returns-clause-able
decide-returns-clause-able g t c = c.winner_of.ensures.able (g.B.Bank.meanings c.args.bank.now.schemes.now) (number_of c.args.col.array.kind) c.loop-slot.invariant.leader

-- ---- late and score

pub late-score-requires : goal.late-score-requires
late-score-requires g t c κs within =
    let m = c.decreases in
    let r = c.requires in
    (omega arith, (within.0, (within.1, (r.level, (r.deep, (r.able, (r.plan, r.room)))))))

pub score-measure_scheme-requires : goal.score-measure_scheme-requires
score-measure_scheme-requires g t c κs within =
    let m = c.decreases in
    let r = c.requires in
    let v = c.args.array.view in
    let s = c.sampled-sample.result.view in
    let w = c.with_sampling.ensures in
    let el = ap (λ x. x.allowed_cascading) w in
    let eh = ap (λ x. length (history_of x)) w in
    let ek = ap (λ x. x.kind) c.sampled-sample.ensures.column in
    let rows = c.sampled-sample.ensures.rows in
    let l = c.args.ctx.now.allowed_cascading in
    let pe = ap places el in
    let rd = r.deep in
    let rl = r.level in
    let rp = r.plan in
    let rr = r.room in
    let b1 = c.split_at_mut-cells.ensures.back_len in
    let b2 = c.split_at_mut-words.ensures.back_len in
    let rn = c.rows-rows.ensures in
    let wn = c.words_for.ensures in
    let sl = scheme-less (l - 1) (length s.cells.now) (length v.cells.now) rows in
    let se = ap (λ x. scheme_room (x - 1) (length s.cells.now)) el in
    let ab = subst (λ k. Able (g.B.Bank.meanings c.args.bank.now.schemes.now) k c.args.scheme) (sym (ek ∙ sample-kind g.D.Draws.source c.is_sample.result (seen v))) r.able in
    (omega arith, (within.0, (within.1, (omega arith, (omega arith, (ab, (omega arith, omega arith)))))))

-- ---- measure_scheme

pub measure_scheme-returns-in-Err : goal.measure_scheme-returns-in-Err
measure_scheme-returns-in-Err g t c =
    let ms = g.B.Bank.meanings c.args.bank.now.schemes.now in
    let d = g.D.Draws.source in
    let l = c.args.ctx.now.allowed_cascading in
    let v = c.args.array.view in
    let h = history_of c.args.ctx.now in
    let f = c.args.ctx.now.is_sample in
    let m = at ms c.args.scheme in
    let below = levels ms d (l - 1) in
    let e = bound-refused below m (seen v) h f c.in-Err.refused.row c.refusal.result c.args.plan.now (not-parted m (seen v) c.in-Err.refused.row c.in-Err.ensures)
    (c.refusal.ensures ∙ ap (λ x. SchemeRefused c.in-Err.refused.row x (length h) f) c.id_at-id.ensures) in
    record { size = e.size; plan = e.plan }

pub measure_scheme-bounds-plan-0 : goal.measure_scheme-bounds-plan-0
measure_scheme-bounds-plan-0 g t c =
    let p = places-some c.args.ctx.now.allowed_cascading in
    let q = c.requires.plan in
    omega arith

pub measure_scheme-leaf-own-requires : goal.measure_scheme-leaf-own-requires
measure_scheme-leaf-own-requires g t c =
    let ms = g.B.Bank.meanings c.args.bank.now.schemes.now in
    let d = g.D.Draws.source in
    let l = c.args.ctx.now.allowed_cascading in
    let v = c.args.array.view in
    let h = history_of c.args.ctx.now in
    let f = c.args.ctx.now.is_sample in
    let m = at ms c.args.scheme in
    let below = levels ms d (l - 1) in
    let kp = g.met.B.Bank.all c.args.bank.now.schemes.now in
    let P = parted ms kp (seen v) c.args.array.clean.clean c.args.scheme c.requires.able c.in-Ok.apart c.in-Ok.ensures in
    let k = P.keep.small in
    let e = P.payload in
    let r = view-rows v in
    let w = c.args.array.sound.few in
    record { short = omega arith }

pub measure_scheme-returns-in-None : goal.measure_scheme-returns-in-None
measure_scheme-returns-in-None g t c =
    let ms = g.B.Bank.meanings c.args.bank.now.schemes.now in
    let d = g.D.Draws.source in
    let l = c.args.ctx.now.allowed_cascading in
    let v = c.args.array.view in
    let h = history_of c.args.ctx.now in
    let f = c.args.ctx.now.is_sample in
    let m = at ms c.args.scheme in
    let below = levels ms d (l - 1) in
    let kp = g.met.B.Bank.all c.args.bank.now.schemes.now in
    let P = parted ms kp (seen v) c.args.array.clean.clean c.args.scheme c.requires.able c.in-Ok.apart c.in-Ok.ensures in
    let ei = c.from.ensures ∙ c.id_at-id.ensures in
    let eo = c.leaf-own.ensures ∙ ap (λ x. record { weight = x; whole = head_size + x; nodes = 1 }) P.payload in
    let some = places-some l in
    let rp = c.requires.plan in
    let e = none-ends below m (seen v) h f P.parts P.given c.leaf-own.result _ (drop 1 c.args.plan.now) (ap children_seen (sym c.in-None.is) ∙ P.children) eo
    (first-set c.args.plan.now c.from.result m.id (omega arith) ei) in
    record { size = e.size; plan = e.plan }

pub measure_scheme-slice_bounds-measure-count : goal.measure_scheme-slice_bounds-measure-count
measure_scheme-slice_bounds-measure-count g t c =
    let l = c.args.ctx.now.allowed_cascading in
    let pu = places-up l c.requires.level in
    let rp = c.requires.plan in
    let X = slice_set c.args.plan.now 0 c.from.result in
    let sx = length-set c.args.plan.now 0 c.from.result in
    omega arith

pub measure_scheme-slice_bounds-measure-start : goal.measure_scheme-slice_bounds-measure-start
measure_scheme-slice_bounds-measure-start g t c =
    let l = c.args.ctx.now.allowed_cascading in
    let pu = places-up l c.requires.level in
    let rp = c.requires.plan in
    let X = slice_set c.args.plan.now 0 c.from.result in
    let sx = length-set c.args.plan.now 0 c.from.result in
    let e : 1 ≤ length X = omega arith in
    e

pub measure_scheme-measure-requires : goal.measure_scheme-measure-requires
measure_scheme-measure-requires g t c κs within =
    let ms = g.B.Bank.meanings c.args.bank.now.schemes.now in
    let d = g.D.Draws.source in
    let l = c.args.ctx.now.allowed_cascading in
    let v = c.args.array.view in
    let h = history_of c.args.ctx.now in
    let f = c.args.ctx.now.is_sample in
    let m = at ms c.args.scheme in
    let below = levels ms d (l - 1) in
    let kp = g.met.B.Bank.all c.args.bank.now.schemes.now in
    let P = parted ms kp (seen v) c.args.array.clean.clean c.args.scheme c.requires.able c.in-Ok.apart c.in-Ok.ensures in
    let el = c.descend_with_scheme-below.ensures.levels in
    let eh = c.descend_with_scheme-below.ensures.history ∙ ap (λ x. h ++ ((x, 0) ∷ [])) c.id_at-id.ensures in
    let ef = c.descend_with_scheme-below.ensures.sample in
    let ec = ap children_seen (sym c.in-One.is) ∙ P.children in
    let pu = places-up l c.requires.level in
    let rp = c.requires.plan in
    let X = slice_set c.args.plan.now 0 c.from.result in
    let sx = length-set c.args.plan.now 0 c.from.result in
    let dc = c.decreases in
    let dp = c.requires.deep in
    let lv = c.requires.level in
    let rr = c.requires.room in
    let hl = ap length c.descend_with_scheme-below.ensures.history in
    let ha = length-append h ((c.id_at-id.result, 0) ∷ []) in
    let pe = ap places el in
    let pl = rest-length X 1 in
    let ks : length (seen c.in-One.child.view).rows ≤ length (seen v).rows = (subst (NoLonger (length (seen v).rows)) (sym ec) P.keep.kids_short).0 in
    let vr = view-rows v in
    let cr = view-rows c.in-One.child.view in
    let rl = room-less (l - 1) (length c.in-One.child.view.cells.now) (length v.cells.now) (omega arith) in
    let re = ap (λ x. room x (length c.in-One.child.view.cells.now)) el in
    let sp = c.split_at_mut-places.ensures.back_len in
    let pf = c.places_for.ensures in
    let ro = c.rows.ensures in
    let ta = c.take_apart.auto.mem in
    let rm : room (l - 1) (length c.in-One.child.view.cells.now) ≤ length c.take_apart.new.mem = omega arith in
    (omega arith, (within.0, (within.1, (omega arith, (omega arith, subst (λ x. x ≤ length c.take_apart.new.mem) (sym re) rm)))))

pub measure_scheme-returns-in_err-size-in-One : goal.measure_scheme-returns-in_err-size-in-One
measure_scheme-returns-in_err-size-in-One g t c =
    let ms = g.B.Bank.meanings c.args.bank.now.schemes.now in
    let d = g.D.Draws.source in
    let l = c.args.ctx.now.allowed_cascading in
    let v = c.args.array.view in
    let h = history_of c.args.ctx.now in
    let f = c.args.ctx.now.is_sample in
    let m = at ms c.args.scheme in
    let below = levels ms d (l - 1) in
    let kp = g.met.B.Bank.all c.args.bank.now.schemes.now in
    let P = parted ms kp (seen v) c.args.array.clean.clean c.args.scheme c.requires.able c.in-Ok.apart c.in-Ok.ensures in
    let el = c.descend_with_scheme-below.ensures.levels in
    let eh = c.descend_with_scheme-below.ensures.history ∙ ap (λ x. h ++ ((x, 0) ∷ [])) c.id_at-id.ensures in
    let ef = c.descend_with_scheme-below.ensures.sample in
    let ec = ap children_seen (sym c.in-One.is) ∙ P.children in
    let er = c.in_err-size-in-One.field-0.0 in
    let e = first-refused below m (seen v) h f P.parts P.given (seen c.in-One.child.view) [] er _ ec (refused-as ms d (seen c.in-One.child.view) el eh ef er c.in_err-size-in-One.ensures.size) in
    let eq : c.from_residual.result ≡ Err er = search rules in
    record { size = eq ∙ e.size; plan = e.plan }

pub measure_scheme-over-requires : goal.measure_scheme-over-requires
measure_scheme-over-requires g t c =
    let ms = g.B.Bank.meanings c.args.bank.now.schemes.now in
    let d = g.D.Draws.source in
    let l = c.args.ctx.now.allowed_cascading in
    let v = c.args.array.view in
    let h = history_of c.args.ctx.now in
    let f = c.args.ctx.now.is_sample in
    let m = at ms c.args.scheme in
    let below = levels ms d (l - 1) in
    let kp = g.met.B.Bank.all c.args.bank.now.schemes.now in
    let P = parted ms kp (seen v) c.args.array.clean.clean c.args.scheme c.requires.able c.in-Ok.apart c.in-Ok.ensures in
    let dp = c.requires.deep in
    let lv = c.requires.level in
    let le : l - 1 ≤ 8 = omega arith in
    let el = c.descend_with_scheme-below.ensures.levels in
    let eh = c.descend_with_scheme-below.ensures.history ∙ ap (λ x. h ++ ((x, 0) ∷ [])) c.id_at-id.ensures in
    let ef = c.descend_with_scheme-below.ensures.sample in
    let K = kid ms d (seen c.in-One.child.view) el eh ef kp le c.in-One.child.clean.clean c.in_ok-size-in-One.size c.measure.new.plan c.in_ok-size-in-One.ensures.size c.in_ok-size-in-One.ensures.plan in
    let k = P.keep.small in
    let e = P.payload in
    let r = view-rows v in
    let w = c.args.array.sound.few in
    let ow = ap (λ x. x.weight) c.leaf-own.ensures in
    let ov = ap (λ x. x.whole) c.leaf-own.ensures in
    let on = ap (λ x. x.nodes) c.leaf-own.ensures in
    let kl = K.light in
    let ks = K.short in
    let kf = K.fewer in
    record { weight = omega arith; whole = omega arith; nodes = omega arith }

pub measure_scheme-returns-in_ok-size-in-One : goal.measure_scheme-returns-in_ok-size-in-One
measure_scheme-returns-in_ok-size-in-One g t c =
    let ms = g.B.Bank.meanings c.args.bank.now.schemes.now in
    let d = g.D.Draws.source in
    let l = c.args.ctx.now.allowed_cascading in
    let v = c.args.array.view in
    let h = history_of c.args.ctx.now in
    let f = c.args.ctx.now.is_sample in
    let m = at ms c.args.scheme in
    let below = levels ms d (l - 1) in
    let kp = g.met.B.Bank.all c.args.bank.now.schemes.now in
    let P = parted ms kp (seen v) c.args.array.clean.clean c.args.scheme c.requires.able c.in-Ok.apart c.in-Ok.ensures in
    let ei = c.from.ensures ∙ c.id_at-id.ensures in
    let eo = c.leaf-own.ensures ∙ ap (λ x. record { weight = x; whole = head_size + x; nodes = 1 }) P.payload in
    let dp = c.requires.deep in
    let lv = c.requires.level in
    let le : l - 1 ≤ 8 = omega arith in
    let ec = ap children_seen (sym c.in-One.is) ∙ P.children in
    let el = c.descend_with_scheme-below.ensures.levels in
    let eh = c.descend_with_scheme-below.ensures.history ∙ ap (λ x. h ++ ((x, 0) ∷ [])) c.id_at-id.ensures in
    let ef = c.descend_with_scheme-below.ensures.sample in
    let K = kid ms d (seen c.in-One.child.view) el eh ef kp le c.in-One.child.clean.clean c.in_ok-size-in-One.size c.measure.new.plan c.in_ok-size-in-One.ensures.size c.in_ok-size-in-One.ensures.plan in
    let X = slice_set c.args.plan.now 0 c.from.result in
    let some = places-some l in
    let rp = c.requires.plan in
    let post = post_of 1 (length X - 1) X in
    let e = one-ends below m (seen v) h f P.parts P.given (seen c.in-One.child.view) c.over.result c.leaf-own.result c.in_ok-size-in-One.size _ c.measure.new.plan post ec K eo c.over.ensures
    (placed c.args.plan.now c.measure.new.plan post c.from.result m.id (omega arith) ei) in
    record { size = e.size; plan = e.plan }

pub measure_scheme-slice_bounds-measure-count-in-Two : goal.measure_scheme-slice_bounds-measure-count-in-Two
measure_scheme-slice_bounds-measure-count-in-Two g t c =
    let l = c.args.ctx.now.allowed_cascading in
    let pu = places-up l c.requires.level in
    let rp = c.requires.plan in
    let X = slice_set c.args.plan.now 0 c.from.result in
    let sx = length-set c.args.plan.now 0 c.from.result in
    omega arith

pub measure_scheme-slice_bounds-measure-start-in-Two : goal.measure_scheme-slice_bounds-measure-start-in-Two
measure_scheme-slice_bounds-measure-start-in-Two g t c =
    let l = c.args.ctx.now.allowed_cascading in
    let pu = places-up l c.requires.level in
    let rp = c.requires.plan in
    let X = slice_set c.args.plan.now 0 c.from.result in
    let sx = length-set c.args.plan.now 0 c.from.result in
    let e : 1 ≤ length X = omega arith in
    e

pub measure_scheme-measure-requires-in-Two : goal.measure_scheme-measure-requires-in-Two
measure_scheme-measure-requires-in-Two g t c κs within =
    let ms = g.B.Bank.meanings c.args.bank.now.schemes.now in
    let d = g.D.Draws.source in
    let l = c.args.ctx.now.allowed_cascading in
    let v = c.args.array.view in
    let h = history_of c.args.ctx.now in
    let f = c.args.ctx.now.is_sample in
    let m = at ms c.args.scheme in
    let below = levels ms d (l - 1) in
    let kp = g.met.B.Bank.all c.args.bank.now.schemes.now in
    let P = parted ms kp (seen v) c.args.array.clean.clean c.args.scheme c.requires.able c.in-Ok.apart c.in-Ok.ensures in
    let el = c.descend_with_scheme-below-in-Two.ensures.levels in
    let eh = c.descend_with_scheme-below-in-Two.ensures.history ∙ ap (λ x. h ++ ((x, 0) ∷ [])) c.id_at-id.ensures in
    let ef = c.descend_with_scheme-below-in-Two.ensures.sample in
    let ec = ap children_seen (sym c.in-Two.is) ∙ P.children in
    let pu = places-up l c.requires.level in
    let rp = c.requires.plan in
    let X = slice_set c.args.plan.now 0 c.from.result in
    let sx = length-set c.args.plan.now 0 c.from.result in
    let dc = c.decreases in
    let dp = c.requires.deep in
    let lv = c.requires.level in
    let rr = c.requires.room in
    let hl = ap length c.descend_with_scheme-below-in-Two.ensures.history in
    let ha = length-append h ((c.id_at-id.result, 0) ∷ []) in
    let pe = ap places el in
    let pl = rest-length X 1 in
    let ks : length (seen c.in-Two.child0.view).rows ≤ length (seen v).rows = (subst (NoLonger (length (seen v).rows)) (sym ec) P.keep.kids_short).0 in
    let vr = view-rows v in
    let cr = view-rows c.in-Two.child0.view in
    let rl = room-less (l - 1) (length c.in-Two.child0.view.cells.now) (length v.cells.now) (omega arith) in
    let re = ap (λ x. room x (length c.in-Two.child0.view.cells.now)) el in
    let sp = c.split_at_mut-places.ensures.back_len in
    let pf = c.places_for.ensures in
    let ro = c.rows.ensures in
    let ta = c.take_apart.auto.mem in
    let rm : room (l - 1) (length c.in-Two.child0.view.cells.now) ≤ length c.take_apart.new.mem = omega arith in
    (omega arith, (within.0, (within.1, (omega arith, (omega arith, subst (λ x. x ≤ length c.take_apart.new.mem) (sym re) rm)))))

pub measure_scheme-returns-in_err-size0-in-Two : goal.measure_scheme-returns-in_err-size0-in-Two
measure_scheme-returns-in_err-size0-in-Two g t c =
    let ms = g.B.Bank.meanings c.args.bank.now.schemes.now in
    let d = g.D.Draws.source in
    let l = c.args.ctx.now.allowed_cascading in
    let v = c.args.array.view in
    let h = history_of c.args.ctx.now in
    let f = c.args.ctx.now.is_sample in
    let m = at ms c.args.scheme in
    let below = levels ms d (l - 1) in
    let kp = g.met.B.Bank.all c.args.bank.now.schemes.now in
    let P = parted ms kp (seen v) c.args.array.clean.clean c.args.scheme c.requires.able c.in-Ok.apart c.in-Ok.ensures in
    let el = c.descend_with_scheme-below-in-Two.ensures.levels in
    let eh = c.descend_with_scheme-below-in-Two.ensures.history ∙ ap (λ x. h ++ ((x, 0) ∷ [])) c.id_at-id.ensures in
    let ef = c.descend_with_scheme-below-in-Two.ensures.sample in
    let ec = ap children_seen (sym c.in-Two.is) ∙ P.children in
    let er = c.in_err-size0-in-Two.field-0.0 in
    let e = first-refused below m (seen v) h f P.parts P.given (seen c.in-Two.child0.view) (seen c.in-Two.child1.view ∷ []) er _ ec (refused-as ms d (seen c.in-Two.child0.view) el eh ef er c.in_err-size0-in-Two.ensures.size) in
    let eq : c.from_residual-in_err-size0-in-Two.result ≡ Err er = search rules in
    record { size = eq ∙ e.size; plan = e.plan }

pub measure_scheme-over-size-requires : goal.measure_scheme-over-size-requires
measure_scheme-over-size-requires g t c =
    let ms = g.B.Bank.meanings c.args.bank.now.schemes.now in
    let d = g.D.Draws.source in
    let l = c.args.ctx.now.allowed_cascading in
    let v = c.args.array.view in
    let h = history_of c.args.ctx.now in
    let f = c.args.ctx.now.is_sample in
    let m = at ms c.args.scheme in
    let below = levels ms d (l - 1) in
    let kp = g.met.B.Bank.all c.args.bank.now.schemes.now in
    let P = parted ms kp (seen v) c.args.array.clean.clean c.args.scheme c.requires.able c.in-Ok.apart c.in-Ok.ensures in
    let dp = c.requires.deep in
    let lv = c.requires.level in
    let le : l - 1 ≤ 8 = omega arith in
    let el = c.descend_with_scheme-below-in-Two.ensures.levels in
    let eh = c.descend_with_scheme-below-in-Two.ensures.history ∙ ap (λ x. h ++ ((x, 0) ∷ [])) c.id_at-id.ensures in
    let ef = c.descend_with_scheme-below-in-Two.ensures.sample in
    let K = kid ms d (seen c.in-Two.child0.view) el eh ef kp le c.in-Two.child0.clean.clean c.in_ok-size0-in-Two.size0 c.measure-in-Two.new.plan c.in_ok-size0-in-Two.ensures.size c.in_ok-size0-in-Two.ensures.plan in
    let k = P.keep.small in
    let e = P.payload in
    let r = view-rows v in
    let w = c.args.array.sound.few in
    let ow = ap (λ x. x.weight) c.leaf-own.ensures in
    let ov = ap (λ x. x.whole) c.leaf-own.ensures in
    let on = ap (λ x. x.nodes) c.leaf-own.ensures in
    let kl = K.light in
    let ks = K.short in
    let kf = K.fewer in
    record { weight = omega arith; whole = omega arith; nodes = omega arith }

pub measure_scheme-offset_bounds-plan-size : goal.measure_scheme-offset_bounds-plan-size
measure_scheme-offset_bounds-plan-size g t c =
    let ms = g.B.Bank.meanings c.args.bank.now.schemes.now in
    let d = g.D.Draws.source in
    let l = c.args.ctx.now.allowed_cascading in
    let v = c.args.array.view in
    let h = history_of c.args.ctx.now in
    let f = c.args.ctx.now.is_sample in
    let m = at ms c.args.scheme in
    let below = levels ms d (l - 1) in
    let kp = g.met.B.Bank.all c.args.bank.now.schemes.now in
    let P = parted ms kp (seen v) c.args.array.clean.clean c.args.scheme c.requires.able c.in-Ok.apart c.in-Ok.ensures in
    let dp = c.requires.deep in
    let lv = c.requires.level in
    let le : l - 1 ≤ 8 = omega arith in
    let el = c.descend_with_scheme-below-in-Two.ensures.levels in
    let eh = c.descend_with_scheme-below-in-Two.ensures.history ∙ ap (λ x. h ++ ((x, 0) ∷ [])) c.id_at-id.ensures in
    let ef = c.descend_with_scheme-below-in-Two.ensures.sample in
    let K = kid ms d (seen c.in-Two.child0.view) el eh ef kp le c.in-Two.child0.clean.clean c.in_ok-size0-in-Two.size0 c.measure-in-Two.new.plan c.in_ok-size0-in-Two.ensures.size c.in_ok-size0-in-Two.ensures.plan in
    let pu = places-up l c.requires.level in
    let rp = c.requires.plan in
    let X = slice_set c.args.plan.now 0 c.from.result in
    let sx = length-set c.args.plan.now 0 c.from.result in
    let os = ap (λ x. x.nodes) c.over-size.ensures in
    let on = ap (λ x. x.nodes) c.leaf-own.ensures in
    let new = c.measure-in-Two.new.plan in
    let nl = c.measure-in-Two.auto.plan in
    let ml : length (put_mid 1 (length X - 1) X new) ≡ length X = same_len_mid 1 (length X - 1) X new nl in
    let kf = K.few in
    omega arith

pub measure_scheme-slice_bounds-measure-count-in-Two-2 : goal.measure_scheme-slice_bounds-measure-count-in-Two-2
measure_scheme-slice_bounds-measure-count-in-Two-2 g t c =
    let ms = g.B.Bank.meanings c.args.bank.now.schemes.now in
    let d = g.D.Draws.source in
    let l = c.args.ctx.now.allowed_cascading in
    let v = c.args.array.view in
    let h = history_of c.args.ctx.now in
    let f = c.args.ctx.now.is_sample in
    let m = at ms c.args.scheme in
    let below = levels ms d (l - 1) in
    let kp = g.met.B.Bank.all c.args.bank.now.schemes.now in
    let P = parted ms kp (seen v) c.args.array.clean.clean c.args.scheme c.requires.able c.in-Ok.apart c.in-Ok.ensures in
    let dp = c.requires.deep in
    let lv = c.requires.level in
    let le : l - 1 ≤ 8 = omega arith in
    let el = c.descend_with_scheme-below-in-Two.ensures.levels in
    let eh = c.descend_with_scheme-below-in-Two.ensures.history ∙ ap (λ x. h ++ ((x, 0) ∷ [])) c.id_at-id.ensures in
    let ef = c.descend_with_scheme-below-in-Two.ensures.sample in
    let K = kid ms d (seen c.in-Two.child0.view) el eh ef kp le c.in-Two.child0.clean.clean c.in_ok-size0-in-Two.size0 c.measure-in-Two.new.plan c.in_ok-size0-in-Two.ensures.size c.in_ok-size0-in-Two.ensures.plan in
    let pu = places-up l c.requires.level in
    let rp = c.requires.plan in
    let X = slice_set c.args.plan.now 0 c.from.result in
    let sx = length-set c.args.plan.now 0 c.from.result in
    let os = ap (λ x. x.nodes) c.over-size.ensures in
    let on = ap (λ x. x.nodes) c.leaf-own.ensures in
    let new = c.measure-in-Two.new.plan in
    let nl = c.measure-in-Two.auto.plan in
    let ml : length (put_mid 1 (length X - 1) X new) ≡ length X = same_len_mid 1 (length X - 1) X new nl in
    let kf = K.few in
    omega arith

pub measure_scheme-slice_bounds-measure-start-in-Two-2 : goal.measure_scheme-slice_bounds-measure-start-in-Two-2
measure_scheme-slice_bounds-measure-start-in-Two-2 g t c =
    let ms = g.B.Bank.meanings c.args.bank.now.schemes.now in
    let d = g.D.Draws.source in
    let l = c.args.ctx.now.allowed_cascading in
    let v = c.args.array.view in
    let h = history_of c.args.ctx.now in
    let f = c.args.ctx.now.is_sample in
    let m = at ms c.args.scheme in
    let below = levels ms d (l - 1) in
    let kp = g.met.B.Bank.all c.args.bank.now.schemes.now in
    let P = parted ms kp (seen v) c.args.array.clean.clean c.args.scheme c.requires.able c.in-Ok.apart c.in-Ok.ensures in
    let dp = c.requires.deep in
    let lv = c.requires.level in
    let le : l - 1 ≤ 8 = omega arith in
    let el = c.descend_with_scheme-below-in-Two.ensures.levels in
    let eh = c.descend_with_scheme-below-in-Two.ensures.history ∙ ap (λ x. h ++ ((x, 0) ∷ [])) c.id_at-id.ensures in
    let ef = c.descend_with_scheme-below-in-Two.ensures.sample in
    let K = kid ms d (seen c.in-Two.child0.view) el eh ef kp le c.in-Two.child0.clean.clean c.in_ok-size0-in-Two.size0 c.measure-in-Two.new.plan c.in_ok-size0-in-Two.ensures.size c.in_ok-size0-in-Two.ensures.plan in
    let pu = places-up l c.requires.level in
    let rp = c.requires.plan in
    let X = slice_set c.args.plan.now 0 c.from.result in
    let sx = length-set c.args.plan.now 0 c.from.result in
    let os = ap (λ x. x.nodes) c.over-size.ensures in
    let on = ap (λ x. x.nodes) c.leaf-own.ensures in
    let new = c.measure-in-Two.new.plan in
    let nl = c.measure-in-Two.auto.plan in
    let ml : length (put_mid 1 (length X - 1) X new) ≡ length X = same_len_mid 1 (length X - 1) X new nl in
    let kf = K.few in
    let e : c.over-size.result.nodes ≤ length (put_mid 1 (length X - 1) X new) = omega arith in
    e

pub measure_scheme-measure-requires-in-Two-2 : goal.measure_scheme-measure-requires-in-Two-2
measure_scheme-measure-requires-in-Two-2 g t c κs within =
    let ms = g.B.Bank.meanings c.args.bank.now.schemes.now in
    let d = g.D.Draws.source in
    let l = c.args.ctx.now.allowed_cascading in
    let v = c.args.array.view in
    let h = history_of c.args.ctx.now in
    let f = c.args.ctx.now.is_sample in
    let m = at ms c.args.scheme in
    let below = levels ms d (l - 1) in
    let kp = g.met.B.Bank.all c.args.bank.now.schemes.now in
    let P = parted ms kp (seen v) c.args.array.clean.clean c.args.scheme c.requires.able c.in-Ok.apart c.in-Ok.ensures in
    let el = c.descend_with_scheme-below-in-Two-2.ensures.levels in
    let eh = c.descend_with_scheme-below-in-Two-2.ensures.history ∙ ap (λ x. h ++ ((x, 1) ∷ [])) c.id_at-id.ensures in
    let ef = c.descend_with_scheme-below-in-Two-2.ensures.sample in
    let ec = ap children_seen (sym c.in-Two.is) ∙ P.children in
    let pu = places-up l c.requires.level in
    let rp = c.requires.plan in
    let X = slice_set c.args.plan.now 0 c.from.result in
    let sx = length-set c.args.plan.now 0 c.from.result in
    let dc = c.decreases in
    let dp = c.requires.deep in
    let lv = c.requires.level in
    let rr = c.requires.room in
    let hl = ap length c.descend_with_scheme-below-in-Two-2.ensures.history in
    let ha = length-append h ((c.id_at-id.result, 1) ∷ []) in
    let pe = ap places el in
    let ks : length (seen c.in-Two.child1.view).rows ≤ length (seen v).rows = (subst (NoLonger (length (seen v).rows)) (sym ec) P.keep.kids_short).1.0 in
    let vr = view-rows v in
    let cr = view-rows c.in-Two.child1.view in
    let rl = room-less (l - 1) (length c.in-Two.child1.view.cells.now) (length v.cells.now) (omega arith) in
    let re = ap (λ x. room x (length c.in-Two.child1.view.cells.now)) el in
    let sp = c.split_at_mut-places.ensures.back_len in
    let pf = c.places_for.ensures in
    let ro = c.rows.ensures in
    let ta = c.take_apart.auto.mem in
    let tm = c.measure-in-Two.auto.mem in
    let le : l - 1 ≤ 8 = omega arith in
    let el0 = c.descend_with_scheme-below-in-Two.ensures.levels in
    let eh0 = c.descend_with_scheme-below-in-Two.ensures.history ∙ ap (λ x. h ++ ((x, 0) ∷ [])) c.id_at-id.ensures in
    let ef0 = c.descend_with_scheme-below-in-Two.ensures.sample in
    let K = kid ms d (seen c.in-Two.child0.view) el0 eh0 ef0 kp le c.in-Two.child0.clean.clean c.in_ok-size0-in-Two.size0 c.measure-in-Two.new.plan c.in_ok-size0-in-Two.ensures.size c.in_ok-size0-in-Two.ensures.plan in
    let os = ap (λ x. x.nodes) c.over-size.ensures in
    let on = ap (λ x. x.nodes) c.leaf-own.ensures in
    let new = c.measure-in-Two.new.plan in
    let nl = c.measure-in-Two.auto.plan in
    let ml : length (put_mid 1 (length X - 1) X new) ≡ length X = same_len_mid 1 (length X - 1) X new nl in
    let kf = K.few in
    let rm : room (l - 1) (length c.in-Two.child1.view.cells.now) ≤ length c.measure-in-Two.new.mem = omega arith in
    let pl = rest-length (put_mid 1 (length X - 1) X new) c.over-size.result.nodes in
    (omega arith, (within.0, (within.1, (omega arith, (omega arith, subst (λ x. x ≤ length c.measure-in-Two.new.mem) (sym re) rm)))))

pub measure_scheme-returns-in_err-size1-in-Two : goal.measure_scheme-returns-in_err-size1-in-Two
measure_scheme-returns-in_err-size1-in-Two g t c =
    let ms = g.B.Bank.meanings c.args.bank.now.schemes.now in
    let d = g.D.Draws.source in
    let l = c.args.ctx.now.allowed_cascading in
    let v = c.args.array.view in
    let h = history_of c.args.ctx.now in
    let f = c.args.ctx.now.is_sample in
    let m = at ms c.args.scheme in
    let below = levels ms d (l - 1) in
    let kp = g.met.B.Bank.all c.args.bank.now.schemes.now in
    let P = parted ms kp (seen v) c.args.array.clean.clean c.args.scheme c.requires.able c.in-Ok.apart c.in-Ok.ensures in
    let dp = c.requires.deep in
    let lv = c.requires.level in
    let le : l - 1 ≤ 8 = omega arith in
    let ec = ap children_seen (sym c.in-Two.is) ∙ P.children in
    let el = c.descend_with_scheme-below-in-Two.ensures.levels in
    let eh = c.descend_with_scheme-below-in-Two.ensures.history ∙ ap (λ x. h ++ ((x, 0) ∷ [])) c.id_at-id.ensures in
    let ef = c.descend_with_scheme-below-in-Two.ensures.sample in
    let K = kid ms d (seen c.in-Two.child0.view) el eh ef kp le c.in-Two.child0.clean.clean c.in_ok-size0-in-Two.size0 c.measure-in-Two.new.plan c.in_ok-size0-in-Two.ensures.size c.in_ok-size0-in-Two.ensures.plan in
    let el1 = c.descend_with_scheme-below-in-Two-2.ensures.levels in
    let eh1 = c.descend_with_scheme-below-in-Two-2.ensures.history ∙ ap (λ x. h ++ ((x, 1) ∷ [])) c.id_at-id.ensures in
    let ef1 = c.descend_with_scheme-below-in-Two-2.ensures.sample in
    let er = c.in_err-size1-in-Two.field-0.0 in
    let e = second-refused below m (seen v) h f P.parts P.given (seen c.in-Two.child0.view) (seen c.in-Two.child1.view) ec c.in_ok-size0-in-Two.size0 c.measure-in-Two.new.plan K er _
    (refused-as ms d (seen c.in-Two.child1.view) el1 eh1 ef1 er c.in_err-size1-in-Two.ensures.size) in
    let eq : c.from_residual-in_err-size1-in-Two.result ≡ Err er = search rules in
    record { size = eq ∙ e.size; plan = e.plan }

pub measure_scheme-over-requires-in-Two : goal.measure_scheme-over-requires-in-Two
measure_scheme-over-requires-in-Two g t c =
    let ms = g.B.Bank.meanings c.args.bank.now.schemes.now in
    let d = g.D.Draws.source in
    let l = c.args.ctx.now.allowed_cascading in
    let v = c.args.array.view in
    let h = history_of c.args.ctx.now in
    let f = c.args.ctx.now.is_sample in
    let m = at ms c.args.scheme in
    let below = levels ms d (l - 1) in
    let kp = g.met.B.Bank.all c.args.bank.now.schemes.now in
    let P = parted ms kp (seen v) c.args.array.clean.clean c.args.scheme c.requires.able c.in-Ok.apart c.in-Ok.ensures in
    let dp = c.requires.deep in
    let lv = c.requires.level in
    let le : l - 1 ≤ 8 = omega arith in
    let el = c.descend_with_scheme-below-in-Two.ensures.levels in
    let eh = c.descend_with_scheme-below-in-Two.ensures.history ∙ ap (λ x. h ++ ((x, 0) ∷ [])) c.id_at-id.ensures in
    let ef = c.descend_with_scheme-below-in-Two.ensures.sample in
    let K = kid ms d (seen c.in-Two.child0.view) el eh ef kp le c.in-Two.child0.clean.clean c.in_ok-size0-in-Two.size0 c.measure-in-Two.new.plan c.in_ok-size0-in-Two.ensures.size c.in_ok-size0-in-Two.ensures.plan in
    let el1 = c.descend_with_scheme-below-in-Two-2.ensures.levels in
    let eh1 = c.descend_with_scheme-below-in-Two-2.ensures.history ∙ ap (λ x. h ++ ((x, 1) ∷ [])) c.id_at-id.ensures in
    let ef1 = c.descend_with_scheme-below-in-Two-2.ensures.sample in
    let K1 = kid ms d (seen c.in-Two.child1.view) el1 eh1 ef1 kp le c.in-Two.child1.clean.clean c.in_ok-size1-in-Two.size1 c.measure-in-Two-2.new.plan c.in_ok-size1-in-Two.ensures.size c.in_ok-size1-in-Two.ensures.plan in
    let k = P.keep.small in
    let e = P.payload in
    let r = view-rows v in
    let w = c.args.array.sound.few in
    let ow = ap (λ x. x.weight) c.leaf-own.ensures in
    let ov = ap (λ x. x.whole) c.leaf-own.ensures in
    let on = ap (λ x. x.nodes) c.leaf-own.ensures in
    let kl = K.light in
    let ks = K.short in
    let kf = K.fewer in
    let kl1 = K1.light in
    let ks1 = K1.short in
    let kf1 = K1.fewer in
    let o1 = ap (λ x. x.weight) c.over-size.ensures in
    let o2 = ap (λ x. x.whole) c.over-size.ensures in
    let o3 = ap (λ x. x.nodes) c.over-size.ensures in
    record { weight = omega arith; whole = omega arith; nodes = omega arith }

pub measure_scheme-returns-in_ok-size1-in-Two : goal.measure_scheme-returns-in_ok-size1-in-Two
measure_scheme-returns-in_ok-size1-in-Two g t c =
    let ms = g.B.Bank.meanings c.args.bank.now.schemes.now in
    let d = g.D.Draws.source in
    let l = c.args.ctx.now.allowed_cascading in
    let v = c.args.array.view in
    let h = history_of c.args.ctx.now in
    let f = c.args.ctx.now.is_sample in
    let m = at ms c.args.scheme in
    let below = levels ms d (l - 1) in
    let kp = g.met.B.Bank.all c.args.bank.now.schemes.now in
    let P = parted ms kp (seen v) c.args.array.clean.clean c.args.scheme c.requires.able c.in-Ok.apart c.in-Ok.ensures in
    let ei = c.from.ensures ∙ c.id_at-id.ensures in
    let eo = c.leaf-own.ensures ∙ ap (λ x. record { weight = x; whole = head_size + x; nodes = 1 }) P.payload in
    let dp = c.requires.deep in
    let lv = c.requires.level in
    let le : l - 1 ≤ 8 = omega arith in
    let ec = ap children_seen (sym c.in-Two.is) ∙ P.children in
    let el = c.descend_with_scheme-below-in-Two.ensures.levels in
    let eh = c.descend_with_scheme-below-in-Two.ensures.history ∙ ap (λ x. h ++ ((x, 0) ∷ [])) c.id_at-id.ensures in
    let ef = c.descend_with_scheme-below-in-Two.ensures.sample in
    let K = kid ms d (seen c.in-Two.child0.view) el eh ef kp le c.in-Two.child0.clean.clean c.in_ok-size0-in-Two.size0 c.measure-in-Two.new.plan c.in_ok-size0-in-Two.ensures.size c.in_ok-size0-in-Two.ensures.plan in
    let el1 = c.descend_with_scheme-below-in-Two-2.ensures.levels in
    let eh1 = c.descend_with_scheme-below-in-Two-2.ensures.history ∙ ap (λ x. h ++ ((x, 1) ∷ [])) c.id_at-id.ensures in
    let ef1 = c.descend_with_scheme-below-in-Two-2.ensures.sample in
    let K1 = kid ms d (seen c.in-Two.child1.view) el1 eh1 ef1 kp le c.in-Two.child1.clean.clean c.in_ok-size1-in-Two.size1 c.measure-in-Two-2.new.plan c.in_ok-size1-in-Two.ensures.size c.in_ok-size1-in-Two.ensures.plan in
    let X = slice_set c.args.plan.now 0 c.from.result in
    let some = places-some l in
    let rp = c.requires.plan in
    let post0 = post_of 1 (length X - 1) X in
    let mid = put_mid 1 (length X - 1) X c.measure-in-Two.new.plan in
    let n = c.over-size.result.nodes in
    let post1 = post_of n (length mid - n) mid in
    let e = two-ends below m (seen v) h f P.parts P.given (seen c.in-Two.child0.view) (seen c.in-Two.child1.view) ec c.in_ok-size0-in-Two.size0 c.measure-in-Two.new.plan K
    c.over-in-Two.result c.leaf-own.result c.over-size.result c.in_ok-size1-in-Two.size1 _ mid c.measure-in-Two-2.new.plan post0 post1 n K1 eo c.over-size.ensures c.over-in-Two.ensures
    (placed c.args.plan.now c.measure-in-Two.new.plan post0 c.from.result m.id (omega arith) ei) refl refl in
    record { size = e.size; plan = e.plan }
