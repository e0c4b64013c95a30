use Rattle.std.proofs.Common.{◌≡◌, take, sym, ap, ◌∙◌, subst, length-take-le, arith}
use Rattle.column.specs.Kinds.{number_of}
use Rattle.column.specs.Columns.{Offer, Clean, CleanView, cleaned, offer_of}
use Rattle.column.proofs.ViewLaws.{view-sound}
use Rattle.scheme.specs.Memory.{child_seen}
use Rattle.children.proofs.Storing.{child-lengths}
use Rattle.children.proofs.child.Goals as goal

pub slice_bounds-view-end-2 : goal.slice_bounds-view-end-2
slice_bounds-view-end-2 c =
    let l = child-lengths c.args.shape c.args.cells.now c.args.words.now c.requires in
    let w = c.words_for.ensures in
    sym (length-take-le c.words_for.result c.args.words.now (let m = l.words in omega arith))

pub invariant_of-result : goal.invariant_of-result
invariant_of-result c =
    let s = c.args.shape in
    let cs = c.args.cells.now in
    let ws = c.args.words.now in
    let w = c.words_for.ensures in
    let view : Offer = record { kind = number_of s.kind; cells = take s.rows cs; words = take c.words_for.result ws } in
    let e : view ≡ (child_seen s cs ws).1 = λ i. record { kind = number_of s.kind; cells = take s.rows cs; words = take (w i) ws } in
    let clean : CleanView _ = record {
      stored = e ∙ ap (λ x. x.1) c.requires.stored ∙ ap (λ o. offer_of (cleaned o)) (sym e);
      clean = subst (λ o. Clean (cleaned o)) (sym e) c.requires.clean;
    } in
    record { sound = view-sound _ clean; clean = clean }
