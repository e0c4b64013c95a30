use Rattle.std.proofs.Common.{length, sym, ap, ◌∙◌, arith}
use Rattle.column.specs.Columns.{seen, offer_seen}
use Rattle.column.specs.Kinds.{number_of}
use Rattle.column.proofs.RowLaws.{length-offered}
use Rattle.scheme.specs.Memory.{held}
use Rattle.roundtrip.specs.Trips.{child_offer}
use Rattle.roundtrip.proofs.TripLaws.{laid, short0, short1, trip}
use Rattle.roundtrip.proofs.round_trip.Goals as goal

pub child_in-child0-requires : goal.child_in-child0-requires
child_in-child0-requires g c =
    let m = g.S.Scheme.meaning c.args.s.now in
    let v = c.args.array.view in
    let s = c.in_ok-shape.shape in
    let z = c.shape.new in
    let l = laid m (seen v) s z.cells0 z.words0 z.cells1 z.words1 (g.met.S.Scheme.keeps c.args.s.now) c.args.array.clean.clean c.requires.kind c.in_ok-shape.ensures in
    let e = length-offered (offer_seen v) in
    let h0 = short0 l c.num_children-count.ensures c.then_some.ensures in
    record { few = omega arith; cells = omega arith; words = omega arith }

pub child_in-child1-requires : goal.child_in-child1-requires
child_in-child1-requires g c =
    let m = g.S.Scheme.meaning c.args.s.now in
    let v = c.args.array.view in
    let s = c.in_ok-shape.shape in
    let z = c.shape.new in
    let l = laid m (seen v) s z.cells0 z.words0 z.cells1 z.words1 (g.met.S.Scheme.keeps c.args.s.now) c.args.array.clean.clean c.requires.kind c.in_ok-shape.ensures in
    let e = length-offered (offer_seen v) in
    let h1 = short1 l c.num_children-count.ensures c.then_some-2.ensures in
    record { few = omega arith; cells = omega arith; words = omega arith }

pub join-requires : goal.join-requires
join-requires g c =
    let m = g.S.Scheme.meaning c.args.s.now in
    let v = c.args.array.view in
    let s = c.in_ok-shape.shape in
    let z = c.shape.new in
    let l = laid m (seen v) s z.cells0 z.words0 z.cells1 z.words1 (g.met.S.Scheme.keeps c.args.s.now) c.args.array.clean.clean c.requires.kind c.in_ok-shape.ensures in
    let e = length-offered (offer_seen v) in
    let h0 = short0 l c.num_children-count.ensures c.then_some.ensures in
    let h1 = short1 l c.num_children-count.ensures c.then_some-2.ensures in
    record {
      joinable = record {
        few = c.args.array.sound.few;
        short0 = omega arith;
        short1 = omega arith;
        child0 = c.child_in-child0.ensures.sound;
        child1 = c.child_in-child1.ensures.sound;
        cells = c.requires.cells;
        words = c.requires.words ∙ c.args.array.sound.words;
        spared = omega (arith, c.requires.room.spared);
      };
    }

pub returns : goal.returns
returns g c =
    let m = g.S.Scheme.meaning c.args.s.now in
    let v = c.args.array.view in
    let s = c.in_ok-shape.shape in
    let z = c.shape.new in
    let l = laid m (seen v) s z.cells0 z.words0 z.cells1 z.words1 (g.met.S.Scheme.keeps c.args.s.now) c.args.array.clean.clean c.requires.kind c.in_ok-shape.ensures in
    let e = length-offered (offer_seen v) in
    trip l c.args.out.now c.num_children-count.result (length v.cells.now) _ _ (offer_seen c.child_in-child0.result) (offer_seen c.child_in-child1.result)
    (held (number_of v.kind) c.args.cells.now c.args.words.now) (held (number_of v.kind) c.join.new.cells c.join.new.words)
    (sym e) (omega arith) (omega arith) c.num_children-count.ensures
    (c.child_in-child0.ensures.is ∙ ap (λ o. child_offer o z.cells0 z.words0) c.then_some.ensures)
    (c.child_in-child1.ensures.is ∙ ap (λ o. child_offer o z.cells1 z.words1) c.then_some-2.ensures)
    c.payload.new.out c.payload.ensures c.join.ensures
