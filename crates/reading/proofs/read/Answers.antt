use Rattle.std.proofs.Common.{◌≡◌, ◌≤◌, length, take, ◌∙◌, arith}
use Rattle.std.proofs.lemmas.List.{length-take-le}
use Rattle.node.specs.Reading.{held_rows}
use Rattle.reading.proofs.PlaceLaws.{length-held, placed, given}
use Rattle.reading.proofs.read.Goals as goal

pub returns : goal.returns
returns g c =
    let r = c.in_ok-read.read in
    let oc = c.args.cells.now in
    let ow = c.args.words.now in
    let c1 = c.read_node.new.cells in
    let w1 = c.read_node.new.words in
    let m = c.words_for.result in
    let b = c.in_ok-read.ensures.places in
    let f = b.cells_fit in
    let l = c.read_node.auto.cells in
    let fit : r.rows ≤ length c1 = omega arith in
    let rows = held_rows (take r.rows c1) (take m w1) in
    let count : length rows ≡ r.rows = length-held (take r.rows c1) (take m w1) ∙ length-take-le r.rows c1 fit in
    let p = placed rows r.rows m oc ow c1 w1 c.clear.new.cells c.clear.new.words count c.words_for.ensures b c.clear.ensures.cells c.clear.ensures.words in
    record {
      places = record { rows = rows; count = count; cells_fit = b.cells_fit; words_fit = b.words_fit; placed = p };
      back = λ o k cl w s. given k r m oc ow c1 w1 _ _ fit c.words_for.ensures (c.in_ok-read.ensures.back o k cl w s) p;
    }
