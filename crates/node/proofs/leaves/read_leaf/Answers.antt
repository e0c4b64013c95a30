use Rattle.std.proofs.Common.{◌≡◌, ◌++◌, length, drop, sym, ap, ◌∙◌, arith}
use Rattle.std.specs.Result.{result_ok}
use Rattle.column.specs.Kinds.{number_of, kind_of}
use Rattle.column.specs.Columns.{words_for}
use Rattle.column.proofs.InspectLaws.{kind-few, kind-some, known-ok}
use Rattle.node.specs.Forms.{number_of_form}
use Rattle.node.specs.Reading.{rows_read}
use Rattle.node.proofs.FormLaws.{form-few, form-some}
use Rattle.node.proofs.LeafLaws.{readable-when, filled, filled-back}
use Rattle.node.proofs.leaves.read_leaf.Goals as goal

pub returns : goal.returns
returns c =
    let h = c.args.head.now in
    let p = c.args.payload.now in
    let n = h.rows in
    let cells = c.args.cells.now in
    let words = c.args.words.now in
    let k : h.kind ≡ number_of c.in_ok-kind.kind = kind-some h.kind c.in_ok-kind.kind (sym (known-ok (kind_of h.kind)) ∙ sym (c.ok.ensures.value ∙ ap result_ok c.try_from.ensures) ∙ c.in_ok-kind.was) in
    let f : h.form ≡ number_of_form c.in_ok-form.form = form-some h.form c.in_ok-form.form (sym (c.ok-2.ensures.value ∙ ap result_ok c.try_from-2.ensures) ∙ c.in_ok-form.was) in
    let count : c.words_for.result ≡ words_for n = omega (arith, c.words_for.ensures) in
    let few = kind-few c.in_ok-kind.kind in
    let form = form-few c.in_ok-form.form in
    let cs = c.in_ok-cells.ensures.cases in
    let ws = c.in_ok-words.ensures.cases in
    let b : length c.in_ok-cells.cells.now ≡ n = cs.1 in
    let lc = c.read.auto.cells ∙ b in
    let lw = c.read.auto.words ∙ ws.1 ∙ count in
    let held = c.read.ensures ∙ (λ i. rows_read (sym f i) (sym k i) (b i) h.flag p) in
    let d =
    filled h p cells words c.read.new.cells c.read.new.words _ _ lc lw
    (ap (λ m. c.read.new.cells ++ m) cs.3 ∙ ap (λ m. c.read.new.cells ++ drop m cells) (sym lc))
    (ap (λ m. c.read.new.words ++ m) ws.3 ∙ ap (λ m. c.read.new.words ++ drop m words) (count ∙ sym lw))
    held in
    record {
      answer = sym (readable-when h (length cells) (length words) (omega arith) (omega arith) (omega arith) (omega arith) (omega arith));
      places = d;
      back = filled-back h p cells words _ _ d;
    }
