use Rattle.std.proofs.Common.{[], ◌∷◌, ◌∙◌, ap, ap₂, sym}
use Rattle.column.specs.Columns.{seen}
use Rattle.children.specs.Apart.{children_seen}
use Rattle.children.proofs.Storing.{laid, no-child, one-child, two-children, apart}
use Rattle.children.proofs.take_apart.Goals as goal
use Rattle.children.proofs.take_apart.Goals.{then-num-eq0, else-num-eq0+then-num-eq1, else-num-eq0+else-num-eq1}

pub child-requires : goal.child-requires
child-requires g c =
    let a = c.args.array in
    let z = c.shape_at.new in
    let l = laid (g.B.Bank.meanings c.args.bank.now) (g.met.B.Bank.all c.args.bank.now) (seen a.view) a.clean.clean c.args.i c.requires.able _ z.cells0 z.words0 z.cells1 z.words1 c.in_ok-shape.ensures in
    (one-child l (sym c.num_children_at-num.ensures ∙ c.if-num-eq1.true)).stored

pub child-requires-else-num-eq1 : goal.child-requires-else-num-eq1
child-requires-else-num-eq1 g c =
    let a = c.args.array in
    let z = c.shape_at.new in
    let l = laid (g.B.Bank.meanings c.args.bank.now) (g.met.B.Bank.all c.args.bank.now) (seen a.view) a.clean.clean c.args.i c.requires.able _ z.cells0 z.words0 z.cells1 z.words1 c.in_ok-shape.ensures in
    let n = c.num_children_at-num.ensures in
    (two-children l (λ e. c.if-num-eq0.false (n ∙ e)) (λ e. c.if-num-eq1.false (n ∙ e))).stored0

pub child-requires-else-num-eq1-2 : goal.child-requires-else-num-eq1-2
child-requires-else-num-eq1-2 g c =
    let a = c.args.array in
    let z = c.shape_at.new in
    let l = laid (g.B.Bank.meanings c.args.bank.now) (g.met.B.Bank.all c.args.bank.now) (seen a.view) a.clean.clean c.args.i c.requires.able _ z.cells0 z.words0 z.cells1 z.words1 c.in_ok-shape.ensures in
    let n = c.num_children_at-num.ensures in
    (two-children l (λ e. c.if-num-eq0.false (n ∙ e)) (λ e. c.if-num-eq1.false (n ∙ e))).stored1

pub returns : goal.returns
returns g c =
    let a = c.args.array in
    let z = c.shape_at.new in
    let l = laid (g.B.Bank.meanings c.args.bank.now) (g.met.B.Bank.all c.args.bank.now) (seen a.view) a.clean.clean c.args.i c.requires.able _ z.cells0 z.words0 z.cells1 z.words1 c.in_ok-shape.ensures in
    let n = c.num_children_at-num.ensures in
    apart l _
    (elim c.if-num-eq0.branch [
      | then-num-eq0 w ↦ ap children_seen w.children-is ∙ no-child l (sym n ∙ w.if-num-eq0.true)
      | else-num-eq0+then-num-eq1 w ↦ ap children_seen w.children-is ∙ ap (λ x. x ∷ []) w.child.ensures ∙ (one-child l (sym n ∙ w.if-num-eq1.true)).is
      | else-num-eq0+else-num-eq1 w ↦
          ap children_seen w.children-is
          ∙ ap₂ (λ x y. x ∷ (y ∷ [])) w.child-else-num-eq1.ensures w.child-else-num-eq1-2.ensures
          ∙ (two-children l (λ e. w.if-num-eq0.false (n ∙ e)) (λ e. w.if-num-eq1.false (n ∙ e))).is
    ])
