use Rattle.std.proofs.Common.{◌≡◌, ◌<◌, ◌≤◌, ◌||◌, ltb, length, Some, None, refl, ap, ◌∙◌, subst, inl, inr, arith, rules}
use Rattle.std.proofs.lemmas.Bool.{lt-ltb}
use Rattle.column.specs.Columns.{words_for}
use Rattle.node.specs.Reading.{header_read}
use Rattle.calls.specs.Calls.{State, Lent, node_at}
use Rattle.calls.proofs.OpenLaws.{few-levels}
use Rattle.compressor.specs.Compressed.{setting}
use Rattle.compressor.specs.Decompressed.{Decompressed}
use Rattle.binder.specs.Binders.{rows_in}
use Rattle.binder.proofs.Settings.{granted}
use Rattle.binder.proofs.Fetching.{either, astray-rows, short-places, little-memory, not-read, was-read}
use Rattle.binder.proofs.binding.Binder.read_column.Goals as goal
use Rattle.binder.proofs.binding.Binder.read_column.Goals.{then-rows-cells-via-then-rows-cells, then-rows-cells-via-else-rows-cells+then-words_for-words}

pub returns-in_default : goal.returns-in_default
returns-in_default g c =
    let b = c.args.self.now in
    let o = b.opening in
    let ms = g.B.Bank.meanings o.bank.schemes.now in
    let kp = g.met.B.Bank.all o.bank.schemes.now in
    let set = setting ms g.D.Draws.source o.levels in
    let few = few-levels set (granted o.levels kp g.met.D.Draws.within (o.unrefused g.D.Draws.source)) in
    let s : State = record { count = b.count; used = b.used; bytes = c.args.bytes.now } in
    let i = c.args.number in
    let m = length c.args.mem.now in
    let x : Lent = record { cells = c.args.cells.now; words = c.args.words.now } in
    let n0 = c.if-number-self.false in
    let lt : i < b.count = omega arith in
    let en = c.node_at-node.ensures in
    let er : Some c.in-Some.rows ≡ rows_in (header_read (node_at i c.args.bytes.now)) = c.in-Some.ensures ∙ ap (λ z. rows_in (header_read z)) en in
    let w = c.if-rows-le-MAX_ROWS.false in
    astray-rows set kp few s i m x lt (Some c.in-Some.rows) er (inr (c.in-Some.rows, (refl, omega arith)))

pub returns-in_default-2 : goal.returns-in_default-2
returns-in_default-2 g c =
    let b = c.args.self.now in
    let o = b.opening in
    let ms = g.B.Bank.meanings o.bank.schemes.now in
    let kp = g.met.B.Bank.all o.bank.schemes.now in
    let set = setting ms g.D.Draws.source o.levels in
    let few = few-levels set (granted o.levels kp g.met.D.Draws.within (o.unrefused g.D.Draws.source)) in
    let s : State = record { count = b.count; used = b.used; bytes = c.args.bytes.now } in
    let i = c.args.number in
    let m = length c.args.mem.now in
    let x : Lent = record { cells = c.args.cells.now; words = c.args.words.now } in
    let n0 = c.if-number-self.false in
    let lt : i < b.count = omega arith in
    let en = c.node_at-node.ensures in
    let er = c.rows_in.ensures ∙ ap (λ z. rows_in (header_read z)) en in
    astray-rows set kp few s i m x lt c.rows_in.result er (inl (search rules))

pub returns-then-rows-cells : goal.returns-then-rows-cells
returns-then-rows-cells g c =
    let b = c.args.self.now in
    let o = b.opening in
    let ms = g.B.Bank.meanings o.bank.schemes.now in
    let kp = g.met.B.Bank.all o.bank.schemes.now in
    let set = setting ms g.D.Draws.source o.levels in
    let few = few-levels set (granted o.levels kp g.met.D.Draws.within (o.unrefused g.D.Draws.source)) in
    let s : State = record { count = b.count; used = b.used; bytes = c.args.bytes.now } in
    let i = c.args.number in
    let m = length c.args.mem.now in
    let x : Lent = record { cells = c.args.cells.now; words = c.args.words.now } in
    let n0 = c.if-number-self.false in
    let lt : i < b.count = omega arith in
    let en = c.node_at-node.ensures in
    let er : Some c.in-Some.rows ≡ rows_in (header_read (node_at i c.args.bytes.now)) = c.in-Some.ensures ∙ ap (λ z. rows_in (header_read z)) en in
    let n = c.in-Some.rows in
    short-places set kp few s i m x lt n er
    (elim c.then-rows-cells.branch [
      | then-rows-cells-via-then-rows-cells w ↦
          let t = w.if-rows-cells.true in
          ap (λ z. z || ltb (length x.words) (words_for n)) (lt-ltb (length x.cells) n (omega arith))
      | then-rows-cells-via-else-rows-cells+then-words_for-words w ↦
          let t = w.if-words_for-words.true in
          let e = w.words_for.ensures in
          either (ltb (length x.cells) n) (ltb (length x.words) (words_for n)) (lt-ltb (length x.words) (words_for n) (omega arith))
    ])

pub working_memory-requires-clause-levels : goal.working_memory-requires-clause-levels
working_memory-requires-clause-levels g c =
    let o = c.args.self.now.opening in
    few-levels _ (granted o.levels (g.met.B.Bank.all o.bank.schemes.now) g.met.D.Draws.within (o.unrefused g.D.Draws.source))

pub returns-then-mem-working_memory : goal.returns-then-mem-working_memory
returns-then-mem-working_memory g c =
    let b = c.args.self.now in
    let o = b.opening in
    let ms = g.B.Bank.meanings o.bank.schemes.now in
    let kp = g.met.B.Bank.all o.bank.schemes.now in
    let set = setting ms g.D.Draws.source o.levels in
    let few = few-levels set (granted o.levels kp g.met.D.Draws.within (o.unrefused g.D.Draws.source)) in
    let s : State = record { count = b.count; used = b.used; bytes = c.args.bytes.now } in
    let i = c.args.number in
    let m = length c.args.mem.now in
    let x : Lent = record { cells = c.args.cells.now; words = c.args.words.now } in
    let n0 = c.if-number-self.false in
    let lt : i < b.count = omega arith in
    let en = c.node_at-node.ensures in
    let er : Some c.in-Some.rows ≡ rows_in (header_read (node_at i c.args.bytes.now)) = c.in-Some.ensures ∙ ap (λ z. rows_in (header_read z)) en in
    let n = c.in-Some.rows in
    let a = c.if-rows-cells.false in
    let d = c.if-words_for-words.false in
    let e = c.words_for.ensures in
    let t : m < c.working_memory.result = c.if-mem-working_memory.true in
    little-memory set kp few s i m x lt n er (omega arith) (omega arith) (subst (λ z. m < z) c.working_memory.ensures t)

pub returns-in-Some-decompress : goal.returns-in-Some-decompress
returns-in-Some-decompress g c =
    let b = c.args.self.now in
    let o = b.opening in
    let ms = g.B.Bank.meanings o.bank.schemes.now in
    let kp = g.met.B.Bank.all o.bank.schemes.now in
    let set = setting ms g.D.Draws.source o.levels in
    let few = few-levels set (granted o.levels kp g.met.D.Draws.within (o.unrefused g.D.Draws.source)) in
    let s : State = record { count = b.count; used = b.used; bytes = c.args.bytes.now } in
    let i = c.args.number in
    let m = length c.args.mem.now in
    let x : Lent = record { cells = c.args.cells.now; words = c.args.words.now } in
    let n0 = c.if-number-self.false in
    let lt : i < b.count = omega arith in
    let en = c.node_at-node.ensures in
    let er : Some c.in-Some.rows ≡ rows_in (header_read (node_at i c.args.bytes.now)) = c.in-Some.ensures ∙ ap (λ z. rows_in (header_read z)) en in
    let n = c.in-Some.rows in
    let a = c.if-rows-cells.false in
    let d = c.if-words_for-words.false in
    let e = c.words_for.ensures in
    let t = c.if-mem-working_memory.false in
    let t2 : c.working_memory.result ≤ m = omega arith in
    was-read set kp few s i m x lt n er (omega arith) (omega arith) (subst (λ z. z ≤ m) c.working_memory.ensures t2) c.args.mem.now refl (Some c.in-Some-decompress.read) c.decompress.new.cells c.decompress.new.words
    (subst (λ z. Decompressed ms o.levels z c.args.mem.now (Some c.in-Some-decompress.read) x.cells x.words c.decompress.new.cells c.decompress.new.words) en c.in-Some-decompress.ensures.back) c.in-Some-decompress.read refl c.in-Some-decompress.ensures.places

pub returns-in-None : goal.returns-in-None
returns-in-None g c =
    let b = c.args.self.now in
    let o = b.opening in
    let ms = g.B.Bank.meanings o.bank.schemes.now in
    let kp = g.met.B.Bank.all o.bank.schemes.now in
    let set = setting ms g.D.Draws.source o.levels in
    let few = few-levels set (granted o.levels kp g.met.D.Draws.within (o.unrefused g.D.Draws.source)) in
    let s : State = record { count = b.count; used = b.used; bytes = c.args.bytes.now } in
    let i = c.args.number in
    let m = length c.args.mem.now in
    let x : Lent = record { cells = c.args.cells.now; words = c.args.words.now } in
    let n0 = c.if-number-self.false in
    let lt : i < b.count = omega arith in
    let en = c.node_at-node.ensures in
    let er : Some c.in-Some.rows ≡ rows_in (header_read (node_at i c.args.bytes.now)) = c.in-Some.ensures ∙ ap (λ z. rows_in (header_read z)) en in
    let n = c.in-Some.rows in
    let a = c.if-rows-cells.false in
    let d = c.if-words_for-words.false in
    let e = c.words_for.ensures in
    let t = c.if-mem-working_memory.false in
    let t2 : c.working_memory.result ≤ m = omega arith in
    not-read set kp few s i m x lt n er (omega arith) (omega arith) (subst (λ z. z ≤ m) c.working_memory.ensures t2) c.args.mem.now refl None c.decompress.new.cells c.decompress.new.words
    (subst (λ z. Decompressed ms o.levels z c.args.mem.now None x.cells x.words c.decompress.new.cells c.decompress.new.words) en c.in-None.ensures.back) refl c.in-None.ensures.places _ refl
