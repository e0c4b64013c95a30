use Rattle.std.proofs.Common.{None}
use Rattle.column.specs.Columns.{seen}
use Rattle.column.specs.Kinds.{number_of}
use Rattle.scheme.specs.Exclusion.{eligible}
use Rattle.scheme.specs.Memory.{history_of, stats_in}
use Rattle.levels.specs.Choice.{asked}
use Rattle.choice.proofs.Asking.{Kept}
use Rattle.choice.proofs.ask_all.Given as goal

-- the schemes that are left give the answer
abbrev pub invariant-loop-i : goal.invariant-loop-i
invariant-loop-i g l =
    let ms = g.B.Bank.meanings l.bank.schemes.now in
    let c = seen l.col.array in
    let k = number_of l.col.array.kind in
    let h = history_of l.ctx in
    Kept c (stats_in l.col) h l.ctx.is_sample ms k l.i l.table l.best (asked c (stats_in l.col) h l.ctx.is_sample (eligible ms k h) None)
