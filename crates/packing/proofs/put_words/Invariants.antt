use Rattle.std.proofs.Common.{◌≡◌, ◌-◌, ◌*◌, ◌^◌, drop}
use Rattle.packing.specs.Packing.{joined, digits, written, written_at}
use Rattle.packing.proofs.put_words.Given as goal

abbrev pub invariant-loop-i : goal.invariant-loop-i
invariant-loop-i l =
    written_at (8 * l.i) (digits 256 (l.fn.len - 8 * l.i) (joined (2 ^ 64) (drop l.i l.words))) l.out
    ≡ written (digits 256 l.fn.len (joined (2 ^ 64) l.words)) l.initial.out
