use Rattle.std.proofs.Common.{◌<◌, length}
use Rattle.packing.proofs.Loaded.{Loaded, to_give}
use Rattle.packing.proofs.unpack.Given as goal

abbrev pub invariant-loop-c : goal.invariant-loop-c
invariant-loop-c l =
    Loaded l.k l.bytes (length l.initial.cells) l.c-index l.cells (to_give l.k l.bytes (length l.initial.cells) 0 l.initial.cells 0 0 0) l.pos l.acc l.ready
    × (l.ready < 64)
