use Rattle.std.proofs.Common.{◌<◌}
use Rattle.packing.proofs.Held.{Held, to_write}
use Rattle.packing.proofs.pack.Given as goal

abbrev pub invariant-loop-c : goal.invariant-loop-c
invariant-loop-c l = Held l.k l.cells l.c-index l.out (to_write l.k l.cells 0 l.initial.out 0 0 0) l.at l.acc l.fill × (l.fill < 64)
