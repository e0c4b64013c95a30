use Rattle.std.proofs.Common.{◌≡◌, ◌++◌, drop, string_bytes}
use Rattle.listing.specs.Rows.{rows_text}
use Rattle.listing.proofs.put_rows.Given as goal

abbrev pub invariant-loop-node : goal.invariant-loop-node
invariant-loop-node l =
    string_bytes l.text ++ rows_text l.number (drop l.node-index l.nodes) ≡ string_bytes l.initial.text ++ rows_text l.number l.nodes
