-- What a binder is opened over.
use Rattle.std.proofs.Common.{◌≡◌, ℕ, List, None}
use Rattle.sample.specs.Draws.{Source, Within}
use Rattle.scheme.specs.Meaning.{Meaning}
use Rattle.scheme.specs.Banks.{AllKeep}
use Rattle.calls.specs.Openings.{Granted, open_refused}
use Rattle.compressor.specs.Compressed.{setting}

pub granted : {ms : List Meaning} {d : Source} (l : ℕ) → AllKeep ms → Within d → open_refused (setting ms d l) ≡ None → Granted (setting ms d l)
granted l kp w e = record { unrefused = e; keep = record { bank = kp; source = w } }
