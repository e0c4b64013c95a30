-- What a binder's calls need beside the calls' own definitions.
use Rattle.std.specs.Prelude.{ℕ, List, length, replicate, Some, None, Option}
use Rattle.column.specs.declared.refusals.Refusal.{Refusal}
use Rattle.node.specs.declared.heads.Header.{Header}

-- zeros; a refusal changes nothing
abbrev pub opened_bytes : Option Refusal → List ℕ → List ℕ
opened_bytes None old = replicate (length old) 0
opened_bytes (Some e) old = old

-- the rows that a header says
abbrev pub rows_in : Option Header → Option ℕ
rows_in None = None
rows_in (Some h) = Some h.head.rows
