-- What a contract sees of a bounded list.
use Rattle.std.specs.Prelude.{ℕ, List, take}
use Rattle.scheme.specs.declared.bounded.Bounded.{Bounded}

-- the items in order; of what stands in the free places no clause says anything
abbrev pub items : {T : Type 0} {N : ℕ} → Bounded T N → List T
items b = take b.len b.places
