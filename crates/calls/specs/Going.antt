-- The contracts of the calls ask for nothing that cannot be: after every run every call has an answer that meets its contract.
use Rattle.std.specs.Prelude.{◌≡◌, ℕ, List, Result}
use Rattle.column.specs.declared.refusals.Refusal.{Refusal}
use Rattle.column.specs.Columns.{Column, Offer}
use Rattle.calls.specs.declared.answers.Fetched.{Fetched}
use Rattle.calls.specs.declared.answers.Weighed.{Weighed}
use Rattle.calls.specs.Openings.{Setting, Granted}
use Rattle.calls.specs.Calls.{State, opened, Held, Bind, Fetch, Weigh, Lent}
use Rattle.calls.specs.Runs.{Event, Run}

-- a binder's bytes fix the columns that it holds
abbrev pub BytesFix : Type 0
BytesFix = (set : Setting) → Granted set → (s : State) (cs ds : List Column) → Held set s cs → Held set s ds → cs ≡ ds

pub record GoesOn (set : Setting) (s : State) : Type 0 where
  pub binds : (o : Offer) (m : ℕ) → (r : Result ℕ Refusal) × ((t : State) × Bind set s o m r t)
  pub fetches : (i m : ℕ) (x : Lent) → (r : Result Fetched Refusal) × ((y : Lent) × Fetch set s i m x r y)
  pub weighs : (i : ℕ) → (r : Result Weighed Refusal) × Weigh set s i r

abbrev pub RunsGoOn : Type 0
RunsGoOn = (set : Setting) → Granted set → (room : ℕ) (es : List Event) (u : State) → Run set (opened room) es u → GoesOn set u
