-- What the choice holds by the schemes' numbers in the bank, and that each number is of a scheme that takes the kind.
use Rattle.std.specs.Prelude.{ℕ, ◌≤◌, List, [], ◌∷◌, map, length, Some, None, Ok, Err, Option, Result}
use Rattle.column.specs.declared.refusals.Refusal.{Refusal}
use Rattle.scheme.specs.declared.estimate.DeferredEstimate.{DeferredEstimate}
use Rattle.scheme.specs.Meaning.{Meaning}
use Rattle.scheme.specs.Banks.{at}
use Rattle.scheme.specs.Bounded.{items}
use Rattle.scheme.specs.declared.bounded.Bounded.{Bounded}
use Rattle.levels.specs.Choice.{Best, Asked, ended, waiting, Chosen}
use Rattle.levels.specs.NodesOf.{Able}
use Rattle.choice.specs.declared.best.Leader.{Leader}
use Rattle.choice.specs.declared.table.Slot.{Slot}
use Rattle.choice.specs.declared.FirstPass.{FirstPass}
use Rattle.choice.specs.declared.FirstPass.TheVariants.{Ended, Waiting}

-- ---- what is meant

abbrev pub best_of : List Meaning → Option Leader → Best
best_of ms None = None
best_of ms (Some l) = Some (at ms l.scheme, l.score)

-- the places that are filled
abbrev pub slots_of : Bounded Slot 8 → List Slot
slots_of t = items t

abbrev pub deferred_of : List Meaning → List Slot → List (Meaning × DeferredEstimate)
deferred_of ms ss = map (λ s. (at ms s.scheme, s.estimate)) ss

abbrev pub asked_of : List Meaning → FirstPass → Asked
asked_of ms (Ended i) = ended (at ms i)
asked_of ms (Waiting b t) = waiting (best_of ms b) (deferred_of ms (slots_of t))

abbrev pub named : List Meaning → Result (Option ℕ) Refusal → Chosen
named ms (Err e) = Err e
named ms (Ok None) = Ok None
named ms (Ok (Some i)) = Ok (Some (at ms i))

-- ---- each takes the kind

abbrev pub AbleLeader : List Meaning → ℕ → Option Leader → Type 0
AbleLeader ms k None = Unit {0}
AbleLeader ms k (Some l) = Able ms k l.scheme

abbrev pub AbleSlots : List Meaning → ℕ → List Slot → Type 0
AbleSlots ms k [] = Unit {0}
AbleSlots ms k (s ∷ ss) = Able ms k s.scheme × AbleSlots ms k ss

abbrev pub AbleAsked : List Meaning → ℕ → FirstPass → Type 0
AbleAsked ms k (Ended i) = Able ms k i
AbleAsked ms k (Waiting b t) = AbleLeader ms k b × AbleSlots ms k (slots_of t) × (length (slots_of t) ≤ 8)

abbrev pub AblePick : List Meaning → ℕ → Result (Option ℕ) Refusal → Type 0
AblePick ms k (Err e) = Unit {0}
AblePick ms k (Ok None) = Unit {0}
AblePick ms k (Ok (Some i)) = Able ms k i
