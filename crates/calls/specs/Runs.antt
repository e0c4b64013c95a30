-- The law over every run of calls since a binder was opened.
use Rattle.std.specs.Prelude.{◌≡◌, ℕ, ◌≤◌, false, List, [], ◌∷◌, ◌++◌, length, take, replicate, Some, None, Ok, Err, Option, Result, slice_get}
use Rattle.column.specs.declared.refusals.Refusal.{Refusal}
use Rattle.column.specs.declared.refusals.Refusal.TheVariants.{UnknownColumn}
use Rattle.column.specs.Kinds.{number_of}
use Rattle.column.specs.Columns.{Column, Offer, cleaned, offer_refused, words_for}
use Rattle.column.specs.Views.{Alike}
use Rattle.node.specs.Nodes.{Node, flats, whole, weight, plain_node}
use Rattle.levels.specs.NodesOf.{Each}
use Rattle.levels.specs.Standing.{Stands}
use Rattle.calls.specs.declared.answers.Fetched.{Fetched}
use Rattle.calls.specs.declared.answers.Weighed.{Weighed}
use Rattle.calls.specs.Openings.{Setting, Granted}
use Rattle.calls.specs.Calls.{State, opened, Bind, Fetch, Weigh, Lent, Given}

-- a call with what it was lent, what it answered, and what it left in the places lent
pub data Event : Type 0 where
  -- an offer, words of working memory, the answer
  bound : Offer → ℕ → Result ℕ Refusal → Event
  -- a number, words of working memory, places before, the answer, places after
  fetched : ℕ → ℕ → Lent → Result Fetched Refusal → Lent → Event
  -- a number, the answer
  weighed : ℕ → Result Weighed Refusal → Event

abbrev pub Step : Setting → State → Event → State → Type 0
Step set s (bound o m r) t = Bind set s o m r t
Step set s (fetched i m x r y) t = Fetch set s i m x r y × (t ≡ s)
Step set s (weighed i r) t = Weigh set s i r × (t ≡ s)

-- calls one after the other, each from the state that the one before left
abbrev pub Run : Setting → State → List Event → State → Type 0
Run set s [] u = s ≡ u
Run set s (e ∷ es) u = (t : State) × (Step set s e t × Run set t es u)

-- ---- (a) a fetch gives what was bound, and a weighing weighs it

-- the columns accepted so far, in order, after one more call
abbrev pub after : List Column → Event → List Column
after cs (bound o m (Ok k)) = cs ++ (cleaned o ∷ [])
after cs (bound o m (Err e)) = cs
after cs (fetched i m x r y) = cs
after cs (weighed i r) = cs

abbrev pub accepted_from : List Column → List Event → List Column
accepted_from cs [] = cs
accepted_from cs (e ∷ es) = accepted_from (after cs e) es

-- what a granted fetch left in the places, as an offer
abbrev pub handed_back : Fetched → Lent → Offer
handed_back f y = record { kind = number_of f.kind; cells = take f.rows y.cells; words = take (words_for f.rows) y.words }

-- offered again it is the same column, and no refusal turns it away
abbrev pub Back : Column → Result Fetched Refusal → Lent → Type 0
Back c (Err e) y = Unit {0}
Back c (Ok f) y = (cleaned (handed_back f y) ≡ c) × (offer_refused (handed_back f y) ≡ None)

-- a fetch of the i-th accepted column gives its rows and touches nothing else, or is refused as the table says; without one it is refused
abbrev pub Gives : Setting → Option Column → ℕ → Lent → Result Fetched Refusal → Lent → Type 0
Gives set None m x r y = (r ≡ Err UnknownColumn) × (y ≡ x)
Gives set (Some c) m x r y = Given set c x m r y × Back c r y

-- n stands for the column, and no other node does
pub record OnlyStands (set : Setting) (c : Column) (n : Node) : Type 0 where
  pub stands : Stands set.opening false set.levels c [] n
  pub only : (k : Node) → Stands set.opening false set.levels c [] k → k ≡ n

-- a weighing of the i-th accepted column gives the weight and the whole length of the node that stands for it; without one it is refused
abbrev pub Weighs : Setting → Option Column → Result Weighed Refusal → Type 0
Weighs set None r = r ≡ Err UnknownColumn
Weighs set (Some c) r = (n : Node) × (OnlyStands set c n × (r ≡ Ok (record { weight = weight n; whole = whole n })))

-- an accepted bind gives the number of columns accepted before it; a refused one adds none
abbrev pub LawfulCall : Setting → List Column → Event → Type 0
LawfulCall set cs (bound o m (Ok k)) = k ≡ length cs
LawfulCall set cs (bound o m (Err e)) = Unit {0}
LawfulCall set cs (fetched i m x r y) = Gives set (slice_get cs i) m x r y
LawfulCall set cs (weighed i r) = Weighs set (slice_get cs i) r

abbrev pub Lawful : Setting → List Column → List Event → Type 0
Lawful set cs [] = Unit {0}
Lawful set cs (e ∷ es) = LawfulCall set cs e × Lawful set (after cs e) es

-- ---- (b) the bytes are the nodes that stand for the accepted columns, in order, then zeros

pub record Kept (set : Setting) (room : ℕ) (cs : List Column) (u : State) : Type 0 where
  pub nodes : List Node
  pub stand : Each (λ c n. OnlyStands set c n × (weight n ≤ weight (plain_node c))) cs nodes
  pub count : u.count ≡ length cs
  pub used : u.used ≡ length (flats nodes)
  pub zeros : ℕ
  pub layout : u.bytes ≡ flats nodes ++ replicate zeros 0
  pub size : length u.bytes ≡ room

-- ---- (c) what stands under blanks changes nothing that anyone can see

-- two calls alike in all but cells under blanks; what they answered is not compared
abbrev pub AlikeCall : Event → Event → Type 0
AlikeCall (bound o m r) (bound p k q) = Alike o p × (m ≡ k)
AlikeCall (bound o m r) (fetched i k x q y) = ⊥
AlikeCall (bound o m r) (weighed i q) = ⊥
AlikeCall (fetched i m x r y) (bound p k q) = ⊥
AlikeCall (fetched i m x r y) (fetched j k v q w) = (i ≡ j) × ((m ≡ k) × (x ≡ v))
AlikeCall (fetched i m x r y) (weighed j q) = ⊥
AlikeCall (weighed i r) (bound p k q) = ⊥
AlikeCall (weighed i r) (fetched j k v q w) = ⊥
AlikeCall (weighed i r) (weighed j q) = i ≡ j

abbrev pub AlikeCalls : List Event → List Event → Type 0
AlikeCalls [] [] = Unit {0}
AlikeCalls [] (f ∷ fs) = ⊥
AlikeCalls (e ∷ es) [] = ⊥
AlikeCalls (e ∷ es) (f ∷ fs) = AlikeCall e f × AlikeCalls es fs

-- the same answer, and the same left in the places lent
abbrev pub SameReply : Event → Event → Type 0
SameReply (bound o m r) (bound p k q) = r ≡ q
SameReply (bound o m r) (fetched i k x q y) = ⊥
SameReply (bound o m r) (weighed i q) = ⊥
SameReply (fetched i m x r y) (bound p k q) = ⊥
SameReply (fetched i m x r y) (fetched j k v q w) = (r ≡ q) × (y ≡ w)
SameReply (fetched i m x r y) (weighed j q) = ⊥
SameReply (weighed i r) (bound p k q) = ⊥
SameReply (weighed i r) (fetched j k v q w) = ⊥
SameReply (weighed i r) (weighed j q) = r ≡ q

-- two runs call by call: the same answers, and the same binder and bytes after each call
abbrev pub SameRuns : (set : Setting) (s t : State) (es fs : List Event) (u v : State) → Run set s es u → Run set t fs v → Type 0
SameRuns set s t [] [] u v p q = u ≡ v
SameRuns set s t [] (f ∷ fs) u v p q = ⊥
SameRuns set s t (e ∷ es) [] u v p q = ⊥
SameRuns set s t (e ∷ es) (f ∷ fs) u v p q = SameReply e f × ((p.0 ≡ q.0) × SameRuns set p.0 q.0 es fs u v p.1.1 q.1.1)

-- ---- the law, over every bank and source that keep their meaning and 0 to 8 levels

pub record Law (set : Setting) (room : ℕ) : Type 0 where
  pub fetches : (es : List Event) (u : State) → Run set (opened room) es u → Lawful set [] es
  pub keeps : (es : List Event) (u : State) → Run set (opened room) es u → Kept set room (accepted_from [] es) u
  pub hides : (es fs : List Event) (u v : State) (p : Run set (opened room) es u) (q : Run set (opened room) fs v) → AlikeCalls es fs
      → SameRuns set (opened room) (opened room) es fs u v p q

abbrev pub MainLaw : Type 0
MainLaw = (set : Setting) → Granted set → (room : ℕ) → Law set room
