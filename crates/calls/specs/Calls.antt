-- What each call of a binder answers and leaves: the contracts of the calls, and the steps of a run.
use Rattle.std.specs.Prelude.{◌≡◌, ℕ, zero, suc, ◌+◌, ◌-◌, ◌≤◌, Bool, true, false, ◌||◌, ◌⊎◌, List, ◌++◌, length, drop, replicate, Some, None, Ok, Err, Option, Result, nat_le, nat_lt, slice_get}
use Rattle.packing.specs.Packing.{written, written_at}
use Rattle.column.specs.declared.refusals.Refusal.{Refusal}
use Rattle.column.specs.declared.refusals.Refusal.TheVariants.{LittleMemory, ManyColumns, LittleSpace, UnknownColumn, ShortBuffers}
use Rattle.column.specs.Kinds.{number_of}
use Rattle.column.specs.Columns.{Row, Column, Clean, Offer, cleaned, offer_refused, cells, presence, words_for}
use Rattle.node.specs.Nodes.{Node, flat, flats, whole}
use Rattle.node.specs.declared.heads.Header.{Header}
use Rattle.node.specs.Reading.{after_node, header_read, weight_read}
use Rattle.levels.specs.Levels.{Bound, bound}
use Rattle.levels.specs.NodesOf.{Each}
use Rattle.levels.specs.Plans.{working_memory}
use Rattle.calls.specs.declared.answers.Fetched.{Fetched}
use Rattle.calls.specs.declared.answers.Weighed.{Weighed}
use Rattle.calls.specs.Openings.{Setting}

-- what a call sees of a binder: how many columns it has, how many bytes their nodes take, and the bytes lent to the call
pub record State : Type 0 where
  pub count : ℕ
  pub used : ℕ
  pub bytes : List ℕ

-- a new binder over so many bytes
abbrev pub opened : ℕ → State
opened n = record { count = 0; used = 0; bytes = replicate n 0 }

-- how a column is bound at the root
abbrev pub bound_in : Setting → Column → Bound
bound_in set c = bound set.opening.bank set.opening.source set.levels c

-- a refusal if the test is true, else what follows
abbrev pub unless : {A : Type 0} → Bool → Refusal → Result A Refusal → Result A Refusal
unless true e r = Err e
unless false e r = r

-- ---- bind

-- the node, if it fits into the free bytes
abbrev pub fitting : ℕ → Bound → Bound
fitting free (Err e) = Err e
fitting free (Ok n) = unless (nat_lt free (whole n)) LittleSpace (Ok n)

-- the node that an offer comes to, with so many words of working memory lent; the refusals in their order
abbrev pub taken_by : Option Refusal → Setting → State → Offer → ℕ → Bound
taken_by (Some e) set s o m = Err e
taken_by None set s o m =
    unless (nat_lt m (working_memory set.levels (length o.cells))) LittleMemory
    (unless (nat_le 64 s.count) ManyColumns
    (fitting (length s.bytes - s.used) (bound_in set (cleaned o))))

abbrev pub taken : Setting → State → Offer → ℕ → Bound
taken set s o m = taken_by (offer_refused o) set s o m

-- the column's number
abbrev pub bind_reply : State → Bound → Result ℕ Refusal
bind_reply s (Err e) = Err e
bind_reply s (Ok n) = Ok s.count

-- the node's bytes after those used; a refusal changes nothing
abbrev pub bind_next : State → Bound → State
bind_next s (Err e) = s
bind_next s (Ok n) = record { count = s.count + 1; used = s.used + whole n; bytes = written_at s.used (flat n) s.bytes }

pub record Bind (set : Setting) (s : State) (o : Offer) (m : ℕ) (r : Result ℕ Refusal) (t : State) : Type 0 where
  pub answer : r ≡ bind_reply s (taken set s o m)
  pub next : t ≡ bind_next s (taken set s o m)

-- ---- what a binder holds

-- the columns, each as its node, in order, then zeros
pub record Held (set : Setting) (s : State) (cs : List Column) : Type 0 where
  pub nodes : List Node
  pub made : Each (λ c n. Clean c × (bound_in set c ≡ Ok n)) cs nodes
  pub count : s.count ≡ length cs
  pub used : s.used ≡ length (flats nodes)
  pub layout : s.bytes ≡ flats nodes ++ replicate (length s.bytes - s.used) 0

-- ---- fetch

-- lent places for cells and presence words
pub record Lent : Type 0 where
  pub cells : List ℕ
  pub words : List ℕ

-- the column's cells, 0 under blanks, and its presence words at the fronts; nothing beyond is touched
abbrev pub filled_with : Column → Lent → Lent
filled_with c x = record { cells = written (cells c.rows) x.cells; words = written (presence c.rows) x.words }

-- the answer names the column's kind and rows
abbrev pub Names : Column → Result Fetched Refusal → Type 0
Names c (Err e) = ⊥
Names c (Ok f) = (number_of f.kind ≡ c.kind) × (f.rows ≡ length c.rows)

-- places too short, then too little working memory
abbrev pub short_if : Bool → Bool → Option Refusal
short_if true b = Some ShortBuffers
short_if false true = Some LittleMemory
short_if false false = None

-- why a column of n rows is refused
abbrev pub short_by : Setting → ℕ → Lent → ℕ → Option Refusal
short_by set n x m = short_if (nat_lt (length x.cells) n || nat_lt (length x.words) (words_for n)) (nat_lt m (working_memory set.levels n))

abbrev pub GivenBy : Option Refusal → Column → Lent → Result Fetched Refusal → Lent → Type 0
GivenBy (Some e) c x r y = (r ≡ Err e) × (y ≡ x)
GivenBy None c x r y = Names c r × (y ≡ filled_with c x)

-- a fetch of a column
abbrev pub Given : Setting → Column → Lent → ℕ → Result Fetched Refusal → Lent → Type 0
Given set c x m r y = GivenBy (short_by set (length c.rows) x m) c x r y

-- some rows, which fit into the places, stand there as those of a column do
pub record SomeRows (f : Fetched) (x y : Lent) : Type 0 where
  pub rows : List Row
  pub count : length rows ≡ f.rows
  pub cells_fit : f.rows ≤ length x.cells
  pub words_fit : words_for f.rows ≤ length x.words
  pub filled : y ≡ filled_with (record { kind = number_of f.kind; rows = rows }) x

-- on any bytes at all: a refusal is one of a fetch and leaves the places as they were; else they have some rows
abbrev pub Astray : Lent → Result Fetched Refusal → Lent → Type 0
Astray x (Err e) y = (y ≡ x) × ((e ≡ UnknownColumn) ⊎ ((e ≡ ShortBuffers) ⊎ (e ≡ LittleMemory)))
Astray x (Ok f) y = SomeRows f x y

pub record Fetch (set : Setting) (s : State) (i m : ℕ) (x : Lent) (r : Result Fetched Refusal) (y : Lent) : Type 0 where
  -- no such number
  pub unknown : s.count ≤ i → (r ≡ Err UnknownColumn) × (y ≡ x)
  -- a column that the binder holds
  pub given : (cs : List Column) → Held set s cs → (c : Column) → slice_get cs i ≡ Some c → Given set c x m r y
  pub astray : Astray x r y

-- ---- weigh

-- the bytes from the i-th node on
abbrev pub node_at : ℕ → List ℕ → List ℕ
node_at zero bs = bs
node_at (suc i) bs = node_at i (after_node bs)

-- the whole length that a header says; 0 where none stands
abbrev pub whole_in : Option Header → ℕ
whole_in None = 0
whole_in (Some h) = h.whole

abbrev pub weighed_at : ℕ → List ℕ → Weighed
weighed_at l bs = record { weight = weight_read l bs; whole = whole_in (header_read bs) }

abbrev pub weigh_reply : Setting → State → ℕ → Result Weighed Refusal
weigh_reply set s i = unless (nat_le s.count i) UnknownColumn (Ok (weighed_at set.levels (node_at i s.bytes)))

pub record Weigh (set : Setting) (s : State) (i : ℕ) (r : Result Weighed Refusal) : Type 0 where
  pub answer : r ≡ weigh_reply set s i
