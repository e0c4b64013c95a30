-- How lent memory holds what a scheme is asked about and what it gives.
use Rattle.std.specs.Prelude.{◌≡◌, ℕ, ◌+◌, ◌*◌, ◌≤◌, List, [], ◌∷◌, map, length, take, Ok, Err, Result}
use Rattle.column.specs.Kinds.{number_of}
use Rattle.column.specs.Columns.{Column, Offer, Sound, offer_of, cleaned, seen, words_for}
use Rattle.stats.specs.Stats.{Stats}
use Rattle.stats.specs.Seen.{stats_seen, Holds}
use Rattle.scheme.specs.Asked.{MeasuredBy}
use Rattle.scheme.specs.Bounded.{items}
use Rattle.scheme.specs.declared.bounded.Bounded.{Bounded}
use Rattle.scheme.specs.declared.ctx.CompressorContext.{CompressorContext}
use Rattle.scheme.specs.declared.asked.ArrayAndStats.{ArrayAndStats}
use Rattle.scheme.specs.declared.scheme.ChildShape.{ChildShape}
use Rattle.scheme.specs.declared.scheme.RowRefused.{RowRefused}
use Rattle.scheme.specs.declared.scheme.Shape.{Shape}
use Rattle.scheme.specs.declared.stored.Stored.{Stored}
use Rattle.scheme.specs.Meaning.{History, Parts}

-- the words that a scheme may use for n rows
abbrev pub spare : ℕ → ℕ
spare n = 4 * n + 256

-- the history of a context
abbrev pub entries_of : Bounded (ℕ × ℕ) 8 → History
entries_of h = items h

abbrev pub history_of : CompressorContext → History
history_of c = entries_of c.cascade_history

-- the statistics that go with a column
abbrev pub stats_in : ArrayAndStats → Stats
stats_in d = stats_seen d.stats.now d.table.now

-- they are the column's own, made with or without distinct counts, and the table holds the pairs
abbrev pub Measured : ArrayAndStats → Type 0
Measured d = MeasuredBy d.array d.stats.now d.table.now × Holds d.stats.now d.table.now

-- lent places that the children of n rows fit into
pub record Room (n : ℕ) (c0 w0 c1 w1 m : List ℕ) : Type 0 where
  pub cells0 : n ≤ length c0
  pub words0 : words_for n ≤ length w0
  pub cells1 : n ≤ length c1
  pub words1 : words_for n ≤ length w1
  pub spared : spare n ≤ length m

-- ---- parts but for what the payload holds; each child by its number of rows and as it is stored

pub record Outline : Type 0 where
  pub payload : ℕ
  pub cell_bits : ℕ
  pub flag : ℕ
  pub children : List (ℕ × Offer)

abbrev pub stored_child : Column → ℕ × Offer
stored_child c = (length c.rows, offer_of c)

abbrev pub outlined : Parts → Outline
outlined p = record { payload = length p.payload; cell_bits = p.cell_bits; flag = p.flag; children = map stored_child p.children }

abbrev pub outline : Result Parts ℕ → Result Outline ℕ
outline (Ok p) = Ok (outlined p)
outline (Err r) = Err r

-- a child in lent places
abbrev pub child_seen : ChildShape → List ℕ → List ℕ → ℕ × Offer
child_seen s cs ws = (s.rows, record { kind = number_of s.kind; cells = take s.rows cs; words = take (words_for s.rows) ws })

-- what the answer and the lent places say, of a scheme with that many children
abbrev pub shape_seen : ℕ → Result Shape RowRefused → List ℕ → List ℕ → List ℕ → List ℕ → Result Outline ℕ
shape_seen n (Err e) c0 w0 c1 w1 = Err e.row
shape_seen n (Ok s) c0 w0 c1 w1 =
    Ok (record {
      payload = s.payload;
      cell_bits = s.cell_bits;
      flag = s.flag;
      children = take n (child_seen s.child0 c0 w0 ∷ (child_seen s.child1 c1 w1 ∷ []));
    })

abbrev pub payload_in : Result Parts ℕ → List ℕ
payload_in (Ok p) = p.payload
payload_in (Err r) = []

-- ---- joining back

-- the parts that a reader hands to a scheme with that many children
abbrev pub parts_seen : ℕ → Stored → Parts
parts_seen n s = record {
  payload = s.payload.now;
  cell_bits = s.cell_bits;
  flag = s.flag;
  children = take n (seen s.child0 ∷ (seen s.child1 ∷ []));
}

-- the column that lent places hold
abbrev pub held : ℕ → List ℕ → List ℕ → Column
held k cs ws = cleaned (record { kind = k; cells = cs; words = ws })

-- children of any rows, no more than the column has, and room for as many rows as it has
pub record Joinable (s : Stored) (m cs ws : List ℕ) : Type 0 where
  pub few : s.rows ≤ 131072
  pub short0 : length s.child0.cells.now ≤ s.rows
  pub short1 : length s.child1.cells.now ≤ s.rows
  pub child0 : Sound s.child0
  pub child1 : Sound s.child1
  pub cells : length cs ≡ s.rows
  pub words : length ws ≡ words_for s.rows
  pub spared : spare s.rows ≤ length m
