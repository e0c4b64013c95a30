-- Which node stands for a column, in the subject's words.
use Rattle.std.specs.Prelude.{◌≡◌, ℕ, suc, ◌<◌, ◌≤◌, Bool, true, false, ◌&&◌, ◌⊎◌, List, [], ◌∷◌, ◌++◌, length, None, Ok, Err, Result}
use Rattle.std.specs.List.{AllByRecursion}
use Rattle.column.specs.declared.refusals.Refusal.{Refusal}
use Rattle.column.specs.Columns.{Column, values}
use Rattle.node.specs.Nodes.{Node, weight, plain_node, constant_node, blank_node}
use Rattle.sample.specs.Draws.{Source, Within}
use Rattle.sample.specs.Samples.{sample_of}
use Rattle.scheme.specs.declared.estimate.CompressionEstimate.{CompressionEstimate}
use Rattle.scheme.specs.declared.estimate.CompressionEstimate.TheVariants.{Verdict, Deferred}
use Rattle.scheme.specs.declared.estimate.DeferredEstimate.TheVariants.{Sample, Callback}
use Rattle.scheme.specs.declared.estimate.EstimateVerdict.{EstimateVerdict}
use Rattle.scheme.specs.declared.estimate.EstimateVerdict.TheVariants.{Skip, AlwaysUse, Ratio}
use Rattle.scheme.specs.Scores.{valid, above, same, score_of}
use Rattle.scheme.specs.Meaning.{Meaning, Parts, History}
use Rattle.scheme.specs.Exclusion.{eligible}
use Rattle.scheme.specs.Banks.{AllKeep}
use Rattle.levels.specs.Levels.{levels, scored, score_verdict, scheme_node, stats_at, taken_constant}

-- ---- what is opened

-- a bank of schemes and a source of draws
pub record Opening : Type 0 where
  pub bank : List Meaning
  pub source : Source

-- both keep their meaning
pub record Keep (o : Opening) : Type 0 where
  pub bank : AllKeep o.bank
  pub source : Within o.source

-- ---- verdicts

-- Skip and ratios that are not valid never count
abbrev pub counts : EstimateVerdict → Bool
counts Skip = false
counts AlwaysUse = true
counts (Ratio x) = valid x

-- AlwaysUse beats every ratio, and a greater valid ratio beats a smaller
abbrev pub beats : EstimateVerdict → EstimateVerdict → Bool
beats Skip v = false
beats AlwaysUse Skip = true
beats AlwaysUse AlwaysUse = false
beats AlwaysUse (Ratio y) = true
beats (Ratio x) Skip = valid x
beats (Ratio x) AlwaysUse = false
beats (Ratio x) (Ratio y) = valid x && above x y

abbrev pub equals : EstimateVerdict → EstimateVerdict → Bool
equals Skip v = false
equals AlwaysUse Skip = false
equals AlwaysUse AlwaysUse = true
equals AlwaysUse (Ratio y) = false
equals (Ratio x) Skip = false
equals (Ratio x) AlwaysUse = false
equals (Ratio x) (Ratio y) = same x y

-- a scoring that is refused counts for nothing
abbrev pub or_skip : Result EstimateVerdict Refusal → EstimateVerdict
or_skip (Ok v) = v
or_skip (Err e) = Skip

-- a competitor's verdict with l levels below, by its answer: a Callback's without a mark, a Sample's score
abbrev pub verdict_by : Opening → Bool → ℕ → Column → History → Meaning → CompressionEstimate → EstimateVerdict
verdict_by o f l c h m (Verdict v) = v
verdict_by o f l c h m (Deferred Callback) = m.verdict c (stats_at o.bank c h) h f None
verdict_by o f l c h m (Deferred Sample) = or_skip (scored (levels o.bank o.source l) h m (sample_of o.source f c))

abbrev pub answer_at : Opening → Bool → Column → History → Meaning → CompressionEstimate
answer_at o f c h m = m.answer c (stats_at o.bank c h) h f

abbrev pub verdict_at : Opening → Bool → ℕ → Column → History → Meaning → EstimateVerdict
verdict_at o f l c h m = verdict_by o f l c h m (answer_at o f c h m)

-- ---- the order among equals: immediate answers first, then the deferred, each in bank order

abbrev pub immediate_step : Meaning → CompressionEstimate → List Meaning → List Meaning
immediate_step m (Verdict v) ms = m ∷ ms
immediate_step m (Deferred d) ms = ms

abbrev pub deferred_step : Meaning → CompressionEstimate → List Meaning → List Meaning
deferred_step m (Verdict v) ms = ms
deferred_step m (Deferred d) ms = m ∷ ms

abbrev pub immediates : (Meaning → CompressionEstimate) → List Meaning → List Meaning
immediates A [] = []
immediates A (m ∷ ms) = immediate_step m (A m) (immediates A ms)

abbrev pub deferreds : (Meaning → CompressionEstimate) → List Meaning → List Meaning
deferreds A [] = []
deferreds A (m ∷ ms) = deferred_step m (A m) (deferreds A ms)

abbrev pub ranked : (Meaning → CompressionEstimate) → List Meaning → List Meaning
ranked A ms = immediates A ms ++ deferreds A ms

-- ---- who wins

-- v does not count, or w beats it
abbrev pub Lost : EstimateVerdict → EstimateVerdict → Type 0
Lost w v = (counts v ≡ false) ⊎ (beats w v ≡ true)

-- m wins among competitors in their order among equals: its verdict counts, and every other's does not count, is beaten by it,
-- or is equal and comes later
pub record Wins (V : Meaning → EstimateVerdict) (ms : List Meaning) (m : Meaning) : Type 0 where
  pub before : List Meaning
  pub after : List Meaning
  pub split : ms ≡ before ++ (m ∷ after)
  pub valued : counts (V m) ≡ true
  pub ahead : AllByRecursion (λ u. Lost (V m) (V u)) before
  pub behind : AllByRecursion (λ u. Lost (V m) (V u) ⊎ (equals (V m) (V u) ≡ true)) after

-- the eligible schemes compete
abbrev pub competitors : Opening → Bool → Column → History → List Meaning
competitors o f c h = ranked (answer_at o f c h) (eligible o.bank c.kind h)

abbrev pub WinsAt : Opening → Bool → ℕ → Column → History → Meaning → Type 0
WinsAt o f l c h m = Wins (verdict_at o f l c h) (competitors o f c h) m

abbrev pub NoneCounts : Opening → Bool → ℕ → Column → History → Type 0
NoneCounts o f l c h = AllByRecursion (λ u. counts (verdict_at o f l c h u) ≡ false) (competitors o f c h)

abbrev pub SomeScheme : List Meaning → Type 0
SomeScheme [] = ⊥
SomeScheme (m ∷ ms) = Unit {0}

-- schemes compete where there is a value, the column is not taken for a constant, and a scheme is eligible
pub record Competed (o : Opening) (f : Bool) (c : Column) (h : History) : Type 0 where
  pub valued : 1 ≤ length (values c)
  pub varied : taken_constant f c ≡ false
  pub eligible : SomeScheme (eligible o.bank c.kind h)

-- ---- which node stands

mutual
  -- node n stands for column c at history h with l levels left, in a sample or not
  pub data Stands (o : Opening) (f : Bool) : ℕ → Column → History → Node → Type 0 where
    on_ground : (c : Column) (h : History) → Stands o f 0 c h (plain_node c)
    no_row : (l : ℕ) (c : Column) (h : History) → length c.rows ≡ 0 → Stands o f (suc l) c h (plain_node c)
    no_value : (l : ℕ) (c : Column) (h : History) → 1 ≤ length c.rows → values c ≡ [] → Stands o f (suc l) c h (blank_node c)
    one_value : (l : ℕ) (c : Column) (h : History) → taken_constant f c ≡ true
        → weight (constant_node c) < weight (plain_node c) → Stands o f (suc l) c h (constant_node c)
    one_value_plain : (l : ℕ) (c : Column) (h : History) → taken_constant f c ≡ true
        → weight (plain_node c) ≤ weight (constant_node c) → Stands o f (suc l) c h (plain_node c)
    no_scheme : (l : ℕ) (c : Column) (h : History) → 1 ≤ length (values c) → taken_constant f c ≡ false
        → eligible o.bank c.kind h ≡ [] → Stands o f (suc l) c h (plain_node c)
    none_counts : (l : ℕ) (c : Column) (h : History) → Competed o f c h → NoneCounts o f l c h → Stands o f (suc l) c h (plain_node c)
    not_lighter : (l : ℕ) (c : Column) (h : History) (m : Meaning) (p : Parts) (ns : List Node) → Competed o f c h → WinsAt o f l c h m
        → m.parts c ≡ Ok p → StandAll o f l m.id h 0 p.children ns
        → weight (plain_node c) ≤ weight (scheme_node m c p ns) → Stands o f (suc l) c h (plain_node c)
    winner_stands : (l : ℕ) (c : Column) (h : History) (m : Meaning) (p : Parts) (ns : List Node) → Competed o f c h → WinsAt o f l c h m
        → m.parts c ≡ Ok p → StandAll o f l m.id h 0 p.children ns
        → weight (scheme_node m c p ns) < weight (plain_node c) → Stands o f (suc l) c h (scheme_node m c p ns)

  -- nodes stand for the children of scheme i from child k on
  pub data StandAll (o : Opening) (f : Bool) : ℕ → ℕ → History → ℕ → List Column → List Node → Type 0 where
    none_left : (l i : ℕ) (h : History) (k : ℕ) → StandAll o f l i h k [] []
    one_more : (l i : ℕ) (h : History) (k : ℕ) (c : Column) (cs : List Column) (n : Node) (ns : List Node)
        → Stands o f l c (h ++ ((i, k) ∷ [])) n → StandAll o f l i h (suc k) cs ns → StandAll o f l i h k (c ∷ cs) (n ∷ ns)

-- ---- scores

-- how scheme m scores on column c with l levels below: by its parts of the column, over the nodes that stand for the children in a sample
pub record Scoring (o : Opening) (l : ℕ) (c : Column) (h : History) (m : Meaning) (v : EstimateVerdict) : Type 0 where
  pub parts : Parts
  pub children : List Node
  pub given : m.parts c ≡ Ok parts
  pub stand : StandAll o true l m.id h 0 parts.children children
  pub score : v ≡ score_verdict (score_of (weight (plain_node c)) (weight (scheme_node m c parts children)))

-- ---- the laws

-- what the levels make stands
abbrev pub LevelsStand : Type 0
LevelsStand =
    (o : Opening) → Keep o → (f : Bool) (l : ℕ) (c : Column) (h : History) (n : Node)
    → levels o.bank o.source l c h f ≡ Ok n → Stands o f l c h n

-- and no other node stands for a column that is bound: so which node stands decides every byte
abbrev pub OneStands : Type 0
OneStands =
    (o : Opening) → Keep o → (f : Bool) (l : ℕ) (c : Column) (h : History) (n k : Node)
    → Stands o f l c h n → levels o.bank o.source l c h f ≡ Ok k → n ≡ k

-- a score is that of nodes that stand
abbrev pub ScoresStand : Type 0
ScoresStand =
    (o : Opening) → Keep o → (l : ℕ) (c : Column) (h : History) (m : Meaning) (v : EstimateVerdict)
    → scored (levels o.bank o.source l) h m c ≡ Ok v → Scoring o l c h m v
