-- Ground and levels: from a cleaned column, a history and the sample flag to a node, or the refusal of a scheme.
use Rattle.std.specs.Prelude.{ℕ, zero, suc, Bool, true, false, not, ◌&&◌, List, [], ◌∷◌, ◌++◌, length, Some, None, Ok, Err, Option, Result, nat_lt}
use Rattle.column.specs.declared.refusals.Refusal.{Refusal}
use Rattle.column.specs.declared.refusals.Refusal.TheVariants.{SchemeRefused}
use Rattle.column.specs.Columns.{Row, Column, values}
use Rattle.stats.specs.Stats.{Stats, stats}
use Rattle.node.specs.declared.heads.Head.{Head}
use Rattle.node.specs.Nodes.{Node, weight, plain_node, constant_node, blank_node, node_over}
use Rattle.sample.specs.Draws.{Source}
use Rattle.sample.specs.Samples.{sample_of}
use Rattle.scheme.specs.declared.estimate.DeferredEstimate.{DeferredEstimate}
use Rattle.scheme.specs.declared.estimate.DeferredEstimate.TheVariants.{Sample, Callback}
use Rattle.scheme.specs.declared.estimate.EstimateVerdict.{EstimateVerdict}
use Rattle.scheme.specs.declared.estimate.EstimateVerdict.TheVariants.{Skip, Ratio}
use Rattle.scheme.specs.declared.estimate.EstimateScore.{EstimateScore}
use Rattle.scheme.specs.declared.estimate.EstimateScore.TheVariants.{FiniteCompression, ZeroBytes}
use Rattle.scheme.specs.Scores.{score_of}
use Rattle.scheme.specs.Meaning.{Meaning, Parts, History}
use Rattle.scheme.specs.Exclusion.{eligible, wanted}
use Rattle.constant.specs.Constants.{constantly}
use Rattle.levels.specs.Choice.{Chosen, chosen_by, asked}

abbrev pub Bound : Type 0
Bound = Result Node Refusal

-- how a column with a history is bound, in a sample or not
abbrev pub Below : Type 0
Below = Column → History → Bool → Bound

abbrev pub ground : Below
ground c h f = Ok (plain_node c)

-- ---- a scheme's node of a column: its parts, and its children as bound below, child 0 first

abbrev pub Kids : Type 0
Kids = Result (List Node) Refusal

abbrev pub kid_step : Bound → Kids → Kids
kid_step (Err e) ks = Err e
kid_step (Ok n) (Err e) = Err e
kid_step (Ok n) (Ok ns) = Ok (n ∷ ns)

-- the children from number k on
abbrev pub kids_below : Below → ℕ → History → Bool → ℕ → List Column → Kids
kids_below below i h f k [] = Ok []
kids_below below i h f k (c ∷ cs) = kid_step (below c (h ++ ((i, k) ∷ [])) f) (kids_below below i h f (suc k) cs)

abbrev pub scheme_head : Meaning → Column → Parts → Head
scheme_head m c p = record { form = m.id; kind = c.kind; cell_bits = p.cell_bits; flag = p.flag; rows = length c.rows }

abbrev pub scheme_node : Meaning → Column → Parts → List Node → Node
scheme_node m c p ns = node_over (scheme_head m c p) p.payload ns

abbrev pub over_kids : Meaning → Column → Parts → Kids → Bound
over_kids m c p (Ok ns) = Ok (scheme_node m c p ns)
over_kids m c p (Err e) = Err e

-- a scheme refuses its parts at a row
abbrev pub refused_at : Meaning → ℕ → History → Bool → Refusal
refused_at m r h f = SchemeRefused r m.id (length h) f

abbrev pub bound_by : Below → Meaning → Column → History → Bool → Result Parts ℕ → Bound
bound_by below m c h f (Ok p) = over_kids m c p (kids_below below m.id h f 0 p.children)
bound_by below m c h f (Err r) = Err (refused_at m r h f)

unfoldable pub scheme_bound : Below → Meaning → Column → History → Bool → Bound
scheme_bound below m c h f = bound_by below m c h f (m.parts c)

-- ---- what a deferred scheme comes to

-- a sample of 0 bytes never counts
abbrev pub score_verdict : EstimateScore → EstimateVerdict
score_verdict (FiniteCompression x) = Ratio x
score_verdict ZeroBytes = Skip

-- plain weight over weight
abbrev pub score_by : Column → Bound → Result EstimateVerdict Refusal
score_by c (Ok n) = Ok (score_verdict (score_of (weight (plain_node c)) (weight n)))
score_by c (Err e) = Err e

-- the score of a scheme on a sample
abbrev pub scored : Below → History → Meaning → Column → Result EstimateVerdict Refusal
scored below h m c = score_by c (scheme_bound below m c h true)

abbrev pub late : Source → Below → Column → Stats → History → Bool → Meaning → DeferredEstimate → Option EstimateScore → Result EstimateVerdict Refusal
late d below c t h f m Callback mark = Ok (m.verdict c t h f mark)
late d below c t h f m Sample mark = scored below h m (sample_of d f c)

-- ---- a level

-- the statistics at a node: distinct counts are made if an eligible scheme wants them
abbrev pub stats_at : List Meaning → Column → History → Stats
stats_at ms c h = stats (wanted (eligible ms c.kind h)) c

unfoldable pub choice : List Meaning → Source → Below → Column → History → Bool → Chosen
choice ms d below c h f =
    chosen_by (late d below c (stats_at ms c h) h f) (asked c (stats_at ms c h) h f (eligible ms c.kind h) None)

abbrev pub lighter_by : Bool → Node → Node → Node
lighter_by true n p = n
lighter_by false n p = p

abbrev pub lighter : Node → Node → Node
lighter n p = lighter_by (nat_lt (weight n) (weight p)) n p

-- a node stays if it is lighter than plain
abbrev pub or_plain : Column → Bound → Bound
or_plain c (Ok n) = Ok (lighter n (plain_node c))
or_plain c (Err e) = Err e

abbrev pub won : Below → Column → History → Bool → Chosen → Bound
won below c h f (Err e) = Err e
won below c h f (Ok None) = Ok (plain_node c)
won below c h f (Ok (Some m)) = or_plain c (scheme_bound below m c h f)

abbrev pub competed : List Meaning → Source → Below → Column → History → Bool → Bound
competed ms d below c h f = won below c h f (choice ms d below c h f)

-- a constant column is taken for one only outside a sample
abbrev pub taken_constant : Bool → Column → Bool
taken_constant f c = not f && constantly (values c)

abbrev pub constant_by : Bool → List Meaning → Source → Below → Column → History → Bool → Bound
constant_by true ms d below c h f = Ok (lighter (constant_node c) (plain_node c))
constant_by false ms d below c h f = competed ms d below c h f

-- no row: plain; no value: blank; one value: constant or plain; else the schemes compete
abbrev pub leveled : List Meaning → Source → Below → Column → History → Bool → List Row → List ℕ → Bound
leveled ms d below c h f [] vs = Ok (plain_node c)
leveled ms d below c h f (r ∷ rs) [] = Ok (blank_node c)
leveled ms d below c h f (r ∷ rs) (v ∷ vs) = constant_by (taken_constant f c) ms d below c h f

abbrev pub level : List Meaning → Source → Below → Below
level ms d below c h f = leveled ms d below c h f c.rows (values c)

-- that many levels over the ground
unfoldable pub levels : List Meaning → Source → ℕ → Below
levels ms d zero c h f = ground c h f
levels ms d (suc l) c h f = level ms d (levels ms d l) c h f

-- a column at the root
abbrev pub bound : List Meaning → Source → ℕ → Column → Bound
bound ms d l c = levels ms d l c [] false
