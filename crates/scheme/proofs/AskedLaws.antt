-- Which statistics a column has is told by themselves.
use Rattle.std.proofs.Common.{◌≡◌, ℕ, Bool, true, false, List, [], ◌∷◌, is_some, sym, refl, ap, ◌∙◌}
use Rattle.std.proofs.Math.Logic.{∥∥₁_elim}
use Rattle.std.proofs.Props.{props}
use Rattle.column.specs.declared.views.View.{View}
use Rattle.column.specs.Columns.{Row, Column, seen, values}
use Rattle.stats.specs.declared.integer.IntegerStats.{IntegerStats}
use Rattle.stats.specs.Seen.{stats_seen}
use Rattle.stats.specs.Stats.{Stats, stats, stats_of}
use Rattle.scheme.specs.Asked.{MeasuredBy}

-- made with distinct counts where they have a distinct part, they are the same
same-part : (want : Bool) (k : ℕ) (rs : List Row) (vs : List ℕ) → stats_of want k rs vs ≡ stats_of (is_some (stats_of want k rs vs).distinct) k rs vs
same-part want k [] vs = refl
same-part want k (r ∷ rs) [] = refl
same-part true k (r ∷ rs) (v ∷ vs) = refl
same-part false k (r ∷ rs) (v ∷ vs) = refl

-- that they are a column's own by one way or the other gives which way
pub measured-of : (v : View) (s : IntegerStats) (t : List ℕ) → ∥ MeasuredBy v s t ∥₁ → MeasuredBy v s t
measured-of v s t m =
    let c = seen v in
    let x = stats_seen s t in
    let own : MeasuredBy v s t → x ≡ stats (is_some x.distinct) c =
    λ p. p.1 ∙ same-part p.0 c.kind c.rows (values c) ∙ ap (λ (y : Stats). stats (is_some y.distinct) c) (sym p.1) in
    (is_some x.distinct, ∥∥₁_elim m (Prim.hlevel props) own)
