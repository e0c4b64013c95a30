-- Statistics and the column that they are of.
use Rattle.std.specs.Prelude.{◌≡◌, ℕ, Bool, List}
use Rattle.column.specs.declared.views.View.{View}
use Rattle.column.specs.Columns.{seen}
use Rattle.stats.specs.declared.integer.IntegerStats.{IntegerStats}
use Rattle.stats.specs.Seen.{stats_seen}
use Rattle.stats.specs.Stats.{stats}

-- they are the column's own, made with or without distinct counts
abbrev pub MeasuredBy : View → IntegerStats → List ℕ → Type 0
MeasuredBy v s t = (want : Bool) × (stats_seen s t ≡ stats want (seen v))
