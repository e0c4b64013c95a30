-- A sample is of the column's kind.
use Rattle.std.proofs.Common.{◌≡◌, Bool, true, false, refl}
use Rattle.column.specs.Columns.{Column}
use Rattle.sample.specs.Draws.{Source}
use Rattle.sample.specs.Samples.{sample_of}

pub sample-kind : (d : Source) (f : Bool) (c : Column) → (sample_of d f c).kind ≡ c.kind
sample-kind d true c = refl
sample-kind d false c = refl
