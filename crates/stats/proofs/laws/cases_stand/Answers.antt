use Rattle.std.proofs.Common.{refl}
use Rattle.stats.specs.Stats.{halvings}
use Rattle.stats.proofs.laws.cases_stand.Goals as goal

pub returns : goal.returns
unfolding halvings
returns c =
    record {
      runs_none = refl;
      runs-one = refl;
      runs_same = refl;
      runs-back = refl;
      average-down = refl;
      average-even = refl;
      average-none = refl;
      six-all = refl;
      six-unwanted = refl;
      tied-signed = refl;
      tied-counts = refl;
      tied-top = refl;
      tied-unsigned = refl;
      tied-other = refl;
      tied-number = refl;
      unwanted-number = refl;
      empty = refl;
      blank = refl;
      rows-63 = refl;
      rows-64 = refl;
      rows-65 = refl;
      border = refl;
      range-one = refl;
      range-signed = refl;
      range_all = refl;
      range_none = refl;
      zero-zero = refl;
      zero_one = refl;
      negative-minus = refl;
      negative-zero = refl;
      negative-unsigned = refl;
      log-zero = refl;
      log-one = refl;
      log-below = refl;
      log-at = refl;
      log-minus = refl;
      log-wide = refl;
      log-none-unsigned = refl;
      log-none-signed = refl;
    }
