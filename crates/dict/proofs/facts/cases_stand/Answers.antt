use Rattle.std.proofs.Common.{◌-◌, refl, ap}
use Rattle.packing.specs.Packing.{bit_length_by}
use Rattle.scheme.specs.Children.{narrow}
use Rattle.dict.proofs.facts.cases_stand.Goals as goal

pub returns : goal.returns
unfolding bit_length_by
returns c =
    record {
      half = refl;
      more = refl;
      less = refl;
      empty = refl;
      blank = refl;
      uncounted = refl;
      wide = refl;
      one = refl;
      four = refl;
      singly = refl;
      by_runs = refl;
      bytes = λ ds e. ap (λ n. narrow (n - 1)) e;
      past_bytes = λ ds e. ap (λ n. narrow (n - 1)) e;
      shorts = λ ds e. ap (λ n. narrow (n - 1)) e;
      past-shorts = λ ds e. ap (λ n. narrow (n - 1)) e;
      distinct = refl;
      codes = refl;
      past = refl;
      short = refl;
    }
