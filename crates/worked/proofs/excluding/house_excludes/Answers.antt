use Rattle.std.proofs.Common.{refl}
use Rattle.worked.proofs.excluding.house_excludes.Goals as goal

pub returns : goal.returns
returns c =
    record {
      root = refl;
      below_dict = refl;
      below_codes = refl;
      below_frame = refl;
      below_both = refl;
      below_all = refl;
      below_firsts = refl;
      below_ends = refl;
      far_below_ends = refl;
      later_ends = refl;
      third_child = refl;
      trial_ends = refl;
      without_runs = refl;
    }
