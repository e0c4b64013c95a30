use Rattle.std.proofs.Common.{refl}
use Rattle.worked.proofs.edges.refusals_stand.Goals as goal

pub returns : goal.returns
returns c =
    record {
      kinds = refl;
      past_kinds = refl;
      rows = refl;
      past_rows = refl;
      in_order = refl;
      words = refl;
      bit = refl;
      last_bit = refl;
      full_word = refl;
      no_word = refl;
      more_words = refl;
      bit_first = refl;
      second = refl;
      numbers = refl;
      row = refl;
      all = refl;
    }
