use Rattle.std.proofs.Common.{refl}
use lib.Ieee.{div, of_int, round, of_bits, of_fields, odd, lt, eq}
use lib.Count.{count_trailing_zeros}
use Rattle.std.specs.Float.{float_is_finite, float_with_sign}
use Rattle.packing.specs.Packing.{bit_length_by}
use Rattle.scheme.specs.Scores.{valid}
use Rattle.levels.specs.Choice.{asked, decided}
use Rattle.levels.specs.Levels.{scheme_bound, choice, levels}
use Rattle.levels.specs.Plans.{places}
use Rattle.instances.specs.Edges.{BindEdges}
use Rattle.instances.proofs.edges_stand.Goals as goal

bind_edges : BindEdges
unfolding float_is_finite float_with_sign div of_int round of_bits of_fields odd lt eq count_trailing_zeros bit_length_by valid asked decided scheme_bound choice levels places
bind_edges = record {
  memory = refl;
  little_memory = refl;
  columns = refl;
  many_columns = refl;
  little_space = refl;
  used_space = refl;
  refused = refl;
  kind_first = refl;
  memory_first = refl;
  columns_first = refl;
  scheme_first = refl;
}

pub returns : goal.returns
returns c = record {
  openings = record {
    eight_schemes = refl;
    nine_schemes = refl;
    no_scheme = refl;
    eight_levels = refl;
    nine_levels = refl;
    lowest_id = refl;
    too_low = refl;
    highest_id = refl;
    too_high = refl;
    twice = refl;
  };
  binds = bind_edges;
  fetches = record { enough = refl; few_cells = refl; few_words = refl; one_more_row = refl; little_memory = refl; more_levels = refl; places_first = refl };
  weighs = record { last = refl; past_last = refl };
}
