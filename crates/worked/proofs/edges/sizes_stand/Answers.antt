use Rattle.std.proofs.Common.{refl}
use Rattle.levels.specs.Plans.{places}
use Rattle.worked.proofs.edges.sizes_stand.Goals as goal

pub returns : goal.returns
unfolding places
returns c =
    record {
      share_none = refl;
      share_one = refl;
      room_none = refl;
      room_two = refl;
      ground = refl;
      four = refl;
      most = refl;
      spare_none = refl;
      spare_one = refl;
      places = refl;
      own = refl;
      children = refl;
      scheme = refl;
      score = refl;
      choice = refl;
      choice_above = refl;
    }
