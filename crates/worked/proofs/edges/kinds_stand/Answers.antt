use Rattle.std.proofs.Common.{refl}
use Rattle.worked.proofs.edges.kinds_stand.Goals as goal

pub returns : goal.returns
returns c =
    record {
      widths = refl;
      narrow = refl;
      u8 = refl;
      u16 = refl;
      u32 = refl;
      u64 = refl;
      i8 = refl;
      i16 = refl;
      i32 = refl;
      i64 = refl;
    }
