use mathlib.Core.Path.{refl}
use Rattle.dict.specs.DictKeeps.{dict-keeps}
use Rattle.runs.specs.RunsKeeps.{runs-keeps}
use Rattle.frame.specs.FrameLaws.{frame-keeps}
use Rattle.stern.specs.SternLaws.{stern-keeps}
use Rattle.banks.proofs.banks_keep.Goals as goal

pub returns : goal.returns
returns c = record {
  house-keeps = (dict-keeps, (runs-keeps, (frame-keeps, tt)));
  trial-keeps = (stern-keeps, (dict-keeps, (runs-keeps, (frame-keeps, tt))));
  house-ids = refl;
  trial-ids = refl;
}
