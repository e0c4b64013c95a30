use Rattle.instances.proofs.SettingLaws.{takes-all}
use Rattle.instances.proofs.house_takes_all.Goals as goal

pub returns : goal.returns
returns c = takes-all
