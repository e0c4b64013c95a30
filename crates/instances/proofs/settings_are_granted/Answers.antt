use Rattle.instances.proofs.SettingLaws.{all-used}
use Rattle.instances.proofs.settings_are_granted.Goals as goal

pub returns : goal.returns
returns c = all-used
