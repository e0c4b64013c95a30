pub mod SettingLaws
pub mod WitnessLaws
