pub mod StandingLaws
pub mod UniqueLaws
pub mod WinnerLaws
