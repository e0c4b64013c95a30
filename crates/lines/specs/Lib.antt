pub mod Lines
pub mod Held
pub mod Answers
pub mod Worked
