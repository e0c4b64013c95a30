pub mod AskedLaws
pub mod ChildLaws
pub mod Ratios
