pub mod Choosing
pub mod Sizes
pub mod HoldLaws
pub mod RefusalLaws
