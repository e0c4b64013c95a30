pub mod Cases
pub mod Frame
pub mod FrameLaws
