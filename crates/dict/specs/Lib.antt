pub mod Dict
pub mod Cases
pub mod DictKeeps
