pub mod FindLaws
pub mod HoldingLaws
pub mod OwnLaws
pub mod ChildLaws
pub mod PlaceLaws
pub mod ClearLaws
