mod FormLaws
pub mod HeaderLaws
pub mod LeafLaws
pub mod MaskLaws
pub mod NodeBytes
pub mod SpareLaws
pub mod WeightLaws
pub mod WidthLaws
pub mod WriteLaws
