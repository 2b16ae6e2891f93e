pub mod Sizes
pub mod SizesLaws
