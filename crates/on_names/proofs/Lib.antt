pub mod ActsLaws
pub mod ReadsLaws
pub mod StandsLaws
pub mod NamesLaws
pub mod ChoiceLaws
pub mod PairsLaws
pub mod AsksLaws
