pub mod TestLaws
pub mod Lists
pub mod ListLaws
pub mod Uses
pub mod UsesLaws
pub mod GivenLaws
pub mod AddedLaws
