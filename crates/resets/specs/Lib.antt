pub mod Resets
pub mod ResetsLaws
