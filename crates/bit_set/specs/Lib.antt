pub mod BitSet
pub mod DigitLaws
pub mod BitSetLaws
pub mod Collected
pub mod CollectedLaws
pub mod Search
pub mod SearchLaws
