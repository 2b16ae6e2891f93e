pub mod State
pub mod Counters
