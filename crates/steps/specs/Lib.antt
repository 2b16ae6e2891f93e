pub mod Steps
pub mod Order
pub mod OrderLaws
pub mod Examples
pub mod Sums
