pub mod Tests
pub mod Fits
pub mod Reachable
