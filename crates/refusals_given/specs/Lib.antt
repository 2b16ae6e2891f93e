pub mod Given
pub mod Exactly
pub mod CarriedExactly
