pub mod Machine
pub mod Wanted
pub mod Right
pub mod Examples
