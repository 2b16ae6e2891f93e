pub mod Instructions
pub mod Codes
pub mod InstructionsLaws
