pub mod Exactly
pub mod Judges
pub mod NoSecondCheckLaws
