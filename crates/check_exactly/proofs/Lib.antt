pub mod ReadingLaws
pub mod LineRefusedLaws
pub mod RefusedLaws
pub mod JudgesLaws
