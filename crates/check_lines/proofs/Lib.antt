pub mod ReadingLaws
pub mod CheckLinesLaws
