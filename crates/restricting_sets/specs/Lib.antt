pub mod Restricting
pub mod BelowLaws
pub mod RowsLaws
pub mod AnewLaws
pub mod StepLaws
pub mod RestrictingLaws
