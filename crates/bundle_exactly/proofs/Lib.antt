pub mod TestsLaws
pub mod ReadBackLaws
pub mod RefusedLaws
pub mod AloneLaws
pub mod PrintedLaws
pub mod RefusedClauseLaws
pub mod OneClauseLaws
pub mod EdgeLaws
