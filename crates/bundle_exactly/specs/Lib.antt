pub mod Exactly
pub mod OneClause
