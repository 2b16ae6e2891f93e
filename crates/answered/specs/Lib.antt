pub mod Answered
pub mod AnsweredLaws
pub mod NumberLaws
