pub mod CheckSheets
pub mod Running
pub mod RunningLaws
pub mod TellsLaws
pub mod AnswerLaws
pub mod CheckSheetsLaws
