pub mod EventSheets
pub mod Running
pub mod RunningLaws
pub mod AnswerLaws
pub mod EventSheetsLaws
