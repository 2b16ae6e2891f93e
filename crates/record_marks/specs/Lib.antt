pub mod RecordMarks
