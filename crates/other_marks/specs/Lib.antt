pub mod OtherMarks
