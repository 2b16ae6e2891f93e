pub mod Behind
pub mod Words
pub mod CheckLines
pub mod Reading
pub mod PrintedLines
pub mod Examples
