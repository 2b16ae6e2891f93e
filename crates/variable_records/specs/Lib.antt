pub mod Records
pub mod Safety
pub mod Rows
pub mod RowsLaws
pub mod TableLaws
