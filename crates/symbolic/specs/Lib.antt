pub mod Names
pub mod Symbolic
pub mod TablesLaws
