pub mod MarkVar
pub mod MarkVarLaws
