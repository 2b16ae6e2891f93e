pub mod Refusals
pub mod RefusalsLaws
