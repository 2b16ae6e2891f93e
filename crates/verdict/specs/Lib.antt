pub mod Verdict
pub mod SubtermsLaws
pub mod PartsLaws
pub mod VerdictLaws
