pub mod Lists
pub mod ListLaws
pub mod Branches
pub mod BranchesLaws
pub mod Example
