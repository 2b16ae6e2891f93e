pub mod BranchStack
pub mod BranchStackLaws
