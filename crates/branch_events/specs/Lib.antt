pub mod BranchEvents
