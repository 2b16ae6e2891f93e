pub mod Allocation
pub mod AllocationLaws
