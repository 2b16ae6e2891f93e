pub mod State
pub mod DebrayAllocator
pub mod DebrayAllocatorLaws
