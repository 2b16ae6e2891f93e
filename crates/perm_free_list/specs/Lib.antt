pub mod PermFreeList
pub mod PermFreeListLaws
pub mod TableLaws
