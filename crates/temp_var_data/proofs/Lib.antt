pub mod ConflictLaws
