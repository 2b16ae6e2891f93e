pub mod BehindLaws
pub mod MarksMadeLaws
pub mod NothingLeftOut
