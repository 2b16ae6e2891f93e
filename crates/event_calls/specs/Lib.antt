pub mod EventCalls
pub mod CallLaws
pub mod EventCallsLaws
pub mod Fold
pub mod FoldLaws
