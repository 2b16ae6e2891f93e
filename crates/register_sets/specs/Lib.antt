pub mod RegisterSets
pub mod RegisterSetsLaws
