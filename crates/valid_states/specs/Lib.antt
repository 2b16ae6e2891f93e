pub mod ValidStates
pub mod Parts
pub mod ValidStatesLaws
