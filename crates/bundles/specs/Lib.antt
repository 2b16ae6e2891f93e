pub mod Bundles
pub mod LinesLaws
pub mod Running
pub mod FrontLaws
pub mod RunningLaws
pub mod BundlesLaws
