pub mod ChoiceLaws
pub mod EquationLaws
pub mod Text
pub mod TextLaws
pub mod Lists
pub mod ListLaws
pub mod Least
pub mod LeastLaws
