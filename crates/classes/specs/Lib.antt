pub mod Classes
pub mod Forces
pub mod Parents
pub mod Cases
pub mod ClassesLaws
pub mod ForcesLaws
pub mod ParentsLaws
