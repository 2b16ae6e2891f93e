pub mod Events
pub mod EventsLaws
