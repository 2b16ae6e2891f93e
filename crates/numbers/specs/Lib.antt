pub mod Numbers
pub mod ReadLaws
pub mod DecimalLaws
pub mod NumberTrips
