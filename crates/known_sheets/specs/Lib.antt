pub mod Known
pub mod Table
pub mod EventComputing
pub mod CheckComputing
pub mod TableLaws
