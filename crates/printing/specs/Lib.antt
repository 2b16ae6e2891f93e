pub mod Printing
pub mod PrintingLaws
