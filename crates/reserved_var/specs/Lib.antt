pub mod ReservedVar
