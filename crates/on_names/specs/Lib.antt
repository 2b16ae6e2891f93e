pub mod OnNames
