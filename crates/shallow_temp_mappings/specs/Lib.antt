pub mod Mappings
pub mod MappingsLaws
