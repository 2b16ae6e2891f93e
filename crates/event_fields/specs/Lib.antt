pub mod EventFields
pub mod EventFieldsLaws
