pub mod SearchFields
