pub mod SoughtFields
pub mod SameRecords
