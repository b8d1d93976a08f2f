pub mod EntryKeys
pub mod Inherited
pub mod Chosen
