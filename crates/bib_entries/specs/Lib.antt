pub mod Crossref
pub mod EntryTable
