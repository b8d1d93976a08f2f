pub mod RenamingLists
pub mod OtherEntries
pub mod StarLists
pub mod DialectRecords
pub mod KeyLists
