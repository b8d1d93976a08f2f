pub mod KeyTables
pub mod Seen
pub mod Steps
pub mod Lists
pub mod Parents
pub mod Sources
