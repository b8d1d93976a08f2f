pub mod Folders
pub mod Storing
