pub mod Joins
pub mod Locates
pub mod Opens
pub mod Files
pub mod Searches
pub mod Counts
pub mod Parted
pub mod PartedFiles
