pub mod Changes
pub mod Renamed
