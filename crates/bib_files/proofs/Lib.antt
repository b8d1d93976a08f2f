pub mod Apart
pub mod Stored
