pub mod Bodies
pub mod Merges
