pub mod Finishing
pub mod Openings
pub mod Writing
