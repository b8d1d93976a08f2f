pub mod Versions
pub mod Agreeing
pub mod MixSeen
pub mod PartsSeen
pub mod Slices
pub mod Fields
pub mod Sources
pub mod Openings
