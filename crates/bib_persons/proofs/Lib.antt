pub mod Counts
pub mod FewCommas
