pub mod Export
pub mod Faults
pub mod Import
pub mod Drafts
pub mod Dropped
pub mod Judging
pub mod Plain
