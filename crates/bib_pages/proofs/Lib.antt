pub mod Paging
pub mod Ways
