pub mod Orders
pub mod Counted
pub mod Ids
pub mod Holders
