pub mod Words
pub mod Ordering
pub mod KeptOrder
pub mod Following
pub mod Counting
pub mod Ascending
pub mod Counted
pub mod Keeping
