pub mod Uses
pub mod Lost
pub mod Seen
