pub mod Pieces
pub mod Purified
pub mod Order
pub mod Fields
pub mod Label
pub mod Rows
