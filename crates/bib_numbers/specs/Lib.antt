pub mod Labels
pub mod Moves
pub mod Numbers
