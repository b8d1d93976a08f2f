pub mod Words
pub mod Positions
mod Renewed
mod MovedEnds
pub mod Edited
mod Turned
