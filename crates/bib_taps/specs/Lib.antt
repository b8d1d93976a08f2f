pub mod Interruptions
pub mod Taps
