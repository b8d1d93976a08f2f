pub mod Shifting
pub mod Composing
pub mod History
pub mod Steps
