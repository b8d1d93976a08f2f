pub mod Shown
pub mod Views
pub mod Heard
