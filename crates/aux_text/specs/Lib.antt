pub mod Citations
pub mod Placing
