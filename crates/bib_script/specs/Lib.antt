pub mod Parting
pub mod Script
pub mod Words
