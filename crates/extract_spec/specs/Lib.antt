pub mod Extract
pub mod Needs
pub mod Laws
pub mod Examples
