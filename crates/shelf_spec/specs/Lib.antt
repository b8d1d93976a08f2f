pub mod Shelf
pub mod Numbers
pub mod Laws
pub mod Examples
