pub mod Insertion
pub mod Laws
pub mod Examples
