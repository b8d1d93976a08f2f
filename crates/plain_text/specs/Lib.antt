pub mod Signs
pub mod Plain
