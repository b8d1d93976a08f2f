pub mod Places
pub mod Listed
pub mod Rows
pub mod Plain
pub mod PlainRows
pub mod ListLaws
