pub mod FoldedMap
pub mod Held
