pub mod Verbs
pub mod Command
