pub mod Dangling
pub mod TakenKeys
pub mod MadeBase
pub mod Parents
