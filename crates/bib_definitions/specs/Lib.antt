pub mod Held
pub mod ByName
pub mod Definitions
pub mod MacrosSeen
