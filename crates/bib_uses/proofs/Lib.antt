pub mod DefinedNumbers
pub mod UsesRead
pub mod FirstValues
pub mod FoundEntries
pub mod TimesTold
