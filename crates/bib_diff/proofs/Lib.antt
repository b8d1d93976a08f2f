pub mod GatheredTexts
pub mod EntryPairs
pub mod LedAlready
