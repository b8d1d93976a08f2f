pub mod BareKeys
pub mod SpacedRecords
pub mod RisTexts
pub mod RisAnswers
