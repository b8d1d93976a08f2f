pub mod ListedRecords
pub mod ListAnswers
pub mod NameAnswers
pub mod UnknownKeys
pub mod JsonLines
pub mod LabelLines
pub mod Refusals
