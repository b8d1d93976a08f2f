-- ---- why a file is not read
pub mod Words
pub mod Refusals
pub mod FaultLines
-- ---- what the commands find in a file
pub mod ItemCounts
pub mod ItemFields
pub mod EntryNumbers
pub mod Shown
pub mod Recurrences
pub mod ReportSteps
pub mod PositionSteps
pub mod WalkSteps
pub mod FindingSteps
pub mod ItemFindings
pub mod ToldKeys
pub mod MissingKeys
pub mod PlainTexts
pub mod PlainBodies
pub mod PlainGaps
-- ---- cited lists, labels and names
pub mod AnyOf
pub mod CitedNumbers
pub mod LabelLines
pub mod NewKeyLines
pub mod NameLines
pub mod JsonLines
pub mod StandingEntries
pub mod LineLists
-- ---- entries as they are written
pub mod WrittenFields
pub mod StandingItems
pub mod RawLines
