-- ---- lists, counts and look-ups
pub mod Words
pub mod Walks
pub mod EntryCounts
pub mod LookUps
-- ---- keys that are taken
pub mod DanglingTexts
pub mod CandidateLengths
pub mod FirstFree
pub mod TakenLists
-- ---- keys that are made
pub mod KnownParents
pub mod RecordBases
pub mod MadeKeyLists
