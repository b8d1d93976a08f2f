-- ---- readers, writers and the end of a run
pub mod Words
pub mod UpToJournal
pub mod FileDigests
pub mod WholeFile
pub mod ReadRuns
pub mod Progress
pub mod Endings
-- ---- sessions
pub mod SessionAnswers
pub mod OpenLemmas
pub mod LogLemmas
pub mod StoredRuns
pub mod OneAnswer
pub mod AnyRun
pub mod SkippedLines
