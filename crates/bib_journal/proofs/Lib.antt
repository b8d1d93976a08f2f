-- ---- steps that go back and forth
pub mod Words
pub mod Turning
pub mod TurnableSteps
pub mod Moves
pub mod OneMoreRequest
mod TextLens
mod GrowLemmas
-- ---- journals that are loaded
pub mod ReplayLemmas
pub mod LoadLemmas
-- ---- laws of a session
pub mod SeveralRuns
pub mod TakenBack
pub mod MadeFiles
pub mod KeptRecords
pub mod OtherEntries
pub mod UntouchedItems
pub mod SavedLoads
pub mod EndedSessions
pub mod OpenFaults
pub mod OneResult
