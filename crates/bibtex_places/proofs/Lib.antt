-- ---- keys and places
pub mod Keys
pub mod Numbers
pub mod PlaceLists
pub mod KeptPlaces
pub mod ReadSteps
pub mod Entries
-- ---- parents
pub mod Runs
pub mod ParentLists
pub mod Named
-- ---- the list
pub mod ListedEntries
pub mod ListedRecords
pub mod UnknownKeys
pub mod Reading
pub mod EachPlace
