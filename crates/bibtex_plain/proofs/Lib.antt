pub mod NameRuns
pub mod SignSteps
pub mod LastLines
pub mod EarlierKeys
pub mod ItemHeads
pub mod ItemSteps
pub mod ItemPlaces
pub mod WalkSteps
