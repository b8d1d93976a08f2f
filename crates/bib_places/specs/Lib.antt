pub mod PlacesSeen
pub mod OwnedLabels
pub mod ConflictsSeen
pub mod LabelCodes
pub mod Tallies
pub mod NumbersLeft
pub mod Queues
