pub mod Comments
pub mod Labels
pub mod UnitsSeen
