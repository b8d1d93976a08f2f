pub mod UnitTexts
pub mod NothingLost
pub mod ConflictsTold
