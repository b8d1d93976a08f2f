pub mod FollowedFiles
pub mod SameFiles
pub mod Spaces
pub mod UnitItems
pub mod ItemsMet
pub mod UnchangedSides
pub mod TakenFiles
pub mod RefusedTexts
