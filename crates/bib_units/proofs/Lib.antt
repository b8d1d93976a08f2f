pub mod CommentsGathered
pub mod UnitsAdded
pub mod UnitsOfFile
