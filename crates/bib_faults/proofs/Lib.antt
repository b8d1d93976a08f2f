pub mod GoingOnLaws
pub mod EachHasFaults
pub mod ReadingSteps
pub mod FaultRows
