pub mod GoingOn
pub mod Told
pub mod FaultLaws
pub mod FaultRows
