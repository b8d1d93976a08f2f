pub mod Merging
pub mod Causes
pub mod Opening
pub mod Together
pub mod Ending
pub mod Telling
pub mod Citing
pub mod Program
