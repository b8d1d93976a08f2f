pub mod Faults
pub mod Marks
pub mod Awaited
pub mod Written
