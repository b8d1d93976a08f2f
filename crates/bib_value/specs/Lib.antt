pub mod Faults
pub mod Macros
pub mod Months
pub mod Raw
pub mod Spacing
