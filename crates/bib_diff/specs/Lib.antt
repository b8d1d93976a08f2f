pub mod Texts
pub mod Agreeing
pub mod Faults
pub mod Leading
