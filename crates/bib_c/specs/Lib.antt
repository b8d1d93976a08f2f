pub mod Asking
pub mod Calls
pub mod Held
pub mod Reports
pub mod Texts
pub mod Words
