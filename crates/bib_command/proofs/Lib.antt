pub mod LineSteps
pub mod Subcommands
pub mod Sources
pub mod Errors
pub mod Numbers
pub mod Switches
