pub mod Fitting
pub mod Ris
