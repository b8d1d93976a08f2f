pub mod PartedLemmas
pub mod SaidLemmas
pub mod Depths
pub mod LabelLemmas
