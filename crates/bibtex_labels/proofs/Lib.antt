pub mod AllLemmas
mod PieceLemmas
mod CommandLemmas
mod OrderLemmas
mod LetterLemmas
mod NameLemmas
pub mod LabelFields
pub mod RunLemmas
