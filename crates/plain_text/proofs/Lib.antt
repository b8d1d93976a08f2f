pub mod PlainLemmas
pub mod PlainLaws
