-- ---- lines
pub mod Words
pub mod LineLemmas
pub mod LineEnds
pub mod TagLemmas
pub mod JoinLemmas
pub mod ToldLemmas
pub mod FitLemmas
-- ---- what lines say
pub mod MeaningLemmas
pub mod MeaningLaws
pub mod RestLaws
pub mod SkipLemmas
-- ---- texts that are written
pub mod WriteLemmas
pub mod TextLaws
