-- ---- texts and lists
pub mod Words
pub mod Neat
pub mod Trims
pub mod Values
pub mod Levels
pub mod SliceLemmas
pub mod LoopSteps
pub mod ListLaws
pub mod OrderLaws
-- ---- dates, keywords and pages
pub mod DateLaws
pub mod KeywordLaws
pub mod PageLaws
-- ---- names
pub mod PartLaws
pub mod NameScans
pub mod PieceSteps
pub mod TakenApart
pub mod NamesWithWords
pub mod WrittenNames
pub mod OpaqueValues
pub mod PeopleLaws
-- ---- lines and records
pub mod LineLaws
pub mod EscapeLaws
pub mod LeftOut
pub mod NeverDropped
pub mod SectionLaws
pub mod MappingLaw
pub mod FitLaws
pub mod GivenLaws
pub mod RisFields
