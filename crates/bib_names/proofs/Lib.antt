-- ---- tests, places and braces
pub mod Words
pub mod LoopSteps
pub mod PlaceLemmas
pub mod BraceLemmas
pub mod BalanceLaws
-- ---- text characters
pub mod SpecialLemmas
pub mod CharLemmas
pub mod CaseLemmas
-- ---- names
pub mod NameListLemmas
pub mod WordLemmas
pub mod CommaLemmas
-- ---- templates
pub mod OutputLemmas
pub mod PrintLemmas
pub mod TemplateLaws
-- ---- labels and made keys
pub mod LabelLaws
pub mod LabelNameLaws
pub mod LabelFields
pub mod LabelPartLaws
pub mod MadeKeyLaws
