pub mod FieldTextLemmas
pub mod MonthLemmas
pub mod NeatTexts
pub mod RawLemmas
