pub mod EntryJson
pub mod RawJson
pub mod Laws
