pub mod NewItems
pub mod PartsAlone
