pub mod PlacedParts
pub mod FirstItem
