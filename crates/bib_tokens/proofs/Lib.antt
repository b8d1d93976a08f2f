pub mod Words
pub mod Elements
pub mod FirstFound
pub mod PlacedValues
pub mod PlacedFields
pub mod PlacedItems
pub mod MetParts
pub mod PassedItems
