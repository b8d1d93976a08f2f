-- ---- records and cited lists
pub mod Words
pub mod Citations
pub mod Filters
pub mod GatheredFields
pub mod ChosenFields
pub mod Inherited
-- ---- pieces in two parts
pub mod RunPieces
-- ---- windows: the items that a change touches, and the file around them
pub mod WalkedFiles
pub mod WindowLaws
pub mod WindowChanges
pub mod Exchanges
pub mod SplicedFiles
-- ---- rows and values: what they say, and how long that is
pub mod ReadableFields
pub mod RowTexts
pub mod SaidTexts
pub mod ShortValues
pub mod FirstCrossrefs
pub mod SettledCrossrefs
pub mod ShortEntries
pub mod ShortTexts
pub mod CrossrefTexts
pub mod PreambleTexts
-- ---- items of a kind, by their numbers
pub mod RepeatedKeys
pub mod OneItemMore
pub mod BoundedItems
pub mod Insertions
pub mod Numbered
pub mod EntryItems
pub mod KeptItems
pub mod PassedItems
-- ---- tables that are made, and tables that follow items
pub mod Settled
pub mod FirmTables
pub mod TableSteps
pub mod OpenedFiles
pub mod Followed
pub mod FollowedFiles
pub mod Appended
pub mod Placed
pub mod PlacedItems
pub mod PlacedFiles
pub mod BehindFirst
-- ---- tables that follow runs of pieces
pub mod KeptRuns
pub mod InsertedRuns
pub mod LedRuns
mod FrontRuns
