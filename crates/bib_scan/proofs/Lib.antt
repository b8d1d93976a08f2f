-- ---- the readers, step by step
pub mod Words
pub mod BalanceLaws
pub mod MaskLemmas
pub mod MarkLemmas
pub mod BraceLemmas
pub mod FirstPlaces
pub mod ScanInvariant
pub mod ValueLemmas
pub mod RowsLemmas
pub mod CommandLemmas
pub mod OpeningLemmas
pub mod LayoutLemmas
pub mod PartsLemmas
pub mod TableLemmas
-- ---- sound: what is read is a tree of the grammar with these bytes
pub mod RunLaws
pub mod BraceLaws
pub mod PartLaws
pub mod ValueLaws
pub mod RowLaws
pub mod CleanLaws
pub mod TypeNames
pub mod CommandLaws
-- ---- complete: the bytes of a tree are read as that tree
pub mod AgainLaws
pub mod TreeAgainLaws
pub mod ReadingLaws
-- ---- unique: two trees with the same bytes are the same
pub mod UniqueLaws
pub mod OneReading
-- ---- local: a reader sees no byte after the first of those that it leaves
pub mod LocalLaws
pub mod LocalParts
pub mod LocalRows
-- ---- mends: where a reader stopped, there are bytes with which it would have continued
pub mod MendLaws
pub mod MendRows
pub mod MendTrees
-- ---- tells: what a reader does with another byte where it stopped
pub mod TellLaws
pub mod TellParts
pub mod TellRows
pub mod TellTrees
-- ---- widens: a reader with a higher limit on names does the same, unless a name was too long
pub mod LongerNames
pub mod WidenLaws
pub mod WidenTrees
-- ---- the place and the kind of a fault
pub mod PlaceLaws
pub mod KindLaws
pub mod StopLaws
pub mod FailsAtLaws
pub mod WholeValueLaws
pub mod PlaceOfFault
-- ---- views: fields, places, and values taken apart
pub mod FieldLaws
pub mod StepLaws
pub mod HeadLaws
pub mod LayoutLaws
pub mod NoteLemmas
pub mod NoteLaws
pub mod ReaderLaws
pub mod TakenApart
pub mod PartsFaults
pub mod OnlyPart
pub mod JoinedReadings
