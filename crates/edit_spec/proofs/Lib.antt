-- ---- entries whose keys change
pub mod Words
pub mod Fields
pub mod Rekeyed
pub mod CitedLists
pub mod RenameKey
pub mod Regenerate
-- ---- macros that change
pub mod Simulation
pub mod InUse
pub mod Seen
pub mod Balanced
pub mod RenameMacro
pub mod InlineMacro
pub mod IntroduceMacro
pub mod MacroLaws
-- ---- entries that come and go
pub mod OneMore
pub mod OtherEntries
pub mod AddedAfter
-- ---- items that an edit leaves
pub mod KeptTrees
pub mod MeantMembers
pub mod UntouchedItems
-- ---- the files of an edit, in chunks
pub mod TreeChunks
pub mod EditFiles
-- ---- what an edit makes is a file, edit by edit
pub mod Unrefuted
pub mod WrittenRows
pub mod EditedItems
pub mod SetField
pub mod DropField
pub mod KeptEntries
pub mod FirstEntries
pub mod SetType
pub mod UndefineMacro
pub mod AgreeingMacros
pub mod DefineMacro
pub mod SetMacro
pub mod RenameField
pub mod RenamedRecords
pub mod AddedEntries
pub mod MovedEntries
pub mod RekeyedEntries
pub mod ChangedParts
pub mod MadeKeyLengths
pub mod OneOfSeveral
pub mod EditedReads
-- ---- one of several
pub mod MeantEntries
pub mod OneEntry
pub mod OneDefinition
-- ---- examples
pub mod ExampleFacts
pub mod AcceptedExamples
