-- ---- the words of the proofs
pub mod Words
-- ---- items, fields and values by their places
pub mod TabledDefinitions
pub mod FirstItems
pub mod FoundItems
pub mod SeenItems
pub mod SeenNames
pub mod NamesInUse
pub mod PlacedTexts
pub mod BracedTexts
pub mod Ranks
-- ---- pieces, in order and within the file
pub mod PieceLists
pub mod PiecePlaces
pub mod PieceLengths
pub mod JoinedTexts
-- ---- what an edit asks for, and its limits
pub mod AskedEdits
pub mod GivenNames
pub mod OpenFiles
pub mod Results
pub mod LimitTests
pub mod LongTexts
pub mod HeldKeys
-- ---- fields that are set and dropped
pub mod SoughtFields
pub mod SettingFields
pub mod SettingPieces
pub mod CuttingRows
pub mod DroppingFields
-- ---- types that are set
pub mod TypedEntries
-- ---- entries that come
pub mod NewFields
pub mod SpelledEntries
pub mod SpelledLists
pub mod ManyEntries
pub mod Added
-- ---- entries that go or move
pub mod EntryPieces
pub mod Parents
pub mod Referrers
pub mod Removed
pub mod MovedPieces
pub mod MovedTexts
pub mod Moved
-- ---- keys that change
pub mod LoneNumbers
pub mod NamedEntries
pub mod KeysInUse
pub mod KeyPieces
pub mod RekeyedTexts
pub mod RenamedKeys
-- ---- keys that are made
pub mod KeyBases
pub mod Regenerated
-- ---- macros that change
pub mod DefinedNames
pub mod TokenPieces
pub mod MacroTexts
pub mod InlinedTexts
pub mod MacroPieces
pub mod RenamedMacro
pub mod KeptTrails
pub mod InlinedMacro
pub mod UndefinedMacro
pub mod TriedPieces
pub mod UnusedValues
pub mod DefinitionsEnd
pub mod DefinedMacro
pub mod MacroSettings
pub mod NamedFields
pub mod RenamedPieces
pub mod RenamedFields
pub mod IntroducedMacro
-- ---- a text that is put in
pub mod AnyWalks
pub mod NextKeys
pub mod LineEnds
pub mod InsertedTexts
pub mod Inserted
-- ---- positions
pub mod EntryPlaces
pub mod MeantPlaces
pub mod EntryNeighbours
-- ---- one of several
pub mod ChosenEdits
pub mod ChosenPlans
pub mod NthWalks
pub mod MeantItems
pub mod MeantTexts
pub mod MeantParents
pub mod RemovedOne
pub mod MeantFields
pub mod LaterRows
pub mod SetOne
pub mod DroppedOne
-- ---- one of several: keys and places
pub mod PlannedPieces
pub mod FirstNumbers
pub mod NthHolders
pub mod LaterKeys
pub mod RekeyedOne
pub mod MovedOne
pub mod MeantDefinitions
pub mod UnusedDefinitions
pub mod UndefinedOne
pub mod SetOneMacro
pub mod TypedOne
pub mod RenamedOne
