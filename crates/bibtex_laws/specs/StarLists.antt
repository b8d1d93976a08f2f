-- What entries more or less change in the list that BibTeX 0.99d gives to a style where `*` alone is cited.
use Rattle.std.specs.Prelude.{ℕ, ◌≡◌, ◌++◌, true, false, List, [], ◌∷◌, Some, length, map, codes, slice_get}
use Rattle.std.specs.List.{list_any}
use Rattle.bib_spec.specs.Text.{Text, folded, same}
use Rattle.bib_spec.specs.Reading.{Reading}
use Rattle.bib_spec.specs.Records.{Record, EntryTexts, entries_of, keys_of, entry_named, crossref_text, is_named}
use Rattle.edit_spec.specs.Edits.{NewEntry, AddEntry, RemoveEntry, AddMany, given_keys, has_same, edited, IsAccepted}
use Rattle.edit_spec.specs.OtherLaws.{entries_before, NoneAwaited}
use Rattle.bibtex_spec.specs.Listed.{ListedRecord, listed_as_bibtex}

-- the list where `*` alone is cited, whatever the least number of children
abbrev pub star_list : List EntryTexts → ℕ → List ListedRecord
star_list entries least = listed_as_bibtex entries (codes "*" ∷ []) least

-- the type and the key of a record
abbrev pub heading : ListedRecord → Text × Text
heading r = (r.kind_name, r.key)

-- the type and the key that an entry has in its record
abbrev pub entry_heading : EntryTexts → Text × Text
entry_heading entry = (folded entry.kind, entry.key)

-- No two of the added entries have the same key, folded; no other entry has one of their keys, and no crossref of another entry
-- is one of their keys. The empty key counts.
pub record AreStrangers (added others : List EntryTexts) : Type 0 where
  pub differ : has_same (keys_of added) ≡ false
  pub keys : (n : ℕ) (entry : EntryTexts) → slice_get others n ≡ Some entry → list_any (same entry.key) (keys_of added) ≡ false
  pub crossrefs : (n : ℕ) (entry : EntryTexts) (text : Text) → slice_get others n ≡ Some entry → crossref_text entry ≡ Some text
      → list_any (same text) (keys_of added) ≡ false

-- The longer list is the shorter one with the records of the added entries put in, one for each, in order. The records before
-- them have the types and keys that `first` alone lists. All other records are the same in both lists, byte for byte.
pub record GainsRecords (first added : List EntryTexts) (least : ℕ) (shorter longer : List ListedRecord) : Type 0 where
  pub before : List ListedRecord
  pub gained : List ListedRecord
  pub after : List ListedRecord
  pub shorter_is : shorter ≡ before ++ after
  pub longer_is : longer ≡ before ++ (gained ++ after)
  pub before_are : map heading before ≡ map heading (star_list first least)
  pub gained_are : map heading gained ≡ map entry_heading added

-- Entries that nothing names, with new keys, may be put in, or taken out, anywhere: the list for `*` alone gains, or loses,
-- their records and stays otherwise.
abbrev pub star_gains_strangers : Type 0
star_gains_strangers = (first added last : List EntryTexts) → AreStrangers added (first ++ last) → (least : ℕ) →
    GainsRecords first added least (star_list (first ++ last) least) (star_list (first ++ (added ++ last)) least)

-- `more` has the entries of `fewer` and others with these keys, the first of which has the number `at`; the list for `*` alone
-- gains their records, and stays otherwise.
pub record GainsEntries (at : ℕ) (keys : List Text) (fewer more : Reading) : Type 0 where
  pub first : List EntryTexts
  pub added : List EntryTexts
  pub last : List EntryTexts
  pub place : length first ≡ at
  pub fewer_are : entries_of fewer ≡ first ++ last
  pub more_are : entries_of more ≡ first ++ (added ++ last)
  pub keys_are : keys_of added ≡ keys
  pub lists : (least : ℕ) → GainsRecords first added least (star_list (entries_of fewer) least) (star_list (entries_of more) least)

-- Removing an entry takes its record alone out of the list for `*`. Adding entries puts theirs alone into it, if no dangling
-- crossref is one of the new keys.
pub record EditsGainOrLose (key_base : Record → Text) (db : Reading) : Type 0 where
  pub removed : (key : Text) → IsAccepted key_base db (RemoveEntry key)
      → (i : ℕ) × (entry_named (entries_of db) key ≡ Some i)
      × (found : Text) × (is_named key found ≡ true) × GainsEntries i (found ∷ []) (edited key_base db (RemoveEntry key)) db
  pub added : (position : ℕ) (new : NewEntry) → IsAccepted key_base db (AddEntry position new) → NoneAwaited db (AddEntry position new)
      → GainsEntries (entries_before position db) (given_keys (AddEntry position new)) db (edited key_base db (AddEntry position new))
  pub added_many : (news : List NewEntry) → IsAccepted key_base db (AddMany news) → NoneAwaited db (AddMany news)
      → GainsEntries (length (entries_of db)) (given_keys (AddMany news)) db (edited key_base db (AddMany news))
