-- What entries more or less keep of the lists that BibTeX 0.99d gives to a style for other keys.
use Rattle.std.specs.Prelude.{ℕ, ◌≡◌, false, List, [], ◌∷◌, ◌++◌, Some, slice_get}
use Rattle.std.specs.List.{list_any}
use Rattle.bib_spec.specs.Text.{Text, same}
use Rattle.bib_spec.specs.Reading.{Reading}
use Rattle.bib_spec.specs.Records.{Record, EntryTexts, entries_of, keys_of, crossref_text}
use Rattle.edit_spec.specs.Edits.{NewEntry, AddEntry, RemoveEntry, AddMany, given_keys, edited, IsAccepted}
use Rattle.edit_spec.specs.OtherLaws.{NoneAwaited}
use Rattle.bibtex_spec.specs.Places.{are_all_cited}
use Rattle.bibtex_spec.specs.Listed.{listed_as_bibtex, unknown_as_bibtex}

-- no crossref of the entries is the same as one of the keys, an empty one neither
abbrev pub NoneNamesAny : List Text → List EntryTexts → Type 0
NoneNamesAny keys entries = (n : ℕ) (entry : EntryTexts) (text : Text) → slice_get entries n ≡ Some entry → crossref_text entry ≡ Some text → list_any (same text) keys ≡ false

-- none of the cited keys is the same as one of the keys, and none is `*`
pub record CitesNone (keys cited : List Text) : Type 0 where
  pub no_star : are_all_cited cited ≡ false
  pub others : list_any (λ key. list_any (same key) keys) cited ≡ false

-- the cited keys list the same records, whatever the least number of children, and the same keys are unknown
pub record ListTheSame (old new : List EntryTexts) (cited : List Text) : Type 0 where
  pub listed : (least : ℕ) → listed_as_bibtex new cited least ≡ listed_as_bibtex old cited least
  pub unknown : unknown_as_bibtex new cited ≡ unknown_as_bibtex old cited

-- Entries that no crossref of the others names may be put in, or taken out, anywhere: lists of keys that cite none of them stay,
-- and so do the keys that are unknown. (They may name each other, and others.)
abbrev pub other_entries_keep_lists : Type 0
other_entries_keep_lists = (first added last : List EntryTexts) → NoneNamesAny (keys_of added) (first ++ last) →
    (cited : List Text) → CitesNone (keys_of added) cited → ListTheSame (first ++ last) (first ++ (added ++ last)) cited

-- Removing an entry keeps the lists of keys that do not cite it. Adding entries keeps those that cite none of the new keys, if
-- no dangling crossref is one of the new keys.
pub record EditsKeepOtherLists (key_base : Record → Text) (db : Reading) : Type 0 where
  pub removed : (key : Text) → IsAccepted key_base db (RemoveEntry key)
      → (cited : List Text) → CitesNone (key ∷ []) cited → ListTheSame (entries_of db) (entries_of (edited key_base db (RemoveEntry key))) cited
  pub added : (position : ℕ) (new : NewEntry) → IsAccepted key_base db (AddEntry position new) → NoneAwaited db (AddEntry position new)
      → (cited : List Text) → CitesNone (given_keys (AddEntry position new)) cited → ListTheSame (entries_of db) (entries_of (edited key_base db (AddEntry position new))) cited
  pub added_many : (news : List NewEntry) → IsAccepted key_base db (AddMany news) → NoneAwaited db (AddMany news)
      → (cited : List Text) → CitesNone (given_keys (AddMany news)) cited → ListTheSame (entries_of db) (entries_of (edited key_base db (AddMany news))) cited
