-- Lists as the code gives them.
use Rattle.std.specs.Prelude.{codes, ℕ, ◌≡◌, Bool, not, ◌&&◌, nat_lt, List, [], ◌∷◌, Option, None, length, if◌then◌else◌, filter, filter_map, map, option_map, slice_get}
use Rattle.std.specs.List.{list_any, enumerate_from, AllZip}
use Rattle.std.specs.Option.{option_copied}
use Rattle.bib_spec.specs.Text.{Text, folded}
use Rattle.bib_spec.specs.Records.{EntryTexts, keys_of, crossref_text, own_fields, with_inherited}
use Rattle.bibtex_spec.specs.Places.{Place, is_star, are_all_cited, places_of}
use Rattle.bibtex_spec.specs.Listed.{is_missing, parent_place, up, is_enough, is_shown, shown_crossref, givers, ListedRecord}
use Rattle.bibtex_places.specs.declared.lists.EntryKey.{EntryKey}
use Rattle.bibtex_places.specs.declared.lists.BibtexEntry.{BibtexEntry}

-- ---- entries

-- the key and the crossref text are those of the entry
pub record IsKeyOf (given : EntryKey) (entry : EntryTexts) : Type 0 where
  pub key : entry.key ≡ given.key.now
  pub crossref : crossref_text entry ≡ option_copied given.crossref

-- the keys and the crossref texts are those of the entries
abbrev pub AreKeysOf : List EntryKey → List EntryTexts → Type 0
AreKeysOf given entries = AllZip IsKeyOf given entries

-- ---- the list

-- the listed entry of place i, which entry n holds
abbrev pub listed_entry : List EntryTexts → List Text → ℕ → List Place → ℕ → Place → ℕ → BibtexEntry
listed_entry entries keys least places i place n = record {
  entry = n;
  key = place.spelled;
  named = shown_crossref entries keys least places i;
  up = givers entries keys places i;
}

-- the listed entry of a place with its number, if the place is held and listed
abbrev pub entry_at : List EntryTexts → List Text → ℕ → List Place → ℕ × Place → Option BibtexEntry
entry_at entries keys least places p =
    if is_enough (are_all_cited keys) least p.1
    then option_map (listed_entry entries keys least places p.0 p.1) p.1.entry
    else None

-- the listed entries for these keys, if a parent that is not cited needs `least` children
abbrev pub listed_entries : List EntryTexts → List Text → ℕ → List BibtexEntry
listed_entries entries keys least =
    let places : List Place = places_of entries keys in
    filter_map (entry_at entries keys least places) (enumerate_from 0 places)

-- the record of a listed entry
abbrev pub record_of_listed : List EntryTexts → BibtexEntry → Option ListedRecord
record_of_listed entries listed = option_map (λ entry. record {
  kind_name = folded entry.kind;
  key = listed.key;
  fields = with_inherited entries (own_fields entry) listed.up;
  crossref = listed.named;
}) (slice_get entries listed.entry)

-- ---- runs that are too long

-- the greatest number of places from which a listed place may inherit (dialect)
abbrev pub up_limit : ℕ
up_limit = 64

-- place i inherits from more places than that
abbrev pub is_deep : (ℕ → Option ℕ) → ℕ → Bool
is_deep parents i = nat_lt up_limit (length (up parents i))

-- the place is held and listed, and inherits from too many places
abbrev pub is_deep_at : List EntryTexts → List Text → ℕ → List Place → ℕ × Place → Bool
is_deep_at entries keys least places p = is_shown (are_all_cited keys) least p.1 && is_deep (parent_place entries keys places) p.0

-- a listed place inherits from too many places
abbrev pub is_too_deep : List EntryTexts → List Text → ℕ → Bool
is_too_deep entries keys least =
    let places : List Place = places_of entries keys in
    list_any (is_deep_at entries keys least places) (enumerate_from 0 places)

-- ---- `*` alone

-- the list of keys that is `*` alone
abbrev pub star_alone : List Text
star_alone = codes "*" ∷ []

-- the places are those for the keys, and each entry has one: their keys are those of the entries
pub record ArePlacesOfEach (entries : List EntryTexts) (keys : List Text) (places : List Place) : Type 0 where
  pub are : places ≡ places_of entries keys
  pub spelled : map (λ place. place.spelled) places ≡ keys_of entries

-- ---- unknown keys

-- the key is not `*`, and no entry has it
abbrev pub is_unknown : List EntryTexts → Text → Bool
is_unknown entries key = not (is_star key) && is_missing entries key

-- the places, in the list, of the keys that no entry has; `*` is none of them
abbrev pub unknown_places : List EntryTexts → List Text → List ℕ
unknown_places entries keys = map (λ p. p.0) (filter (λ p. is_unknown entries p.1) (enumerate_from 0 keys))
