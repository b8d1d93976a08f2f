-- What an edit addresses: items, fields, and where their bytes lie.
use Rattle.std.specs.Prelude.{ℕ, ◌≡◌, ◌<◌, nat_lt, Bool, List, [], ◌∷◌, Option, Some, None, option_map, count_by, find}
use Rattle.std.specs.List.{last_or}
use Rattle.bib_spec.specs.Text.{Text, same}
use Rattle.bib_spec.specs.Reading.{Reading}
use Rattle.bib_spec.specs.Records.{entries_of, entry_named}
use Rattle.edit_spec.specs.Edits.{is_entry, holders}
use Rattle.bib_scan.specs.View.{Field, field_seen}
use Rattle.bib_store.specs.Readings.{OfReading}
use Rattle.bib_tokens.specs.FirstItem.{first_item}
use Rattle.bib_tokens.specs.PlacedParts.{field_end}
use Rattle.bib_edit.specs.declared.address.SoughtFields.{SoughtFields}
use Rattle.bib_edit.specs.declared.fault.EditFault.{EditFault}
use Rattle.bib_edit.specs.declared.fault.EditFault.TheVariants.{NotFound, Ambiguous}

-- the number of the item that the key names
abbrev pub item_named : Text → Reading → Option ℕ
item_named key db = first_item (is_entry key) db.items

-- one entry has the key, and it is this item
pub record IsHeldAt (key : Text) (db : Reading) (n : ℕ) : Type 0 where
  pub item : item_named key db ≡ Some n
  pub once : holders key db ≡ 1

-- one entry has the key, and this is its number among the entries
pub record IsLoneNumber (key : Text) (db : Reading) (n : ℕ) : Type 0 where
  pub named : entry_named (entries_of db) key ≡ Some n
  pub once : holders key db ≡ 1

-- no entry has the key, or several do
pub data IsHolderFault (file key : Text) : EditFault → Type 0 where
  none_holds : OfReading file (λ db. holders key db ≡ 0) → IsHolderFault file key NotFound
  many_hold : OfReading file (λ db. 1 < holders key db) → IsHolderFault file key Ambiguous

-- the field has this name
abbrev pub is_field : Text → Field → Bool
is_field name field = same field.name name

-- the first of the fields that have this name, whether there is another, and the last field of all
pub record AreSought (name : Text) (fields : List Field) (sought : SoughtFields) : Type 0 where
  pub first : option_map field_seen sought.first ≡ find (is_field name) fields
  pub repeated : sought.is_repeated ≡ nat_lt 1 (count_by (is_field name) fields)
  pub last : option_map field_seen sought.last ≡ last_or None fields

-- the place after the last value, or, where there is none, this one
abbrev pub fields_end : ℕ → List Field → ℕ
fields_end end [] = end
fields_end end (field ∷ fields) = fields_end (field_end field) fields
