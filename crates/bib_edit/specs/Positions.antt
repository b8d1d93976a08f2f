-- The places that positions say, and edits at a position.
use Rattle.std.specs.Prelude.{ℕ, ◌≡◌, ◌<◌, ◌+◌, ◌-◌, ◌⊎◌, nat_lt, if◌then◌else◌, is_some, unwrap_or, List, length}
use Rattle.bib_spec.specs.Text.{Text}
use Rattle.bib_spec.specs.Reading.{Item, Reading}
use Rattle.bib_spec.specs.Pieces.{Piece}
use Rattle.edit_spec.specs.Edits.{is_entry, holders, item_meant}
use Rattle.edit_spec.specs.OtherLaws.{number_of_first}
use Rattle.bib_store.specs.Readings.{OfReading}
use Rattle.bib_data.specs.declared.position.Position.{Position}
use Rattle.bib_data.specs.declared.position.Position.TheVariants.{Number, End, Before, After}
use Rattle.bib_data.specs.declared.edit.Edit.{Edit}
use Rattle.bib_data.specs.declared.edit.Edit.TheVariants.{AddEntry, MoveEntry}
use Rattle.bib_edit.specs.declared.fault.EditFault.{EditFault}
use Rattle.bib_edit.specs.declared.fault.EditFault.TheVariants.{NotFound, Ambiguous}
use Rattle.bib_edit.specs.Numbers.{is_numbered, which_of}
use Rattle.bib_edit.specs.Planning.{IsAllowedEdit, ArePiecesOf, IsRefusal}

-- ---- places

-- how many items are before the first entry that the key names: all, if it names none
abbrev pub items_before : Text → List Item → ℕ
items_before key items = number_of_first (is_entry key) items

-- how many items are before the entry that is meant: all, if there is none; a number tells which it is of several that have the key
abbrev pub items_before_meant : Text → List Item → ℕ
items_before_meant key items = if is_numbered key then unwrap_or (item_meant (which_of key) items) (length items) else items_before key items

-- how many entries are meant: those that have the key, or one at most if a number tells which
abbrev pub count_meant : Text → Reading → ℕ
count_meant key db = if is_numbered key then (if is_some (item_meant (which_of key) db.items) then 1 else 0) else holders key db

-- the place that the position says: how many items are before it
abbrev pub place_of : Position → Reading → ℕ
place_of (Number n) db = n
place_of End db = length db.items
place_of (Before key) db = items_before_meant key db.items
place_of (After key) db = items_before_meant key db.items + 1

-- if the position has a key, exactly one entry is meant
abbrev pub NamesOneEntry : Position → Reading → Type 0
NamesOneEntry (Before key) db = count_meant key db ≡ 1
NamesOneEntry (After key) db = count_meant key db ≡ 1
NamesOneEntry other db = Unit {0}

-- no entry is meant, or several are
pub data IsCountFault (file key : Text) : EditFault → Type 0 where
  none_meant : OfReading file (λ db. count_meant key db ≡ 0) → IsCountFault file key NotFound
  many_meant : OfReading file (λ db. 1 < count_meant key db) → IsCountFault file key Ambiguous

-- by the key of the position no entry is meant, or several are
abbrev pub IsPositionRefusal : Text → Position → EditFault → Type 0
IsPositionRefusal file (Before key) fault = IsCountFault file key fault
IsPositionRefusal file (After key) fault = IsCountFault file key fault
IsPositionRefusal file other fault = ⊥

-- the place is that of the position
abbrev pub IsPositionPlace : Text → Position → ℕ → Type 0
IsPositionPlace file position place = OfReading file (λ db. NamesOneEntry position db × (place ≡ place_of position db))

-- ---- the place of an edit

-- how many of the first n items are others than the entry that moves
abbrev pub others_before : Text → List Item → ℕ → ℕ
others_before key items n = if nat_lt (items_before_meant key items) n then n - 1 else n

-- The place that the position says for an edit. An entry that moves isn't counted, except in a number that is given.
abbrev pub place_for : Position → Edit → Reading → ℕ
place_for (Number n) edit db = n
place_for position (MoveEntry key place) db = others_before key db.items (place_of position db)
place_for position other db = place_of position db

-- the edit at this place in place of its own, if it has one
abbrev pub edit_at : ℕ → Edit → Edit
edit_at place (AddEntry own entry) = AddEntry place entry
edit_at place (MoveEntry key own) = MoveEntry key place
edit_at place other = other

-- the place is the one that the position says for the edit
abbrev pub IsPlaceOf : Text → Position → Edit → ℕ → Type 0
IsPlaceOf file position edit place = OfReading file (λ db. NamesOneEntry position db × (place ≡ place_for position edit db))

-- ---- answers

-- the pieces are those of the edit at the position
abbrev pub ArePiecesAt : Text → Position → Edit → List Piece → Type 0
ArePiecesAt file position edit pieces = (place : ℕ) × IsPlaceOf file position edit place × ArePiecesOf file (edit_at place edit) pieces

-- no reason refuses the edit at the position
abbrev pub IsAllowedAt : Text → Position → Edit → Type 0
IsAllowedAt file position edit = (place : ℕ) × IsPlaceOf file position edit place × IsAllowedEdit file (edit_at place edit)

-- The fault is that of the position. If the position has none, it is the first reason that refuses the edit there, or want of
-- memory.
abbrev pub IsRefusalAt : Text → Position → Edit → EditFault → Type 0
IsRefusalAt file position edit fault =
    IsPositionRefusal file position fault
    ⊎ ((place : ℕ) × IsPlaceOf file position edit place × IsRefusal file (edit_at place edit) fault)
