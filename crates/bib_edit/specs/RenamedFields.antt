-- The names of fields that get another name, by what is seen of the items.
use Rattle.std.specs.Prelude.{ℕ, ◌≡◌, ◌<◌, ◌≤◌, ◌+◌, ◌^◌, Bool, true, false, ◌&&◌, ◌||◌, nat_lt, List, [], ◌∷◌, ◌++◌, if◌then◌else◌, length, count_by}
use Rattle.std.specs.List.{AllByRecursion, list_any}
use Rattle.bib_spec.specs.Bytes.{file_limit}
use Rattle.bib_spec.specs.Text.{Text}
use Rattle.bib_spec.specs.Reading.{Item, item_bytes}
use Rattle.bib_scan.specs.View.{Field, View, view_of}
use Rattle.bib_scan.specs.declared.view.Kind.{Kind}
use Rattle.bib_scan.specs.declared.view.Kind.TheVariants as kind
use Rattle.bib_edit.specs.Addressing.{is_field}
use Rattle.bib_edit.specs.Limits.{olds_len, news_len}
use Rattle.bib_edit.specs.Replacing.{replaced}
use Rattle.bib_edit.specs.declared.fault.EditFault.{EditFault}
use Rattle.bib_edit.specs.declared.fault.EditFault.TheVariants.{NotFound, Ambiguous, FileTooLong, Memory}

-- ---- fields

-- the fields of an entry; no field of another item gets another name
abbrev pub entry_fields : Kind → List Field → List Field
entry_fields kind.Entry fields = fields
entry_fields kind.Macro fields = []
entry_fields kind.Preamble fields = []
entry_fields kind.Comment fields = []

-- the fields that the item has as an entry
abbrev pub own_fields : View → List Field
own_fields view = entry_fields view.kind view.fields

-- the field has one of the two names
abbrev pub has_either : Text → Text → Field → Bool
has_either from to field = is_field from field || is_field to field

-- a field has the name `from`, and two fields would have the name `to` if each `from` became `to`
abbrev pub fields_clash : Text → Text → List Field → Bool
fields_clash from to fields = list_any (is_field from) fields && nat_lt 1 (count_by (has_either from to) fields)

-- the same of the fields of an entry
abbrev pub item_clashes : Text → Text → Item → Bool
item_clashes from to item = fields_clash from to (own_fields (view_of item))

-- ---- names

-- each name has a place in 64 bits; the item begins at this place
abbrev pub AreNamesPlaced : ℕ → List Field → Type 0
AreNamesPlaced start fields = AllByRecursion (λ field. start + field.name_at < 2 ^ 64) fields

-- the names `from` of these fields, each with its place; their item begins at this place
abbrev pub names_at : ℕ → Text → List Field → List (ℕ × Text)
names_at start from [] = []
names_at start from (field ∷ fields) =
    if is_field from field then (start + field.name_at, field.name) ∷ names_at start from fields else names_at start from fields

-- the names `from` of fields of entries, each with its place; the first item begins at this place
abbrev pub names_in : ℕ → Text → List Item → List (ℕ × Text)
names_in at from [] = []
names_in at from (item ∷ items) = names_at at from (own_fields (view_of item)) ++ names_in (at + length (item_bytes item)) from items

-- ---- what is done with them

-- there are names, the edit is not ambiguous, and the file with the new names is not too long
pub record AreReplaceable (file new : Text) (names : List (ℕ × Text)) (is_ambiguous : Bool) : Type 0 where
  pub some : 0 < length names
  pub alone : is_ambiguous ≡ false
  pub short : length file + news_len (replaced new names) ≤ file_limit + olds_len (replaced new names)

-- the first reason against the new name, or want of memory
pub data IsRenamingFault (file new : Text) (names : List (ℕ × Text)) (is_ambiguous : Bool) : EditFault → Type 0 where
  none_found : length names ≡ 0 → IsRenamingFault file new names is_ambiguous NotFound
  two_meant : 0 < length names → is_ambiguous ≡ true → IsRenamingFault file new names is_ambiguous Ambiguous
  too_long : 0 < length names → is_ambiguous ≡ false → file_limit + olds_len (replaced new names) < length file + news_len (replaced new names) → IsRenamingFault file new names is_ambiguous FileTooLong
  no_memory : IsRenamingFault file new names is_ambiguous Memory
