-- The definition of a macro that an edit names.
use Rattle.std.specs.Prelude.{ℕ, ◌≡◌, ◌+◌, ◌<◌, Bool, not, ◌&&◌, ◌||◌, List, Some, is_some, slice_get, length, take, drop, codes, ◌++◌, ◌∷◌, []}
use Rattle.std.specs.List.{list_any}
use Rattle.bib_spec.specs.Bytes.{open_brace, close_brace}
use Rattle.bib_spec.specs.Text.{Text, folded, same}
use Rattle.bib_spec.specs.Tree.{Definition, DefinitionTree, opening_bytes, value_bytes}
use Rattle.bib_spec.specs.Reading.{Item, Reading}
use Rattle.bib_spec.specs.Texts.{months, bytes_before_value}
use Rattle.bib_store.specs.Readings.{OfReading}
use Rattle.part_spec.specs.Parts.{uses, have_part}
use Rattle.edit_spec.specs.Edits.{defines, definitions}
use Rattle.bib_tokens.specs.FirstItem.{first_item}
use Rattle.bib_edit.specs.declared.fault.EditFault.{EditFault}
use Rattle.bib_edit.specs.declared.fault.EditFault.TheVariants.{NotFound, Ambiguous}

-- the macro has one definition, and it is this item
pub record IsDefinedAt (name : Text) (db : Reading) (n : ℕ) : Type 0 where
  pub item : first_item (defines name) db.items ≡ Some n
  pub once : definitions name db ≡ 1

-- the macro has no definition, or several
pub data IsDefinitionFault (file name : Text) : EditFault → Type 0 where
  none_defines : OfReading file (λ db. definitions name db ≡ 0) → IsDefinitionFault file name NotFound
  many_define : OfReading file (λ db. 1 < definitions name db) → IsDefinitionFault file name Ambiguous

-- item n is this definition
abbrev pub IsDefinitionAt : List Item → ℕ → Definition → Type 0
IsDefinitionAt items n d = (trail : Text) × (slice_get items n ≡ Some (record { tree = DefinitionTree d; trail = trail }))

-- item n is a definition
abbrev pub IsDefinitionNumber : Text → ℕ → Type 0
IsDefinitionNumber file n = OfReading file (λ db. (d : Definition) × IsDefinitionAt db.items n d)

-- the name of a definition, with its place, where the definition begins at this one
abbrev pub name_token : ℕ → Definition → ℕ × Text
name_token at d = (at + length (opening_bytes d.opening), d.assignment.name)

-- the value of a definition, with its place, where the definition begins at this one
abbrev pub value_token : ℕ → Definition → ℕ × Text
value_token at d = (at + length (opening_bytes d.opening ++ bytes_before_value d.assignment), value_bytes d.assignment.value)

-- the text in braces
abbrev pub braced : Text → Text
braced text = open_brace ∷ text ++ close_brace ∷ []

-- a definition as it is written, with the line's end after it
abbrev pub definition_text : Text → Text → Text
definition_text name text = codes "@string{" ++ name ++ codes " = " ++ braced text ++ codes "}\n"

-- ---- whether a name is in use

-- the name is a month's, or defined anywhere
abbrev pub is_given : Text → List Item → Bool
is_given name items = is_some (months (folded name)) || list_any (λ item. defines name item.tree) items

-- an item uses the name
abbrev pub is_used : Text → List Item → Bool
is_used name items = have_part (uses name) items

-- the new name is a month's, or defined anywhere, or used before item n; a change of case alone is no new name
abbrev pub is_taken_before : ℕ → Text → Text → List Item → Bool
is_taken_before n from to items = not (same to from) && (is_given to items || is_used to (take n items))

-- the new name is used in item n or after it
abbrev pub is_taken_from : ℕ → Text → Text → List Item → Bool
is_taken_from n from to items = not (same to from) && is_used to (drop n items)
