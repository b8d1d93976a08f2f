-- The edits of the definitions, as they are asked for: with bytes.
use Rattle.std.specs.Prelude.{ℕ, List, [], ◌∷◌, ◌≡◌, ◌||◌, if◌then◌else◌, Option, Some, None}
use Rattle.bib_spec.specs.Text.{Text}
use Rattle.bib_spec.specs.Tree.{Value}
use Rattle.bib_spec.specs.Records.{EntryTexts, entry_named}
use Rattle.edit_spec.specs.Edits as edits
use Rattle.edit_spec.specs.Edits.{Spells}
use Rattle.bib_data.specs.declared.edit.Edit.{Edit}
use Rattle.bib_data.specs.declared.edit.Edit.TheVariants.{SetField, DropField, AddEntry, AddMany, RemoveEntry, MoveEntry, RenameKey, RegenerateKeys, RenameMacro, InlineMacro, IntroduceMacro, SetType, UndefineMacro, RenameField, DefineMacro, SetMacro}
use Rattle.bib_data.specs.declared.edit.NewEntry.{NewEntry}
use Rattle.bib_edit.specs.Numbers.{is_numbered, which_of}

-- the values are what the bytes of the fields say
abbrev pub SpellFields : List (Text × Text) → List (Text × Value) → Type 0
SpellFields [] [] = Unit {0}
SpellFields [] (field ∷ fields) = ⊥
SpellFields (asked ∷ others) [] = ⊥
SpellFields (asked ∷ others) (field ∷ fields) = (field.0 ≡ asked.0) × Spells asked.1 field.1 × SpellFields others fields

-- the entry is what the bytes say
pub record SpellsEntry (asked : NewEntry) (new : edits.NewEntry) : Type 0 where
  pub kind_name : new.kind_name ≡ asked.kind_name
  pub key : new.key ≡ asked.key
  pub fields : SpellFields asked.fields new.fields

-- the entries are what the bytes say, each in its turn
abbrev pub SpellEntries : List NewEntry → List edits.NewEntry → Type 0
SpellEntries [] [] = Unit {0}
SpellEntries [] (new ∷ news) = ⊥
SpellEntries (asked ∷ others) [] = ⊥
SpellEntries (asked ∷ others) (new ∷ news) = SpellsEntry asked new × SpellEntries others news

-- ---- names with a number

-- a field of an entry is set; a number tells which entry, or which field
abbrev pub asked_set : Text → Text → Value → edits.Edit
asked_set key field v =
    if is_numbered key || is_numbered field then edits.ChangeEntry (which_of key) (edits.SetsField (which_of field) v) else edits.SetField key field v

-- a field of an entry is removed
abbrev pub asked_drop : Text → Text → edits.Edit
asked_drop key field =
    if is_numbered key || is_numbered field then edits.ChangeEntry (which_of key) (edits.DropsField (which_of field)) else edits.DropField key field

-- an entry is removed
abbrev pub asked_remove : Text → edits.Edit
asked_remove key = if is_numbered key then edits.ChangeEntry (which_of key) edits.Removes else edits.RemoveEntry key

-- an entry is moved
abbrev pub asked_move : Text → ℕ → edits.Edit
asked_move key position = if is_numbered key then edits.ChangeEntry (which_of key) (edits.Moves position) else edits.MoveEntry key position

-- an entry gets another key
abbrev pub asked_key : Text → Text → edits.Edit
asked_key from to = if is_numbered from then edits.ChangeEntry (which_of from) (edits.RenamesKey to) else edits.RenameKey from to

-- an entry gets another type
abbrev pub asked_type : Text → Text → edits.Edit
asked_type key kind_name = if is_numbered key then edits.ChangeEntry (which_of key) (edits.SetsType kind_name) else edits.SetType key kind_name

-- fields get another name, in every entry or in one
abbrev pub asked_fields : Text → Text → Option Text → edits.Edit
asked_fields from to None = edits.RenameField from to None
asked_fields from to (Some key) = if is_numbered key then edits.ChangeEntry (which_of key) (edits.RenamesFields from to) else edits.RenameField from to (Some key)

-- a definition is removed
abbrev pub asked_undefine : Text → edits.Edit
asked_undefine name =
    if is_numbered name then edits.ChangeDefinition (which_of name).name (edits.number_of (which_of name)) edits.Undefines else edits.UndefineMacro name

-- a definition gets another value
abbrev pub asked_macro : Text → Value → edits.Edit
asked_macro name v =
    if is_numbered name then edits.ChangeDefinition (which_of name).name (edits.number_of (which_of name)) (edits.SetsValue v) else edits.SetMacro name v

-- ---- what is meant

-- the number of the entry that the key means: the first that has it, or the one that a number tells
abbrev pub entry_asked : Text → List EntryTexts → Option ℕ
entry_asked key entries = if is_numbered key then edits.entry_meant (which_of key) entries else entry_named entries key

-- the name that the text means, without a number
abbrev pub name_asked : Text → Text
name_asked text = (which_of text).name

-- ---- what is asked for

-- the edit is what is asked for
pub data AsksFor : Edit → edits.Edit → Type 0 where
  set_field : (key field value : Text) (v : Value) → Spells value v → AsksFor (SetField key field value) (asked_set key field v)
  drop_field : (key field : Text) → AsksFor (DropField key field) (asked_drop key field)
  add_entry : (position : ℕ) (asked : NewEntry) (new : edits.NewEntry) → SpellsEntry asked new → AsksFor (AddEntry position asked) (edits.AddEntry position new)
  add_many : (asked : List NewEntry) (news : List edits.NewEntry) → SpellEntries asked news → AsksFor (AddMany asked) (edits.AddMany news)
  remove_entry : (key : Text) → AsksFor (RemoveEntry key) (asked_remove key)
  move_entry : (key : Text) (position : ℕ) → AsksFor (MoveEntry key position) (asked_move key position)
  rename_key : (from to : Text) → AsksFor (RenameKey from to) (asked_key from to)
  regenerate_keys : (depth : ℕ) → AsksFor (RegenerateKeys depth) (edits.RegenerateKeys depth)
  rename_macro : (from to : Text) → AsksFor (RenameMacro from to) (edits.RenameMacro from to)
  inline_macro : (name : Text) → AsksFor (InlineMacro name) (edits.InlineMacro name)
  introduce_macro : (name text : Text) → AsksFor (IntroduceMacro name text) (edits.IntroduceMacro name text)
  set_type : (key kind_name : Text) → AsksFor (SetType key kind_name) (asked_type key kind_name)
  undefine_macro : (name : Text) → AsksFor (UndefineMacro name) (asked_undefine name)
  rename_field : (from to : Text) (key : Option Text) → AsksFor (RenameField from to key) (asked_fields from to key)
  define_macro : (name value : Text) (v : Value) → Spells value v → AsksFor (DefineMacro name value) (edits.DefineMacro name v)
  set_macro : (name value : Text) (v : Value) → Spells value v → AsksFor (SetMacro name value) (asked_macro name v)

-- it holds of the edit that is asked for
abbrev pub OfEdit : Edit → (edits.Edit → Type 0) → Type 0
OfEdit asked P = (e : edits.Edit) → AsksFor asked e → P e
