-- What the lines of a script ask for. (dialect)
use Rattle.std.specs.Prelude.{ℕ, suc, ◌+◌, ◌-◌, ◌*◌, ◌&&◌, ◌==◌, nat_le, Bool, if◌then◌else◌, List, [], ◌∷◌, length, drop, Option, Some, None, option_map, option_and_then, bytes_eq, codes, fold}
use Rattle.std.specs.List.{list_all, starts_with}
use Rattle.std.specs.Option.{option_map_or}
use Rattle.std.specs.Char.{is_ascii_digit}
use Rattle.bib_spec.specs.Text.{Text}
use Rattle.bib_spec.specs.Texts.{is_empty}
use Rattle.bib_spec.specs.Records.{default_depth}
use Rattle.history_spec.specs.Steps.{label_of}
use Rattle.bib_data.specs.declared.edit.Edit.{Edit}
use Rattle.bib_data.specs.declared.edit.Edit.TheVariants.{SetField, DropField, AddEntry, RemoveEntry, MoveEntry, RenameKey, RenameMacro, InlineMacro, IntroduceMacro, RegenerateKeys, SetType, UndefineMacro, RenameField, DefineMacro, SetMacro}
use Rattle.bib_data.specs.declared.edit.NewEntry.{NewEntry}
use Rattle.bib_data.specs.declared.position.Position.{Position}
use Rattle.bib_data.specs.declared.position.Position.TheVariants.{Number, End, Before, After}
use Rattle.bib_data.specs.declared.request.Request.{Request}
use Rattle.bib_data.specs.declared.request.Request.TheVariants as request
use Rattle.bib_script.specs.Parting.{words_of, lines_of}

-- ---- numbers

-- the number that one more digit makes of a number
abbrev pub with_digit : ℕ → ℕ → ℕ
with_digit n digit = n * 10 + (digit - 48)

-- the number that 1 to 9 digits say; leading zeros are allowed
abbrev pub number_of : Text → Option ℕ
number_of word = if (nat_le 1 (length word) && nat_le (length word) 9) && list_all is_ascii_digit word then Some (fold with_digit 0 word) else None

-- ---- positions

-- the text begins with this word
abbrev pub begins_with : Text → Text → Bool
begins_with word text = starts_with (λ a b. a == b) text word

-- the position that a word says: a number, `end`, `before:KEY` or `after:KEY`
unfoldable pub position_of : Text → Option Position
position_of word =
    if bytes_eq word (codes "end") then Some End
    else if begins_with (codes "before:") word then Some (Before (drop 7 word))
    else if begins_with (codes "after:") word then Some (After (drop 6 word))
    else option_map Number (number_of word)

-- ---- words

-- names and values in turn
abbrev pub fields_of : List Text → Option (List (Text × Text))
fields_of [] = Some []
fields_of (name ∷ []) = None
fields_of (name ∷ value ∷ words) = option_map (λ fields. (name, value) ∷ fields) (fields_of words)

-- `set KEY FIELD VALUE`
abbrev pub set_of : List Text → Option Edit
set_of (key ∷ field ∷ value ∷ []) = Some (SetField key field value)
set_of _ = None

-- `drop KEY FIELD`
abbrev pub drop_of : List Text → Option Edit
drop_of (key ∷ field ∷ []) = Some (DropField key field)
drop_of _ = None

-- the entry with this type, this key and these fields
abbrev pub new_entry : Text → Text → List (Text × Text) → NewEntry
new_entry kind_name key fields = record { kind_name = kind_name; key = key; fields = fields }

-- the request that adds this entry at this position; where the position is no number, the edit's own is not used
abbrev pub adding : Position → NewEntry → Request
adding (Number n) entry = request.Edit (AddEntry n entry)
adding position entry = request.Place position (AddEntry 0 entry)

-- `add POSITION TYPE KEY FIELD VALUE ..`
abbrev pub add_of : List Text → Option Request
add_of (position ∷ kind_name ∷ key ∷ words) =
    option_and_then (λ position. option_map (λ fields. adding position (new_entry kind_name key fields)) (fields_of words)) (position_of position)
add_of _ = None

-- `remove KEY`
abbrev pub remove_of : List Text → Option Edit
remove_of (key ∷ []) = Some (RemoveEntry key)
remove_of _ = None

-- the request that moves this entry to this position
abbrev pub moving : Text → Position → Request
moving key (Number n) = request.Edit (MoveEntry key n)
moving key position = request.Place position (MoveEntry key 0)

-- `move KEY POSITION`
abbrev pub move_of : List Text → Option Request
move_of (key ∷ position ∷ []) = option_map (λ position. moving key position) (position_of position)
move_of _ = None

-- `set-type KEY TYPE`
abbrev pub set_type_of : List Text → Option Edit
set_type_of (key ∷ kind_name ∷ []) = Some (SetType key kind_name)
set_type_of _ = None

-- `rename-key FROM TO`
abbrev pub rename_key_of : List Text → Option Edit
rename_key_of (from ∷ to ∷ []) = Some (RenameKey from to)
rename_key_of _ = None

-- `rename-field OLD NEW [KEY]`
abbrev pub rename_field_of : List Text → Option Edit
rename_field_of (from ∷ to ∷ []) = Some (RenameField from to None)
rename_field_of (from ∷ to ∷ key ∷ []) = Some (RenameField from to (Some key))
rename_field_of _ = None

-- `rename-macro FROM TO`
abbrev pub rename_macro_of : List Text → Option Edit
rename_macro_of (from ∷ to ∷ []) = Some (RenameMacro from to)
rename_macro_of _ = None

-- `inline NAME`
abbrev pub inline_of : List Text → Option Edit
inline_of (name ∷ []) = Some (InlineMacro name)
inline_of _ = None

-- `introduce NAME TEXT`
abbrev pub introduce_of : List Text → Option Edit
introduce_of (name ∷ text ∷ []) = Some (IntroduceMacro name text)
introduce_of _ = None

-- `undefine NAME`
abbrev pub undefine_of : List Text → Option Edit
undefine_of (name ∷ []) = Some (UndefineMacro name)
undefine_of _ = None

-- `define NAME VALUE`
abbrev pub define_of : List Text → Option Edit
define_of (name ∷ value ∷ []) = Some (DefineMacro name value)
define_of _ = None

-- `set-macro NAME VALUE`
abbrev pub set_macro_of : List Text → Option Edit
set_macro_of (name ∷ value ∷ []) = Some (SetMacro name value)
set_macro_of _ = None

-- the depth that one digit from 1 to 8 says
abbrev pub depth_of : Text → Option ℕ
depth_of (digit ∷ []) = if nat_le 49 digit && nat_le digit 56 then Some (digit - 48) else None
depth_of _ = None

-- `regenerate [DEPTH]`
abbrev pub regenerate_of : List Text → Option Edit
regenerate_of [] = Some (RegenerateKeys default_depth)
regenerate_of (depth ∷ []) = option_map RegenerateKeys (depth_of depth)
regenerate_of _ = None

-- the edit of macros that a verb and the words after it say
abbrev pub macro_edit_of : Text → List Text → Option Edit
macro_edit_of verb words =
    if bytes_eq verb (codes "rename-macro") then rename_macro_of words
    else if bytes_eq verb (codes "inline") then inline_of words
    else if bytes_eq verb (codes "introduce") then introduce_of words
    else if bytes_eq verb (codes "undefine") then undefine_of words
    else if bytes_eq verb (codes "define") then define_of words
    else if bytes_eq verb (codes "set-macro") then set_macro_of words
    else None

-- the edit of keys, names of fields or macros that a verb and the words after it say
abbrev pub renaming_of : Text → List Text → Option Edit
renaming_of verb words =
    if bytes_eq verb (codes "rename-key") then rename_key_of words
    else if bytes_eq verb (codes "rename-field") then rename_field_of words
    else if bytes_eq verb (codes "regenerate") then regenerate_of words
    else macro_edit_of verb words

-- the edit, without a position, that a verb and the words after it say
abbrev pub edit_of : Text → List Text → Option Edit
edit_of verb words =
    if bytes_eq verb (codes "set") then set_of words
    else if bytes_eq verb (codes "drop") then drop_of words
    else if bytes_eq verb (codes "remove") then remove_of words
    else if bytes_eq verb (codes "set-type") then set_type_of words
    else renaming_of verb words

-- the edit that a line's words ask for
abbrev pub edit_asked : List Text → Option Request
edit_asked [] = None
edit_asked (verb ∷ words) =
    if bytes_eq verb (codes "add") then add_of words
    else if bytes_eq verb (codes "move") then move_of words
    else option_map request.Edit (edit_of verb words)

-- `group LABEL`
abbrev pub group_of : List Text → Option Request
group_of (label ∷ []) = option_map request.Begin (label_of label)
group_of _ = None

-- `end`
abbrev pub end_of : List Text → Option Request
end_of [] = Some request.End
end_of _ = None

-- what a line's words ask for: an edit, or that a step of several edits begins or ends
abbrev pub request_of : List Text → Option Request
request_of [] = None
request_of (verb ∷ words) =
    if bytes_eq verb (codes "group") then group_of words
    else if bytes_eq verb (codes "end") then end_of words
    else edit_asked (verb ∷ words)

-- ---- lines

-- What a script says: its requests, in order; for each the number of its line, counted from 1; and the number of the line that
-- is no request, at which reading ends, if there is one.
pub record Said : Type 0 where
  pub requests : List Request
  pub lines : List ℕ
  pub bad_line : Option ℕ

-- a script says these requests, on these lines, and has this bad line, if any
abbrev pub said : List Request → List ℕ → Option ℕ → Said
said requests lines bad_line = record { requests = requests; lines = lines; bad_line = bad_line }

-- a script says no request, and has this bad line, if any
abbrev pub nothing_said : Option ℕ → Said
nothing_said bad_line = said [] [] bad_line

-- a script says this request on this line, and then what the rest says
abbrev pub said_first : ℕ → Request → Said → Said
said_first line request rest = said (request ∷ rest.requests) (line ∷ rest.lines) rest.bad_line

-- what the lines say, if the first of them has this number; an empty line says nothing
abbrev pub said_by : ℕ → List Text → Said
said_by n [] = nothing_said None
said_by n (line ∷ lines) =
    if is_empty line then said_by (suc n) lines
    else option_map_or (λ asked. said_first n asked (said_by (suc n) lines)) (request_of (words_of line)) (nothing_said (Some n))

-- what the script says
abbrev pub said_of : Text → Said
said_of script = said_by 1 (lines_of script)
