-- An entry as a value of JSON (RFC 8259), and the text of it. (dialect)
use Rattle.std.specs.Prelude.{Bool, ◌&&◌, true, List, [], ◌∷◌, ◌++◌, Option, None, Some, codes}
use Rattle.std.specs.Str.{is_utf8}
use Rattle.json.specs.Json.{Json, null, string, object, Members, no_members, member}
use Rattle.json.specs.Print.{print}
use Rattle.json.specs.Tree.{json_tokens}
use Rattle.bib_spec.specs.Text.{Text}
use Rattle.bib_spec.specs.Records.{RecordField, Record}

-- ---- values

-- the key of a parent, or null if there is none
abbrev pub parent_json : Option Text → Json
parent_json None = null
parent_json (Some key) = string key

-- fields, in order, each as a member with its name
abbrev pub fields_json : List RecordField → Members
fields_json [] = no_members
fields_json (field ∷ fields) = member field.0 (string field.1) (fields_json fields)

-- the record of an entry, and the key of its parent, if it has one
abbrev pub Told : Type 0
Told = Record × Option Text

-- an entry: its type, its key, the key of its parent, and its fields in the record's order
abbrev pub entry_json : Told → Json
entry_json told =
    object (member (codes "type") (string told.0.kind_name)
    (member (codes "key") (string told.0.key)
    (member (codes "parent") (parent_json told.1)
    (member (codes "fields") (object (fields_json told.0.fields)) no_members))))

-- the name of the file in which an entry stands, if it is told
abbrev pub file_json : Option Text → Members
file_json None = no_members
file_json (Some name) = member (codes "file") (string name) no_members

-- an entry, and the name of its file if it is told
abbrev pub entry_in_file : Told → Option Text → Json
entry_in_file told file =
    object (member (codes "type") (string told.0.kind_name)
    (member (codes "key") (string told.0.key)
    (member (codes "parent") (parent_json told.1)
    (member (codes "fields") (object (fields_json told.0.fields)) (file_json file)))))

-- the text of an entry, on a line: no white space, and the shortest escapes
abbrev pub json_line : Told → Text
json_line told = print (json_tokens (entry_json told)) ++ codes "\n"

-- the text of an entry with the name of its file, if it is told
abbrev pub json_line_in : Told → Option Text → Text
json_line_in told file = print (json_tokens (entry_in_file told file)) ++ codes "\n"

-- ---- texts that JSON cannot have

-- the key of the parent or the name of the file is UTF-8, if there is one
abbrev pub is_any_utf8 : Option Text → Bool
is_any_utf8 None = true
is_any_utf8 (Some text) = is_utf8 text

-- the names and the texts of the fields are UTF-8
abbrev pub are_fields_utf8 : List RecordField → Bool
are_fields_utf8 [] = true
are_fields_utf8 (field ∷ fields) = is_utf8 field.0 && (is_utf8 field.1 && are_fields_utf8 fields)

-- the type, the keys, and the names and texts of the fields are UTF-8
abbrev pub is_told_utf8 : Told → Bool
is_told_utf8 told = is_utf8 told.0.kind_name && (is_utf8 told.0.key && (is_any_utf8 told.1 && are_fields_utf8 told.0.fields))

-- and the name of the file is UTF-8, if it is told
abbrev pub is_told_utf8_in : Told → Option Text → Bool
is_told_utf8_in told file = is_any_utf8 file && is_told_utf8 told
