-- An entry whose fields are as they are written, as a value of JSON, and the text of it. (dialect)
use Rattle.std.specs.Prelude.{Bool, false, ◌&&◌, List, [], ◌∷◌, ◌++◌, Option, None, Some, codes, map}
use Rattle.std.specs.Fmt.{decimal}
use Rattle.std.specs.List.{list_all}
use Rattle.std.specs.Option.{option_copied}
use Rattle.std.specs.Str.{is_utf8}
use Rattle.json.specs.Json.{Json, boolean, number, string, object, Members, no_members, member}
use Rattle.json.specs.Print.{print}
use Rattle.json.specs.Tree.{json_tokens}
use Rattle.bib_spec.specs.Text.{Text, folded}
use Rattle.entry_json.specs.EntryJson.{parent_json, file_json, is_any_utf8}
use Rattle.entry_json.specs.declared.raw.WrittenField.{WrittenField}
use Rattle.entry_json.specs.declared.raw.RawEntry.{RawEntry}
use Rattle.entry_json.specs.declared.raw.Standing.{Standing}

-- ---- entries as they are written

-- a field as it is written: its name, the bytes of its value, and the key of the entry from which it is inherited, if it is
pub record Written : Type 0 where
  pub name : Text
  pub value : Text
  pub from : Option Text

-- a field of the code, as one of the definitions
abbrev pub written_seen : WrittenField → Written
written_seen f = record { name = f.name.now; value = f.value.now; from = option_copied f.from }

-- an entry as it is written: its type, its key, the key of its parent, if it has one, its fields, and where it stands
pub record WrittenEntry : Type 0 where
  pub kind : Text
  pub key : Text
  pub parent : Option Text
  pub fields : List Written
  pub standing : Standing

-- an entry of the code with these fields, as one of the definitions
abbrev pub entry_seen : RawEntry → List WrittenField → WrittenEntry
entry_seen entry fields = record {
  kind = entry.kind.now;
  key = entry.key.now;
  parent = option_copied entry.parent;
  fields = map written_seen fields;
  standing = entry.standing;
}

-- ---- values

-- the key of the entry from which a field is inherited, or false if it is not
abbrev pub inherited_json : Option Text → Json
inherited_json None = boolean false
inherited_json (Some key) = string key

-- a field: its name and the bytes of its value, as they are written, and whether it is inherited
abbrev pub written_json : Written → Json
written_json field =
    object (member (codes "name") (string field.name)
    (member (codes "value") (string field.value)
    (member (codes "inherited") (inherited_json field.from) no_members)))

-- fields, in order, each as a member with its name in lower case
abbrev pub all_written_json : List Written → Members
all_written_json [] = no_members
all_written_json (field ∷ fields) = member (folded field.name) (written_json field) (all_written_json fields)

-- the number of the item that the entry is, and the line and the column of its at-sign; more members follow
abbrev pub standing_json : Standing → Members → Members
standing_json at more =
    member (codes "item") (number (decimal at.item))
    (member (codes "line") (number (decimal at.line))
    (member (codes "column") (number (decimal at.column)) more))

-- an entry: its type in lower case, its key, the key of its parent, its fields, where it stands, and the name of its file if it is told
abbrev pub raw_json : WrittenEntry → Option Text → Json
raw_json entry file =
    object (member (codes "type") (string (folded entry.kind))
    (member (codes "key") (string entry.key)
    (member (codes "parent") (parent_json entry.parent)
    (member (codes "fields") (object (all_written_json entry.fields)) (standing_json entry.standing (file_json file))))))

-- the text of an entry, on a line: no white space, and the shortest escapes
abbrev pub raw_line : WrittenEntry → Option Text → Text
raw_line entry file = print (json_tokens (raw_json entry file)) ++ codes "\n"

-- ---- texts that JSON cannot have

-- the name and the value of a field, and the key of the entry from which it is inherited, are UTF-8
abbrev pub is_written_utf8 : Written → Bool
is_written_utf8 field = is_utf8 field.name && (is_utf8 field.value && is_any_utf8 field.from)

-- the name of the file, if it is told, the type, the keys and the fields are UTF-8
abbrev pub is_raw_utf8 : WrittenEntry → Option Text → Bool
is_raw_utf8 entry file =
    is_any_utf8 file && (is_utf8 entry.kind && (is_utf8 entry.key && (is_any_utf8 entry.parent && list_all is_written_utf8 entry.fields)))
