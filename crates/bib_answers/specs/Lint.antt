-- `lint`: what is wrong with a file, as compilers write it: a line for each finding, with its position.
use Rattle.std.specs.Prelude.{ℕ, ◌≡◌, ◌≢◌, ◌<◌, ◌≤◌, Bool, true, false, ◌==◌, ◌+◌, bytes_eq, nat_lt, List, [], ◌∷◌, ◌++◌, length, map, filter, not, Option, None, Some, is_none, if◌then◌else◌, option_and_then, slice_get, slice_index_or, codes, zip, ◌&&◌}
use Rattle.std.specs.Fmt.{decimal}
use Rattle.std.specs.List.{flat_map, list_any, range_with_len}
use Rattle.std.specs.Option.{option_map_or}
use Rattle.std.specs.Str.{is_utf8}
use Rattle.bib_spec.specs.Bytes.{file_limit}
use Rattle.bib_spec.specs.Text.{Text, folded, same, is_new_key}
use Rattle.bib_spec.specs.Tree.{Part, Braced, Quoted, Digits, Macro, Value, Tree, CommentTree, DefinitionTree, PreambleTree, EntryTree, tree_bytes, is_comment}
use Rattle.bib_spec.specs.Reading.{Item, Reading, HasReading}
use Rattle.bib_spec.specs.Fault.{fault_number}
use Rattle.bib_faults.specs.GoingOn.{Fault, Faults}
use Rattle.bib_persons.specs.Persons.{has_names, refused_names}
use Rattle.bib_strays.specs.Strays.{Stray, strays_in}
use Rattle.bib_strays.specs.declared.lines.StrayKind.{StrayKind}
use Rattle.bib_strays.specs.declared.lines.StrayKind.TheVariants as stray
use Rattle.bib_spec.specs.Texts.{Macros, months, macros_at, is_empty, parts_of, raw_text, field_text, Opens}
use Rattle.bib_spec.specs.Records.{EntryTexts, entries_of, entry_named, crossref, crossref_text, target, parent, other_than, is_repeated}
use Rattle.bib_scan.specs.Layout.{start_of}
use Rattle.bib_scan.specs.ValueParts.{spans_of, span_start}
use Rattle.bib_scan.specs.View.{Field, fields_of, kind_of, head_of, key_of, key_place}
use Rattle.bib_scan.specs.declared.view.Kind.{Kind}
use Rattle.bib_scan.specs.declared.view.Kind.TheVariants as kind
use Rattle.bib_value.specs.Macros.{is_own}
use Rattle.bib_definitions.specs.Definitions.{first_definition}
use Rattle.bib_store.specs.Readings.{IsOpenFault}
use Rattle.aux_text.specs.declared.placing.CitedKey.{CitedKey}
use Rattle.aux_text.specs.declared.placing.AuxKeys.{AuxKeys}
use Rattle.bib_shelf.specs.Joined.{located_in}
use Rattle.bib_answers.specs.declared.answers.Answer.{Answer}
use Rattle.bib_answers.specs.declared.positions.Position.{Position}
use Rattle.bib_answers.specs.Check.{Assigned, assigned, defined_in, entries_before}
use Rattle.bib_answers.specs.Entries.{key_at}
use Rattle.bib_answers.specs.Messages.{fault_name}
use Rattle.bib_answers.specs.declared.warnings.Warning.{Warning}
use Rattle.bib_answers.specs.declared.warnings.Warning.TheVariants.{UndefinedMacro, OwnMacro, RepeatedField, RepeatedKey, NoKey, OddKey, MissingParent, OwnParent, EarlyParent, NestedParent, ConflictMarker, LostEntry, LoneBrace, RepeatedMacro, ManyCommas, EmptyCrossref, FieldNotUtf8, KeyNotUtf8, TypeNotUtf8, MissingKey}
use Rattle.bib_answers.specs.Warnings.{code_of, words_before, words_after}
use Rattle.bib_answers.specs.Outcome.{answer_of}
use Rattle.bib_answers.specs.Positions.{position, position_of}

-- ---- findings

-- a finding in an item: its kind, its place in the item, and the name, key or text that it is about
pub record Finding : Type 0 where
  pub kind : Warning
  pub at : ℕ
  pub name : Text

-- one finding of a kind at a place, about this name, key or text
abbrev pub found : Warning → ℕ → Text → List Finding
found kind at name = record { kind = kind; at = at; name = name } ∷ []

-- ---- uses

-- the parts of a value, each with its place in the value
abbrev pub placed_parts : Value → List (ℕ × Part)
placed_parts v = zip (map span_start (spans_of v)) (parts_of v)

-- a part at this place uses the macro that is being defined, or else a macro that has no text there (dialect)
abbrev pub use_findings : Option Text → Macros → ℕ → Part → List Finding
use_findings own macros at (Macro name) =
    if is_own own (folded name) then found OwnMacro at name
    else if is_none (macros (folded name)) then found UndefinedMacro at name
    else []
use_findings own macros at (Braced t) = []
use_findings own macros at (Quoted t) = []
use_findings own macros at (Digits t) = []

-- the findings in a value at this place, part by part
abbrev pub value_findings : Option Text → Macros → ℕ → Value → List Finding
value_findings own macros at v = flat_map (λ placed. use_findings own macros (at + placed.0) placed.1) (placed_parts v)

-- ---- fields

-- an earlier field of the item has the name; or else what is found in the first field of this name
abbrev pub name_findings : (Field → Value → List Finding) → List Text → Field → Value → List Finding
name_findings firsts earlier field v =
    if list_any (same field.name) earlier then found RepeatedField field.name_at field.name else firsts field v

-- the findings in fields with these values, which come after fields with the names `earlier`
abbrev pub field_findings : (Text → Option Text) → Macros → (Field → Value → List Finding) → List Text → List Field → List Assigned → List Finding
field_findings own macros firsts earlier [] values = []
field_findings own macros firsts earlier (field ∷ fields) [] = []
field_findings own macros firsts earlier (field ∷ fields) (a ∷ values) =
    name_findings firsts earlier field a.1
    ++ (value_findings (own field.name) macros field.value_at a.1
    ++ field_findings own macros firsts (field.name ∷ earlier) fields values)

-- ---- entries

-- the parent of entry n's parent, unless it is entry n: at depth 1 entry n inherits nothing from it
abbrev pub grandparent : List EntryTexts → ℕ → Option ℕ
grandparent entries n = option_and_then (other_than n) (option_and_then (parent entries) (parent entries n))

-- the target comes before the entry (dialect)
abbrev pub order_findings : ℕ → ℕ → Text → ℕ → List Finding
order_findings at n text m = if nat_lt m n then found EarlyParent at text else []

-- the target has a parent itself (btxdoc 2.1)
abbrev pub nested_findings : ℕ → Text → Option ℕ → List Finding
nested_findings at text None = []
nested_findings at text (Some k) = found NestedParent at text

-- entry n has a crossref with this text at this place, and this target; `grand` is the target's parent
abbrev pub target_findings : ℕ → ℕ → Text → Option ℕ → Option ℕ → List Finding
target_findings at n text None grand = found MissingParent at text
target_findings at n text (Some m) grand =
    if m == n then found OwnParent at text
    else order_findings at n text m ++ nested_findings at text grand

-- the crossref of an entry is empty
abbrev pub has_empty_crossref : EntryTexts → Bool
has_empty_crossref entry = option_map_or is_empty (crossref_text entry) false

-- the entry has no key
abbrev pub has_no_key : EntryTexts → Bool
has_no_key entry = is_empty entry.key

-- a file has an entry whose crossref is empty and an entry without a key, which BibTeX takes for the parent (BibTeX 0.99)
abbrev pub has_empty_parents : List EntryTexts → Bool
has_empty_parents entries = list_any has_empty_crossref entries && list_any has_no_key entries

-- the crossref of the entry with this key is empty, and an entry has no key
abbrev pub empty_findings : Bool → Text → ℕ → List Finding
empty_findings parents key at = if parents then found EmptyCrossref at key else []

-- the findings on the crossref of the entry with this key; `parents` says whether BibTeX finds a parent for an empty one
abbrev pub crossref_findings : Bool → Text → ℕ → Option Text → Option ℕ → Option ℕ → ℕ → List Finding
crossref_findings parents key n None target grand at = []
crossref_findings parents key n (Some text) target grand at =
    if is_empty text then empty_findings parents key at else target_findings at n text target grand

-- the findings on the crossref of entry n, by the place of its value
abbrev pub crossrefs_of : List EntryTexts → ℕ → ℕ → List Finding
crossrefs_of entries n =
    crossref_findings (has_empty_parents entries) (key_at entries n) n (option_and_then crossref_text (slice_get entries n)) (target entries n) (grandparent entries n)

-- an earlier entry has the key
abbrev pub repeated_findings : ℕ → Bool → Text → List Finding
repeated_findings at repeated key = if repeated then found RepeatedKey at key else []

-- no edit could write the key: it is empty, or has a byte that `is_new_key` does not take
abbrev pub unusual_findings : ℕ → Text → List Finding
unusual_findings at key =
    if is_empty key then found NoKey at key
    else if is_new_key key then []
    else found OddKey at key

-- the type or the key of an entry is not UTF-8, so that `json` refuses the entry; the place is that of the key
abbrev pub encoding_findings : ℕ → Text → Text → List Finding
encoding_findings at type_name key =
    (if is_utf8 type_name then [] else found TypeNotUtf8 at type_name) ++ (if is_utf8 key then [] else found KeyNotUtf8 at key)

-- the findings in an entry's key at this place, and in its type
abbrev pub key_findings : ℕ → Text → Bool → Text → List Finding
key_findings at type_name repeated key = repeated_findings at repeated key ++ (unusual_findings at key ++ encoding_findings at type_name key)

-- ---- first fields

-- the names of a list with this text that `names` refuses, with the place of the list
abbrev pub refused_findings : ℕ → Text → List Finding
refused_findings at text = flat_map (found ManyCommas at) (refused_names text)

-- the name or the text of a field is not UTF-8, so that `json` refuses the entry
abbrev pub field_encoding_findings : Field → Text → List Finding
field_encoding_findings field text = if is_utf8 field.name && is_utf8 text then [] else found FieldNotUtf8 field.value_at field.name

-- the findings in a field of an entry that has this text
abbrev pub text_findings : Field → Text → List Finding
text_findings field text = (if has_names field.name then refused_findings field.value_at text else []) ++ field_encoding_findings field text

-- the part is a use of a macro
abbrev pub is_use : Part → Bool
is_use (Macro name) = true
is_use (Braced t) = false
is_use (Quoted t) = false
is_use (Digits t) = false

-- the value uses a macro
abbrev pub has_uses : Value → Bool
has_uses v = list_any is_use (parts_of v)

-- the findings in a field with this value, if it uses no macro: the text of a macro is not looked through at each of its uses
abbrev pub own_findings : Macros → Field → Value → List Finding
own_findings macros field v = if has_uses v then [] else text_findings field (field_text (raw_text macros v))

-- the findings in the first field of a name of an entry, of whose crossref these are the findings
abbrev pub entry_field_findings : Macros → (ℕ → List Finding) → Field → Value → List Finding
entry_field_findings macros crossrefs field v =
    if same field.name crossref then crossrefs field.value_at else own_findings macros field v

-- one of the items before item n defines the macro
abbrev pub is_defined_before : List Item → ℕ → Text → Bool
is_defined_before items n name = option_map_or (λ first. nat_lt first n) (first_definition name items) false

-- the tree, that of item n, defines a macro that an earlier item defines (dialect)
abbrev pub redefines : List Item → ℕ → Tree → Bool
redefines items n (DefinitionTree d) = is_defined_before items n d.assignment.name
redefines items n (CommentTree h) = false
redefines items n (PreambleTree p) = false
redefines items n (EntryTree e) = false

-- the field of a definition defines a macro again
abbrev pub definition_findings : Bool → Field → List Finding
definition_findings redefined field = if redefined then found RepeatedMacro field.name_at field.name else []

-- the findings in the first field of each name, in an item of this kind
abbrev pub first_findings : Kind → Macros → Bool → (ℕ → List Finding) → Field → Value → List Finding
first_findings kind.Entry macros redefined crossrefs field v = entry_field_findings macros crossrefs field v
first_findings kind.Macro macros redefined crossrefs field v = definition_findings redefined field
first_findings kind.Preamble macros redefined crossrefs field v = []
first_findings kind.Comment macros redefined crossrefs field v = []

-- ---- items

-- the list if the item is an entry, and else nothing
abbrev pub for_entry : {X : Type 0} → Kind → List X → List X
for_entry kind.Entry xs = xs
for_entry kind.Macro xs = []
for_entry kind.Preamble xs = []
for_entry kind.Comment xs = []

-- The findings in an item, at which the macros have these texts. If it is an entry, it is entry n; `redefined` says whether it
-- defines a macro again.
abbrev pub item_findings : List EntryTexts → Macros → Bool → ℕ → Tree → List Finding
item_findings entries macros redefined n tree =
    for_entry (kind_of tree) (key_findings (key_place tree) (head_of tree).type_name (is_repeated entries n) (key_of tree))
    ++ field_findings (defined_in (kind_of tree)) macros (first_findings (kind_of tree) macros redefined (crossrefs_of entries n)) [] (fields_of tree) (assigned tree)

-- the findings in the body of item n
abbrev pub findings_in_body : Reading → ℕ → List Finding
findings_in_body db n =
    option_map_or (λ item. item_findings (entries_of db) (macros_at months db.items n) (redefines db.items n item.tree) (entries_before db n) item.tree) (slice_get db.items n) []

-- ---- texts between items

-- the kind of finding for what a line looks like
abbrev pub warning_of : StrayKind → Warning
warning_of stray.ConflictMarker = ConflictMarker
warning_of stray.LostEntry = LostEntry
warning_of stray.LoneBrace = LoneBrace

-- the finding for a line of a text between items that looks like what went wrong, if the text begins at this place
abbrev pub stray_finding : ℕ → Stray → Finding
stray_finding at line = record { kind = warning_of line.kind; at = at + line.place; name = line.text }

-- the findings in a text between items that begins at this place, and that may be the text after a comment
abbrev pub gap_findings : Bool → ℕ → Text → List Finding
gap_findings commented at text = map (stray_finding at) (strays_in commented text)

-- the findings in the trail of an item, which begins where its body ends
abbrev pub trail_findings : Item → List Finding
trail_findings item = gap_findings (is_comment item.tree) (length (tree_bytes item.tree)) item.trail

-- the findings in the trail of item n
abbrev pub findings_in_trail : Reading → ℕ → List Finding
findings_in_trail db n = option_map_or trail_findings (slice_get db.items n) []

-- the findings on item n: in its body, and then in its trail
abbrev pub findings_on : Reading → ℕ → List Finding
findings_on db n = findings_in_body db n ++ findings_in_trail db n

-- ---- lines

-- `name:line:column: `
abbrev pub placed_at : Text → Position → Text
placed_at name at = name ++ (codes ":" ++ (decimal at.line ++ (codes ":" ++ (decimal at.column ++ codes ": "))))

-- `name:line:column: warning: words [code]`, a line, whose words are those of the kind around this name, key or text (GNU
-- coding standards 4.4)
abbrev pub warning_line : Text → Position → Warning → Text → Text
warning_line name at kind about =
    placed_at name at ++ (codes "warning: " ++ (words_before kind ++ (about ++ (words_after kind ++ (codes " [" ++ (code_of kind ++ codes "]\n"))))))

-- findings of this kind are left out if its code is ignored
abbrev pub is_ignored : List Text → Warning → Bool
is_ignored ignored kind = list_any (bytes_eq (code_of kind)) ignored

-- the name of the file with this place, if files with these names and bytes were read as one
abbrev pub name_at : List Text → List Text → ℕ → Text
name_at names files place = slice_index_or names (located_in files place).0 []

-- the position of this place in its file
abbrev pub place_at : List Text → ℕ → Position
place_at files place = position_of (slice_index_or files (located_in files place).0 []) (located_in files place).1

-- the line of a finding in an item that begins at `start`, in files with these names, if its code is not ignored
abbrev pub finding_line : List Text → List Text → List Text → ℕ → Finding → Text
finding_line ignored names files start finding =
    if is_ignored ignored finding.kind then []
    else warning_line (name_at names files (start + finding.at)) (place_at files (start + finding.at)) finding.kind finding.name

-- the lines of item n, in order
abbrev pub item_lines : List Text → List Text → List Text → Reading → ℕ → Text
item_lines ignored names files db n = flat_map (finding_line ignored names files (start_of db n)) (findings_on db n)

-- the lines of the text before the first item
abbrev pub front_lines : List Text → List Text → List Text → Reading → Text
front_lines ignored names files db = flat_map (finding_line ignored names files 0) (gap_findings false 0 db.front)

-- the lines of the front and of all items, in order
abbrev pub lint_lines : List Text → List Text → List Text → Reading → Text
lint_lines ignored names files db = front_lines ignored names files db ++ flat_map (item_lines ignored names files db) (range_with_len 0 (length db.items))

-- ---- keys that aux files cite

-- a key that an aux file cites: the name of the file, and the key with its place
abbrev pub Citation : Type 0
Citation = Text × CitedKey

-- the keys that an aux file cites, in order
abbrev pub citations_in : AuxKeys → List Citation
citations_in aux = map (λ cited. (aux.file, cited)) aux.keys

-- the keys that these aux files cite, in order
abbrev pub citations : List AuxKeys → List Citation
citations files = flat_map citations_in files

-- no entry has the key
abbrev pub is_missing : List EntryTexts → Citation → Bool
is_missing entries cited = is_none (entry_named entries cited.1.key)

-- each key once, at its first place in the list; the case of ASCII letters does not count
abbrev pub first_citations : List Citation → List Citation
first_citations [] = []
first_citations (cited ∷ more) = cited ∷ filter (λ other. not (same other.1.key cited.1.key)) (first_citations more)

-- the keys among these citations that no entry has, each once, where it is cited first
abbrev pub missing_among : List EntryTexts → List Citation → List Citation
missing_among entries cited = first_citations (filter (is_missing entries) cited)

-- the line of a key that no entry has
abbrev pub missing_line : Citation → Text
missing_line cited = warning_line cited.0 (position cited.1.line cited.1.column) MissingKey cited.1.key

-- the lines of the keys that these aux files cite and no entry has, if the code of these findings is not ignored
abbrev pub missing_lines : List Text → List EntryTexts → List AuxKeys → Text
missing_lines ignored entries files = if is_ignored ignored MissingKey then [] else flat_map missing_line (missing_among entries (citations files))

-- ---- answers

-- the status is 1 where something is found
abbrev pub lint_status : Text → ℕ
lint_status lines = if is_empty lines then 0 else 1

-- the lines of all that is found: in the files, and then of the keys that aux files cite
abbrev pub found_lines : List Text → List AuxKeys → List Text → List Text → Reading → Text
found_lines ignored cited names files db = lint_lines ignored names files db ++ missing_lines ignored (entries_of db) cited

-- `lint` for valid files that were read as one: the lines, and the status that goes with them
abbrev pub files_answer : List Text → List AuxKeys → List Text → List Text → Reading → Answer
files_answer ignored cited names files db = answer_of (found_lines ignored cited names files db) [] (lint_status (found_lines ignored cited names files db))

-- `lint F` for a valid file and the keys that aux files cite (dialect)
abbrev pub lint_answer : List Text → List AuxKeys → Text → Text → Reading → Answer
lint_answer ignored cited name file db = files_answer ignored cited (name ∷ []) (file ∷ []) db

-- `name:line:column: error: N Name`, a line
abbrev pub error_line : Text → Position → ℕ → Text
error_line name at kind = placed_at name at ++ (codes "error: " ++ (decimal kind ++ (codes " " ++ (fault_name kind ++ codes "\n"))))

-- the line of a fault of reading
abbrev pub fault_line : Text → Text → Fault → Text
fault_line name file fault = error_line name (position_of file fault.place) (fault_number fault.kind)

-- a line for each of these faults, in order
abbrev pub fault_lines : Text → Text → List Fault → Text
fault_lines name file faults = flat_map (fault_line name file) faults

-- a file with this name and these bytes is not opened for this fault: a line for each fault of reading; or a line for this one if it is
-- of a file that is valid or too long
pub data IsFaultAnswer (name file : Text) (kind place : ℕ) (answer : Answer) : Type 0 where
  reading : nat_lt 7 kind ≡ false → (faults : List Fault) → Faults file faults → answer ≡ answer_of (fault_lines name file faults) [] 1
      → IsFaultAnswer name file kind place answer
  other : 7 < kind → answer ≡ answer_of (error_line name (position_of file place) kind) [] 1 → IsFaultAnswer name file kind place answer

-- `lint F --aux AUX`, where F has this name and these bytes, and the aux files cite these keys: the findings whose codes are not ignored; or each
-- fault of reading; or the one fault for which a file that has none is not opened (dialect)
pub data IsLintAnswer (ignored : List Text) (cited : List AuxKeys) (name file : Text) (answer : Answer) : Type 0 where
  opened : (db : Reading) → Opens file db → answer ≡ lint_answer ignored cited name file db → IsLintAnswer ignored cited name file answer
  faulty : length file ≤ file_limit → (HasReading file → ⊥) → (faults : List Fault) → Faults file faults → answer ≡ answer_of (fault_lines name file faults) [] 1
      → IsLintAnswer ignored cited name file answer
  refused : (kind place : ℕ) → kind ≢ 10 → 7 < kind → IsOpenFault file kind place → answer ≡ answer_of (error_line name (position_of file place) kind) [] 1
      → IsLintAnswer ignored cited name file answer
