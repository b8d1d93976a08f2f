-- `check`: what is in a file, and what is wrong with it. Each report is a line.
use Rattle.std.specs.Prelude.{ℕ, Bool, ◌==◌, ◌-◌, nat_lt, List, [], ◌∷◌, ◌++◌, length, take, map, count_by, Option, None, Some, is_none, if◌then◌else◌, option_and_then, slice_get, codes}
use Rattle.std.specs.Fmt.{decimal}
use Rattle.std.specs.List.{flat_map, list_any, range_with_len}
use Rattle.std.specs.Option.{option_map_or}
use Rattle.bib_spec.specs.Text.{Text, folded, same}
use Rattle.bib_spec.specs.Tree.{Part, Braced, Quoted, Digits, Macro, Value, Row, Tree, CommentTree, DefinitionTree, PreambleTree, EntryTree, is_comment}
use Rattle.bib_spec.specs.Reading.{Reading}
use Rattle.bib_spec.specs.Texts.{Macros, months, macros_at, is_empty, parts_of}
use Rattle.bib_spec.specs.Records.{EntryTexts, entries_of, preambles_of, crossref_text, target, is_repeated}
use Rattle.bib_scan.specs.View.{kind_of, key_of}
use Rattle.bib_scan.specs.declared.view.Kind.{Kind}
use Rattle.bib_scan.specs.declared.view.Kind.TheVariants as kind
use Rattle.bib_value.specs.Macros.{is_own}
use Rattle.bib_store.specs.Readings.{entry_items}
use Rattle.bib_definitions.specs.Definitions.{is_definition_tree}
use Rattle.bib_answers.specs.declared.answers.Answer.{Answer}
use Rattle.bib_answers.specs.Outcome.{answer_of}

-- ---- counts

-- how many items pass the test
abbrev pub count_items : (Tree → Bool) → Reading → ℕ
count_items test db = count_by (λ item. test item.tree) db.items

-- how many items, entries, macro definitions, preambles and comments there are, a line each (dialect)
abbrev pub count_lines : ℕ → ℕ → ℕ → ℕ → ℕ → Text
count_lines items entries definitions preambles comments =
    codes "items " ++ (decimal items
    ++ (codes "\nentries " ++ (decimal entries
    ++ (codes "\nmacros " ++ (decimal definitions
    ++ (codes "\npreambles " ++ (decimal preambles
    ++ (codes "\ncomments " ++ (decimal comments ++ codes "\n")))))))))

-- ---- lines

-- a report: words, and a name or key, a line
abbrev pub report : Text → Text → Text
report said name = said ++ (codes " " ++ (name ++ codes "\n"))

-- a report: words, a key, and a name or text, a line
abbrev pub report_both : Text → Text → Text → Text
report_both said key name = said ++ (codes " " ++ (key ++ (codes " " ++ (name ++ codes "\n"))))

-- ---- uses

-- a part uses the macro that is being defined, or else a macro that has no text there (dialect)
abbrev pub use_report : Option Text → Macros → Part → Text
use_report own macros (Macro name) =
    if is_own own (folded name) then report (codes "own macro") name
    else if is_none (macros (folded name)) then report (codes "undefined macro") name
    else []
use_report own macros (Braced t) = []
use_report own macros (Quoted t) = []
use_report own macros (Digits t) = []

-- the reports on a value's uses of macros, in order
abbrev pub use_reports : Option Text → Macros → Value → Text
use_reports own macros v = flat_map (use_report own macros) (parts_of v)

-- ---- fields

-- a field of an item: its name and its value
abbrev pub Assigned : Type 0
Assigned = Text × Value

-- the field that a row gives
abbrev pub row_assigned : Row → Assigned
row_assigned row = (row.assignment.name, row.assignment.value)

-- the fields of an item, in order; that of a preamble has no name
abbrev pub assigned : Tree → List Assigned
assigned (CommentTree h) = []
assigned (DefinitionTree d) = (d.assignment.name, d.assignment.value) ∷ []
assigned (PreambleTree p) = ([], p.value) ∷ []
assigned (EntryTree e) = map row_assigned e.rows

-- the macro that a field of this name defines, in an item of this kind
abbrev pub defined_in : Kind → Text → Option Text
defined_in kind.Macro name = Some name
defined_in kind.Entry name = None
defined_in kind.Preamble name = None
defined_in kind.Comment name = None

-- an earlier field has this name (dialect)
abbrev pub extra_report : Text → List Text → Text → Text
extra_report key earlier name = if list_any (same name) earlier then report_both (codes "extra field") key name else []

-- the reports on fields that come after fields with the names `earlier`
abbrev pub field_reports : (Text → Option Text) → Macros → Text → List Text → List Assigned → Text
field_reports own macros key earlier [] = []
field_reports own macros key earlier (field ∷ fields) =
    extra_report key earlier field.0 ++ (use_reports (own field.0) macros field.1 ++ field_reports own macros key (field.0 ∷ earlier) fields)

-- ---- entries

-- the text if the item is an entry, and else nothing
abbrev pub of_entry : Kind → Text → Text
of_entry kind.Entry text = text
of_entry kind.Macro text = []
of_entry kind.Preamble text = []
of_entry kind.Comment text = []

-- an earlier entry has the key
abbrev pub repeated_report : Bool → Text → Text
repeated_report repeated key = if repeated then report (codes "repeated entry") key else []

-- a crossref of entry n that names no entry, or its own, or one before it (dialect)
abbrev pub target_report : Text → ℕ → Text → Option ℕ → Text
target_report key n text None = report_both (codes "missing crossref") key text
target_report key n text (Some m) =
    if m == n then report (codes "self crossref") key
    else if nat_lt m n then report (codes "parent before") key
    else []

-- an empty crossref text is not reported (dialect)
abbrev pub crossref_report : Text → ℕ → Option Text → Option ℕ → Text
crossref_report key n None target = []
crossref_report key n (Some text) target = if is_empty text then [] else target_report key n text target

-- ---- items

-- the reports on an item, at which the macros have these texts; if it is an entry, it is entry n
abbrev pub item_reports : List EntryTexts → Macros → ℕ → Tree → Text
item_reports entries macros n tree =
    of_entry (kind_of tree) (repeated_report (is_repeated entries n) (key_of tree))
    ++ (field_reports (defined_in (kind_of tree)) macros (key_of tree) [] (assigned tree)
    ++ of_entry (kind_of tree) (crossref_report (key_of tree) n (option_and_then crossref_text (slice_get entries n)) (target entries n)))

-- how many entries come before item n
abbrev pub entries_before : Reading → ℕ → ℕ
entries_before db n = length (entry_items (take n db.items))

-- the reports on item n
abbrev pub reports_on : Reading → ℕ → Text
reports_on db n =
    option_map_or (λ item. item_reports (entries_of db) (macros_at months db.items n) (entries_before db n) item.tree) (slice_get db.items n) []

-- the reports on all items, in order
abbrev pub all_reports : Reading → Text
all_reports db = flat_map (reports_on db) (range_with_len 0 (length db.items))

-- the output of `check` over files with this many seams between them, none of which is counted: the counts, and then the reports
abbrev pub checked_without : ℕ → Reading → Text
checked_without seams db =
    count_lines (length db.items - seams) (length (entries_of db)) (count_items is_definition_tree db) (length (preambles_of db)) (count_items is_comment db - seams)
    ++ all_reports db

-- `check F` over files with this many seams between them
abbrev pub check_answer_without : ℕ → Reading → Answer
check_answer_without seams db = answer_of (checked_without seams db) [] 0

-- the output of `check`: the counts, and then the reports
abbrev pub checked : Reading → Text
checked db =
    count_lines (length db.items) (length (entries_of db)) (count_items is_definition_tree db) (length (preambles_of db)) (count_items is_comment db)
    ++ all_reports db

-- `check F`: the counts and reports, with status 0 (dialect)
abbrev pub check_answer : Reading → Answer
check_answer db = answer_of (checked db) [] 0
