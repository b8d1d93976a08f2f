-- Entries as their readers see them: effective fields, targets, parents, records, cited lists.
use Rattle.std.specs.Prelude.{ℕ, zero, suc, ◌≤◌, Bool, false, not, ◌&&◌, ◌==◌, nat_le, List, [], ◌∷◌, ◌++◌, length, take, Option, Some, None, is_none, if◌then◌else◌, bytes_eq, codes, filter, filter_map, find, map, option_map, option_and_then, slice_get, count_by}
use Rattle.std.specs.List.{list_any, enumerate_from, range_with_len}
use Rattle.std.specs.Option.{option_map_or}
use Rattle.bib_spec.specs.Text.{Text, folded, same}
use Rattle.bib_spec.specs.Tree.{Row, Entry, Tree, CommentTree, DefinitionTree, PreambleTree, EntryTree}
use Rattle.bib_spec.specs.Reading.{Reading}
use Rattle.bib_spec.specs.Texts.{is_empty, Macros, months, raw_text, gathered, field_text}

-- ---- entries

-- a field with its raw text
pub record Field : Type 0 where
  pub name : Text
  pub raw : Text

-- an entry with the raw texts of its fields, in order
pub record EntryTexts : Type 0 where
  pub kind : Text
  pub key : Text
  pub fields : List Field

-- a row as a field, under these macros
abbrev pub field_of : Macros → Row → Field
field_of macros row = record { name = row.assignment.name; raw = raw_text macros row.assignment.value }

-- an entry of the grammar as its raw texts, under these macros
abbrev pub texts_of : Macros → Entry → EntryTexts
texts_of macros e = record { kind = e.opening.head.type_name; key = e.key; fields = map (field_of macros) e.rows }

-- the entry that an item is, or nothing for other items
abbrev pub entry_in : Macros → Tree → List EntryTexts
entry_in macros (EntryTree e) = texts_of macros e ∷ []
entry_in macros (CommentTree h) = []
entry_in macros (DefinitionTree d) = []
entry_in macros (PreambleTree p) = []

-- the raw text of a preamble, or nothing for other items
abbrev pub preamble_in : Macros → Tree → List Text
preamble_in macros (PreambleTree p) = raw_text macros p.value ∷ []
preamble_in macros (CommentTree h) = []
preamble_in macros (DefinitionTree d) = []
preamble_in macros (EntryTree e) = []

-- the entries of a file, in order; they are numbered from 0
abbrev pub entries_of : Reading → List EntryTexts
entries_of db = gathered entry_in months db.items

-- the raw texts of a file's preambles, in order
abbrev pub preambles_of : Reading → List Text
preambles_of db = gathered preamble_in months db.items

-- ---- fields

-- the name of the field that names a parent (btxdoc 2.1)
abbrev pub crossref : Text
crossref = codes "crossref"

-- the field has this name (btxhak 5.1)
abbrev pub has_name : Text → Field → Bool
has_name name field = same field.name name

-- the first field of each name; later fields with that name do not count (dialect)
abbrev pub effective : List Field → List Field
effective [] = []
effective (field ∷ fields) = field ∷ filter (λ other. not (has_name field.name other)) (effective fields)

-- the field text of an entry's first `crossref` field, if it has one
abbrev pub crossref_text : EntryTexts → Option Text
crossref_text entry = option_map (λ field. field_text field.raw) (find (has_name crossref) entry.fields)

-- ---- keys and crossrefs

-- the text names the key: the two are the same, and not empty (btxdoc 3.2; folded: dialect)
abbrev pub is_named : Text → Text → Bool
is_named text key = not (is_empty key) && same key text

-- the number of the first key that the text names, if any
abbrev pub first_named : Text → List Text → Option ℕ
first_named text [] = None
first_named text (key ∷ keys) = if is_named text key then Some 0 else option_map suc (first_named text keys)

-- the keys of the entries, in order
abbrev pub keys_of : List EntryTexts → List Text
keys_of entries = map (λ entry. entry.key) entries

-- the number of the entry that a key finds: the first that has it (dialect)
abbrev pub entry_named : List EntryTexts → Text → Option ℕ
entry_named entries text = first_named text (keys_of entries)

-- an earlier entry has the key of entry n (dialect)
abbrev pub is_repeated : List EntryTexts → ℕ → Bool
is_repeated entries n = option_map_or (λ entry. list_any (is_named entry.key) (keys_of (take n entries))) (slice_get entries n) false

-- the number of the entry that an entry's crossref names, if any
abbrev pub target_of : List EntryTexts → EntryTexts → Option ℕ
target_of entries entry = option_and_then (entry_named entries) (crossref_text entry)

-- the target of entry n: the entry that its crossref names, wherever that is in the file (btxdoc 2.1; dialect)
abbrev pub target : List EntryTexts → ℕ → Option ℕ
target entries n = option_and_then (target_of entries) (slice_get entries n)

-- m, unless it is n
abbrev pub other_than : ℕ → ℕ → Option ℕ
other_than n m = if m == n then None else Some m

-- the parent of entry n: its target, if the target is another entry
abbrev pub parent : List EntryTexts → ℕ → Option ℕ
parent entries n = option_and_then (other_than n) (target entries n)

-- the entry's crossref text, if it names no entry
abbrev pub dangling_text : List EntryTexts → EntryTexts → Option Text
dangling_text entries entry = if is_none (target_of entries entry) then crossref_text entry else None

-- all crossref texts that name no entry, in file order
abbrev pub dangling_texts : List EntryTexts → List Text
dangling_texts entries = filter_map (dangling_text entries) entries

-- ---- records

-- a field of a record: its name in lower case, and its field text
abbrev pub RecordField : Type 0
RecordField = Text × Text

-- what a bibliography style gets of an entry: its type, key and fields (btxhak 5.1)
pub record Record : Type 0 where
  pub kind_name : Text
  pub key : Text
  pub fields : List RecordField

-- a field as a record has it
abbrev pub record_field : Field → RecordField
record_field field = (folded field.name, field_text field.raw)

-- an entry's own fields for its record: the effective ones, without `crossref`
abbrev pub own_fields : EntryTexts → List RecordField
own_fields entry = map record_field (filter (λ field. not (has_name crossref field)) (effective entry.fields))

-- the fields of the second list whose names the first list does not have
abbrev pub missing : List RecordField → List RecordField → List RecordField
missing own fields = filter (λ field. not (list_any (λ other. same other.0 field.0) own)) fields

-- the greatest depth: the length of the longest chain of parents from which an entry can inherit (dialect)
abbrev pub depth_limit : ℕ
depth_limit = 8

-- entries inherit from their parents alone, as in BibTeX (btxdoc 2.1)
abbrev pub default_depth : ℕ
default_depth = 1

-- a depth that a caller may choose: 1 to `depth_limit`
pub record IsDepth (depth : ℕ) : Type 0 where
  pub least : 1 ≤ depth
  pub most : depth ≤ depth_limit

-- the entry's number, unless it was visited
abbrev pub unvisited : List ℕ → ℕ → Option ℕ
unvisited visited m = if list_any (λ v. v == m) visited then None else Some m

-- the parent, its parent and so on: at most `depth` of them, and none that was visited before
abbrev pub ancestors_from : (ℕ → Option ℕ) → ℕ → List ℕ → ℕ → List ℕ
ancestors_from parents zero visited n = []
ancestors_from parents (suc depth) visited n =
    option_map_or (λ m. m ∷ ancestors_from parents depth (m ∷ visited) m) (option_and_then (unvisited visited) (parents n)) []

-- the entries from which entry n inherits at this depth, nearest first; at depth 1 its parent alone (dialect)
abbrev pub ancestors : List EntryTexts → ℕ → ℕ → List ℕ
ancestors entries depth n = ancestors_from (parent entries) depth (n ∷ []) n

-- the own fields of entry n
abbrev pub fields_at : List EntryTexts → ℕ → List RecordField
fields_at entries n = option_map_or own_fields (slice_get entries n) []

-- the own fields, then the fields of each of these entries in turn whose names are still missing (btxdoc 2.1)
abbrev pub with_inherited : List EntryTexts → List RecordField → List ℕ → List RecordField
with_inherited entries own [] = own
with_inherited entries own (n ∷ ns) = with_inherited entries (own ++ missing own (fields_at entries n)) ns

-- the record of entry n at this depth: its type in lower case, its key unchanged, its own fields and the inherited ones
abbrev pub record_of : ℕ → List EntryTexts → ℕ → EntryTexts → Record
record_of depth entries n entry = record {
  kind_name = folded entry.kind;
  key = entry.key;
  fields = with_inherited entries (own_fields entry) (ancestors entries depth n);
}

-- the record of entry n at this depth, if there is such an entry
abbrev pub expanded : ℕ → List EntryTexts → ℕ → Option Record
expanded depth entries n = option_map (record_of depth entries n) (slice_get entries n)

-- ---- cited lists

-- the numbers of all entries: 0, 1, and so on
abbrev pub numbers_of : List EntryTexts → List ℕ
numbers_of entries = range_with_len 0 (length entries)

-- each number once, at its first place in the list
abbrev pub once : List ℕ → List ℕ
once [] = []
once (n ∷ ns) = n ∷ filter (λ m. not (m == n)) (once ns)

-- the entries that the keys name, each once, in the order of first citation
abbrev pub cited_by_key : List EntryTexts → List Text → List ℕ
cited_by_key entries keys = once (filter_map (entry_named entries) keys)

-- entry m is the parent of entry n
abbrev pub is_parent_of : List EntryTexts → ℕ → ℕ → Bool
is_parent_of entries m n = option_map_or (λ p. p == m) (parent entries n) false

-- the listed entries, and then, in file order, the other entries that are the parent of at least `min` of them
-- (btxdoc 2.1; dialect)
abbrev pub with_parents : List EntryTexts → ℕ → List ℕ → List ℕ
with_parents entries min listed =
    listed ++ filter (λ m. not (list_any (λ n. n == m) listed) && nat_le min (count_by (is_parent_of entries m) listed)) (numbers_of entries)

-- the list is one key, `*`
abbrev pub cites_all : List Text → Bool
cites_all [] = false
cites_all (key ∷ []) = bytes_eq key (codes "*")
cites_all (key ∷ other ∷ keys) = false

-- the cited list of these keys; the one key `*` cites all entries, in file order (btxdoc 2.1; dialect)
abbrev pub listed : List EntryTexts → List Text → ℕ → List ℕ
listed entries keys min = if cites_all keys then numbers_of entries else with_parents entries min (cited_by_key entries keys)

-- the positions, in the list, of the keys that find no entry; for the one key `*` there are none
abbrev pub unknown : List EntryTexts → List Text → List ℕ
unknown entries keys = if cites_all keys then [] else map (λ p. p.0) (filter (λ p. is_none (entry_named entries p.1)) (enumerate_from 0 keys))
