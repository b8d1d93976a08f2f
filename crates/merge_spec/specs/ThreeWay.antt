-- What a merge makes of a unit that a common file, our file and their file have in up to three forms.
use Rattle.std.specs.Prelude.{Bool, true, false, ◌&&◌, ◌||◌, not, List, [], ◌∷◌, ◌++◌, map, find, Option, Some, None, is_some, is_none, option_map, option_and_then, bytes_eq}
use Rattle.std.specs.List.{list_all, list_any}
use Rattle.bib_spec.specs.Text.{Text, is_space, same}
use Rattle.bib_spec.specs.Tree.{Row, Head, Opening, Definition, Entry, Tree, CommentTree, DefinitionTree, PreambleTree, EntryTree, value_bytes}
use Rattle.bib_spec.specs.Texts.{Macros, raw_text, macros_in, field_text, row_start}
use Rattle.merge_spec.specs.Units.{Unit, unit_bytes}

-- ---- what entries and definitions say

-- a field, by its value and what macros stand for there
pub record Said : Type 0 where
  pub bytes : Text
  pub text : Text

-- the two are the same, or both are absent
abbrev pub alike : {X : Type 0} → (X → X → Bool) → Option X → Option X → Bool
alike test None None = true
alike test (Some a) (Some b) = test a b
alike test None (Some b) = false
alike test (Some a) None = false

-- the row has this name
abbrev pub is_row : Text → Row → Bool
is_row name row = same row.assignment.name name

-- the value of a field and its field text, or nothing if the entry does not have the field
abbrev pub said_in : Macros → List Row → Text → Option Said
said_in macros rows name =
    option_map (λ row. record { bytes = value_bytes row.assignment.value; text = field_text (raw_text macros row.assignment.value) }) (find (is_row name) rows)

-- the names of the rows, in order
abbrev pub names_of : List Row → List Text
names_of rows = map (λ row. row.assignment.name) rows

-- no name is there twice, whatever its case
abbrev pub are_single : List Text → Bool
are_single [] = true
are_single (name ∷ names) = not (list_any (same name) names) && are_single names

-- for each of these names the two lists of rows have the same field text, or both lack the field
abbrev pub agree_on : List Text → Macros → List Row → Macros → List Row → Bool
agree_on names ma a mb b = list_all (λ name. alike (λ x y. bytes_eq x.text y.text) (said_in ma a name) (said_in mb b name)) names

-- the two entries have the same type, and the same fields with the same texts, each in its own file
abbrev pub entries_agree : Macros → Entry → Macros → Entry → Bool
entries_agree ma a mb b =
    same a.opening.head.type_name b.opening.head.type_name
    && are_single (names_of a.rows) && are_single (names_of b.rows)
    && agree_on (names_of a.rows ++ names_of b.rows) ma a.rows mb b.rows

-- the two definitions have the same value, or it has the same raw text, each in its own file
abbrev pub definitions_agree : Macros → Definition → Macros → Definition → Bool
definitions_agree ma a mb b =
    bytes_eq (value_bytes a.assignment.value) (value_bytes b.assignment.value)
    || bytes_eq (raw_text (macros_in ma (DefinitionTree a)) a.assignment.value) (raw_text (macros_in mb (DefinitionTree b)) b.assignment.value)

-- two items say the same; only entries and definitions say anything
abbrev pub trees_agree : Macros → Tree → Macros → Tree → Bool
trees_agree ma (EntryTree a) mb (EntryTree b) = entries_agree ma a mb b
trees_agree ma (DefinitionTree a) mb (DefinitionTree b) = definitions_agree ma a mb b
trees_agree ma (EntryTree a) mb (DefinitionTree b) = false
trees_agree ma (EntryTree a) mb (PreambleTree b) = false
trees_agree ma (EntryTree a) mb (CommentTree b) = false
trees_agree ma (DefinitionTree a) mb (EntryTree b) = false
trees_agree ma (DefinitionTree a) mb (PreambleTree b) = false
trees_agree ma (DefinitionTree a) mb (CommentTree b) = false
trees_agree ma (PreambleTree a) mb b = false
trees_agree ma (CommentTree a) mb b = false

-- ---- one side against the other

-- the two units have the same bytes
abbrev pub same_bytes : Unit → Unit → Bool
same_bytes a b = bytes_eq (unit_bytes a) (unit_bytes b)

-- both are items, and say the same
abbrev pub both_agree : Macros → Option Tree → Macros → Option Tree → Bool
both_agree ma (Some a) mb (Some b) = trees_agree ma a mb b
both_agree ma None mb b = false
both_agree ma (Some a) mb None = false

-- the two units have the same bytes, or say the same
abbrev pub says_the_same : Unit → Unit → Bool
says_the_same a b = same_bytes a b || both_agree a.macros a.tree b.macros b.tree

-- a side has the unit as the common file has it, byte for byte, or both lack it
abbrev pub is_left : Option Unit → Option Unit → Bool
is_left = alike same_bytes

-- a side has the unit as the common file has it, or says the same in other bytes; or both lack it
abbrev pub is_unchanged : Option Unit → Option Unit → Bool
is_unchanged = alike says_the_same

-- ---- by fields

-- the two fields have the same value, byte for byte
abbrev pub same_value : Said → Said → Bool
same_value x y = bytes_eq x.bytes y.bytes

-- the two fields have the same value, or it says the same in other bytes
abbrev pub fields_agree : Said → Said → Bool
fields_agree x y = bytes_eq x.bytes y.bytes || bytes_eq x.text y.text

-- The field of the merged entry is ours, if they left it or we agree with them; it is theirs, if we left it. Fields are left if
-- they say what they said.
abbrev pub is_field_of_three : Option Said → Option Said → Option Said → Option Said → Bool
is_field_of_three b o t merged =
    (alike same_value merged o && (alike fields_agree b t || alike fields_agree o t)) || (alike same_value merged t && alike fields_agree b o)

-- the type is ours, if they left it or we agree with them; it is theirs, if we left it
abbrev pub is_type_of_three : Text → Text → Text → Text → Bool
is_type_of_three b o t merged = (bytes_eq merged o && (same b t || same o t)) || (bytes_eq merged t && same b o)

-- our entry with another type, key, white space after the key, and rows
abbrev pub entry_like : Entry → Text → Text → Text → List Row → Entry
entry_like o kind key space rows =
    let head : Head = o.opening.head in
    let opening : Opening = o.opening in
    record o { opening = record opening { head = record head { type_name = kind } }; key = key; space_after_key = space; rows = rows }

-- the bytes before the value of each of these rows are those of one of the others
abbrev pub begin_as : List Row → List Row → Bool
begin_as rows others = list_all (λ row. list_any (λ other. bytes_eq (row_start row) (row_start other)) others) rows

-- only white space follows the value of each of these rows
abbrev pub end_in_space : List Row → Bool
end_in_space rows = list_all (λ row. list_all is_space row.assignment.space_after) rows

-- what three macros tables make of a field of each of four entries
abbrev pub is_row_of_three : Macros → Entry → Macros → Entry → Macros → Entry → List Row → Text → Bool
is_row_of_three mb b mo o mt t rows name =
    -- values of the merged entry are compared by their bytes alone
    is_field_of_three (said_in mb b.rows name) (said_in mo o.rows name) (said_in mt t.rows name) (said_in mo rows name)

-- The type, the key and these rows are those of our entry with their changes: each field once, each type, key, beginning of a row
-- and value from one of the two sides, and white space between them.
abbrev pub is_mixed : Macros → Entry → Macros → Entry → Macros → Entry → Text → Text → Text → List Row → Bool
is_mixed mb b mo o mt t kind key space rows =
    are_single (names_of b.rows) && are_single (names_of o.rows) && are_single (names_of t.rows) && are_single (names_of rows)
    && is_type_of_three b.opening.head.type_name o.opening.head.type_name t.opening.head.type_name kind
    && (bytes_eq key o.key || bytes_eq key t.key)
    && list_all is_space space && end_in_space rows
    && begin_as rows (o.rows ++ t.rows)
    && list_all (is_row_of_three mb b mo o mt t rows) (names_of (b.rows ++ o.rows ++ t.rows ++ rows))

-- ---- one unit of three

-- what becomes of a unit
pub data Outcome : Type 0 where
  -- our bytes, or their bytes
  Ours Theirs : Outcome
  -- our entry with this type, this key, this white space after the key, and these rows
  Mixed : Text → Text → Text → List Row → Outcome
  -- neither
  Gone : Outcome
  -- both, between markers
  Both : Outcome

-- both versions of the unit stay, between markers
abbrev pub are_both : Outcome → Bool
are_both Ours = false
are_both Theirs = false
are_both (Mixed kind key space rows) = false
are_both Gone = false
are_both Both = true

-- the entry that a tree is, with what macros stand for before it
abbrev pub entry_with : Macros → Option Tree → Option (Macros × Entry)
entry_with macros (Some (EntryTree e)) = Some (macros, e)
entry_with macros (Some (DefinitionTree d)) = None
entry_with macros (Some (PreambleTree p)) = None
entry_with macros (Some (CommentTree h)) = None
entry_with macros None = None

-- the entry that a unit is, if it is one
abbrev pub entry_of : Option Unit → Option (Macros × Entry)
entry_of u = option_and_then (λ v. entry_with v.macros v.tree) u

-- the three are entries, and are mixed so
abbrev pub may_mix : Option (Macros × Entry) → Option (Macros × Entry) → Option (Macros × Entry) → Text → Text → Text → List Row → Bool
may_mix (Some b) (Some o) (Some t) kind key space rows = is_mixed b.0 b.1 o.0 o.1 t.0 t.1 kind key space rows
may_mix None o t kind key space rows = false
may_mix (Some b) None t kind key space rows = false
may_mix (Some b) (Some o) None kind key space rows = false

-- ours stays if they left the unit, or say what we say
abbrev pub may_be_ours : Option Unit → Option Unit → Option Unit → Bool
may_be_ours b o t = is_some o && (is_unchanged b t || is_unchanged o t)

-- theirs is taken if we left the unit
abbrev pub may_be_theirs : Option Unit → Option Unit → Option Unit → Bool
may_be_theirs b o t = is_some t && is_left b o

-- the unit goes if a side took it away and the other left it, or both took it away
abbrev pub may_go : Option Unit → Option Unit → Option Unit → Bool
may_go b o t = (is_none o && is_unchanged b t) || (is_none t && is_unchanged b o) || (is_none o && is_none t)

-- What may become of a unit, given its form in the common file, in ours and in theirs. Both stay only if neither ours nor theirs
-- may be taken and the unit may not go: each side has changed it, or added it, or one has changed it and the other took it away.
abbrev pub may_become : Option Unit → Option Unit → Option Unit → Outcome → Bool
may_become b o t Ours = may_be_ours b o t
may_become b o t Theirs = may_be_theirs b o t
may_become b o t (Mixed kind key space rows) = may_mix (entry_of b) (entry_of o) (entry_of t) kind key space rows
may_become b o t Gone = may_go b o t
may_become b o t Both = not (may_be_ours b o t || may_be_theirs b o t || may_go b o t)
