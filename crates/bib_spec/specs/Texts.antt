-- What values say: macros, raw texts, field texts.
use Rattle.std.specs.Prelude.{ℕ, ◌≡◌, ◌+◌, ◌≤◌, Bool, true, false, not, nat_lt, List, [], ◌∷◌, ◌++◌, length, take, Option, Some, None, unwrap_or, option_map, if◌then◌else◌, bytes_eq, codes, map, filter, find, fold, scan, zip}
use Rattle.std.specs.List.{flat_map, join_with_byte}
use Rattle.bib_spec.specs.Bytes.{space, comma, equals_sign, file_limit}
use Rattle.bib_spec.specs.Text.{Text, is_space, folded}
use Rattle.bib_spec.specs.Tree.{Part, Braced, Quoted, Digits, Macro, Value, Assignment, Row, Tree, CommentTree, DefinitionTree, PreambleTree, EntryTree, row_bytes, opening_bytes}
use Rattle.bib_spec.specs.Reading.{Item, Reading, item_bytes, Reads}

-- the text has no byte
abbrev pub is_empty : Text → Bool
is_empty [] = true
is_empty (b ∷ t) = false

-- ---- macros

-- the text that each folded name stands for, if any
abbrev pub Macros : Type 0
Macros = Text → Option Text

-- the same macros, except that this name now stands for this text (None: for nothing)
abbrev pub updated : Macros → Text → Option Text → Macros
updated macros name text = λ x. if bytes_eq x (folded name) then text else macros x

-- the twelve macros that are defined from the start, with the texts of the style `plain` (btxhak 5.2; dialect)
abbrev pub month_names : List (Text × Text)
month_names =
    (codes "jan", codes "January") ∷ (codes "feb", codes "February") ∷ (codes "mar", codes "March") ∷ (codes "apr", codes "April")
    ∷ (codes "may", codes "May") ∷ (codes "jun", codes "June") ∷ (codes "jul", codes "July") ∷ (codes "aug", codes "August")
    ∷ (codes "sep", codes "September") ∷ (codes "oct", codes "October") ∷ (codes "nov", codes "November") ∷ (codes "dec", codes "December") ∷ []

-- the macros before the first item of a file
unfoldable pub months : Macros
months name = option_map (λ m. m.1) (find (λ m. bytes_eq m.0 name) month_names)

-- ---- raw texts

-- the parts of a value, in order
abbrev pub parts_of : Value → List Part
parts_of v = v.first ∷ map (λ l. l.part) v.links

-- what a part says: its content, or what the macro stands for, which is nothing if it is undefined (dialect)
abbrev pub part_text : Macros → Part → Text
part_text macros (Braced t) = t
part_text macros (Quoted t) = t
part_text macros (Digits t) = t
part_text macros (Macro name) = unwrap_or (macros (folded name)) []

-- what a value says: what its parts say, joined (btxdoc 2.1)
abbrev pub raw_text : Macros → Value → Text
raw_text macros v = flat_map (part_text macros) (parts_of v)

-- the values of an item, in order
abbrev pub values_of : Tree → List Value
values_of (CommentTree h) = []
values_of (DefinitionTree d) = d.assignment.value ∷ []
values_of (PreambleTree p) = p.value ∷ []
values_of (EntryTree e) = map (λ row. row.assignment.value) e.rows

-- The macros by which an item's values are read, given the macros before the item: in its own definition a macro stands for
-- nothing. (dialect)
abbrev pub macros_in : Macros → Tree → Macros
macros_in macros (DefinitionTree d) = updated macros d.assignment.name None
macros_in macros (CommentTree h) = macros
macros_in macros (PreambleTree p) = macros
macros_in macros (EntryTree e) = macros

-- The macros after an item, given the macros before it: for the items that follow, a definition replaces an earlier one, or
-- a month. (btxhak 5.2)
abbrev pub macros_after : Macros → Tree → Macros
macros_after macros (DefinitionTree d) =
    updated macros d.assignment.name (Some (raw_text (macros_in macros (DefinitionTree d)) d.assignment.value))
macros_after macros (CommentTree h) = macros
macros_after macros (PreambleTree p) = macros
macros_after macros (EntryTree e) = macros

-- the macros before item n, given the macros before the first item
abbrev pub macros_at : Macros → List Item → ℕ → Macros
macros_at macros items n = fold (λ m item. macros_after m item.tree) macros (take n items)

-- each item with the macros before it
abbrev pub with_macros : Macros → List Item → List (Macros × Item)
with_macros macros items = scan (λ m item. macros_after m item.tree) (λ m item. (m, item)) macros items

-- what the function `say` gives for each item under the macros before it, in file order
abbrev pub gathered : {X : Type 0} → (Macros → Tree → List X) → Macros → List Item → List X
gathered say macros items = flat_map (λ p. say p.0 p.1.tree) (with_macros macros items)

-- what the name stands for at item n; at the end of the file, if n is the number of items
abbrev pub seen : Reading → ℕ → Text → Option Text
seen db n name = macros_at months db.items n (folded name)

-- ---- field texts

-- the texts, with this byte put before the first
abbrev pub onto_first : ℕ → List Text → List Text
onto_first b [] = (b ∷ []) ∷ []
onto_first b (word ∷ words) = (b ∷ word) ∷ words

-- the texts between the bytes of white space; some may be empty
abbrev pub words : Text → List Text
words [] = [] ∷ []
words (b ∷ t) = if is_space b then [] ∷ words t else onto_first b (words t)

-- each run of white space is made one space, and none is left at the ends (as BibTeX does; once, after the parts are joined:
-- dialect)
unfoldable pub field_text : Text → Text
field_text t = join_with_byte space (filter (λ word. not (is_empty word)) (words t))

-- ---- texts that are too long

-- the longest raw text, in bytes (dialect)
abbrev pub raw_limit : ℕ
raw_limit = 1048576

-- the raw texts of an item's values, given the macros before it
abbrev pub raw_texts_in : Macros → Tree → List Text
raw_texts_in macros tree = map (raw_text (macros_in macros tree)) (values_of tree)

-- the bytes of an assignment before its value
abbrev pub bytes_before_value : Assignment → Text
bytes_before_value a = a.name ++ (a.space_before_equals ++ equals_sign ∷ a.space_before_value)

-- the bytes of a row before its value
abbrev pub row_start : Row → Text
row_start row = comma ∷ row.space_before_name ++ bytes_before_value row.assignment

-- the places of the rows' values, if the first row begins at this place
abbrev pub row_places : ℕ → List Row → List ℕ
row_places at [] = []
row_places at (row ∷ rows) =
    (at + length (row_start row)) ∷ row_places (at + length (row_bytes row)) rows

-- the places of an item's values in its body
abbrev pub value_places : Tree → List ℕ
value_places (CommentTree h) = []
value_places (DefinitionTree d) = length (opening_bytes d.opening ++ bytes_before_value d.assignment) ∷ []
value_places (PreambleTree p) = length (opening_bytes p.opening) ∷ []
value_places (EntryTree e) = row_places (length (opening_bytes e.opening ++ (e.key ++ e.space_after_key))) e.rows

-- the raw texts of items, each with the place of its value, if the first item begins at this place
abbrev pub raw_texts_from : ℕ → Macros → List Item → List (ℕ × Text)
raw_texts_from at macros [] = []
raw_texts_from at macros (item ∷ items) =
    zip (map (λ place. at + place) (value_places item.tree)) (raw_texts_in macros item.tree)
    ++ raw_texts_from (at + length (item_bytes item)) (macros_after macros item.tree) items

-- the place of the first value whose raw text is too long
abbrev pub too_long_at : Reading → Option ℕ
too_long_at db = option_map (λ p. p.0) (find (λ p. nat_lt raw_limit (length p.1)) (raw_texts_from (length db.front) months db.items))

-- the file can be opened, and the database is the file taken apart
pub record Opens (file : Text) (db : Reading) : Type 0 where
  pub reads : Reads file db
  pub short : length file ≤ file_limit
  pub texts : too_long_at db ≡ None

-- the text is a file that can be opened
abbrev pub IsOpenable : Text → Type 0
IsOpenable file = (db : Reading) × Opens file db
