-- The extract of a file: the entries that are cited, and all that they need.
use Rattle.std.specs.Prelude.{ℕ, zero, suc, Bool, true, false, not, ◌||◌, ◌==◌, List, [], ◌∷◌, ◌++◌, length, if◌then◌else◌, filter, filter_map, map}
use Rattle.std.specs.List.{flat_map, list_any, take_while}
use Rattle.bib_spec.specs.Bytes.{line_feed}
use Rattle.bib_spec.specs.Text.{Text, is_space, same}
use Rattle.bib_spec.specs.Tree.{Part, Braced, Quoted, Digits, Macro, Value, Tree, CommentTree, DefinitionTree, PreambleTree, EntryTree}
use Rattle.bib_spec.specs.Reading.{Item, Reading}
use Rattle.bib_spec.specs.Texts.{parts_of, values_of}
use Rattle.bib_spec.specs.Records.{EntryTexts, entries_of, numbers_of, cites_all, entry_named, ancestors}

-- ---- the entries that are kept

-- the entries that the keys find, in the order of the keys; the one key `*` finds all
abbrev pub found : List EntryTexts → List Text → List ℕ
found entries keys = if cites_all keys then numbers_of entries else filter_map (entry_named entries) keys

-- entry n is in the list, or an entry of the list inherits from entry n along a chain of any length
abbrev pub is_kept_entry : List EntryTexts → List ℕ → ℕ → Bool
is_kept_entry entries list n = list_any (λ c. c == n || list_any (λ a. a == n) (ancestors entries (length entries) c)) list

-- ---- the names that an item uses

-- the name that a part uses, or nothing for other parts
abbrev pub name_in : Part → List Text
name_in (Macro name) = name ∷ []
name_in (Braced t) = []
name_in (Quoted t) = []
name_in (Digits t) = []

-- the names that a value uses, in order
abbrev pub names_in : Value → List Text
names_in v = flat_map name_in (parts_of v)

-- the names without this one, folded
abbrev pub without : Text → List Text → List Text
without name names = filter (λ other. not (same name other)) names

-- the names without the name that the item defines
abbrev pub without_defined : Tree → List Text → List Text
without_defined (DefinitionTree d) names = without d.assignment.name names
without_defined (CommentTree h) names = names
without_defined (PreambleTree p) names = names
without_defined (EntryTree e) names = names

-- the names that an item uses; in its own definition a macro stands for nothing, so that use does not count
abbrev pub used_by : Tree → List Text
used_by tree = without_defined tree (flat_map names_in (values_of tree))

-- ---- the items that are kept

-- the number of the next entry after the item, if n is the number of the next entry before it
abbrev pub number_after : ℕ → Tree → ℕ
number_after n (EntryTree e) = suc n
number_after n (CommentTree h) = n
number_after n (DefinitionTree d) = n
number_after n (PreambleTree p) = n

-- An item stays if it is a preamble, an entry that is kept, or the definition of a name that still has to be defined for the
-- kept items after it.
abbrev pub stays : (ℕ → Bool) → ℕ → List Text → Tree → Bool
stays keeps n names (CommentTree h) = false
stays keeps n names (PreambleTree p) = true
stays keeps n names (EntryTree e) = keeps n
stays keeps n names (DefinitionTree d) = list_any (same d.assignment.name) names

-- the names that still have to be defined before the item, given those after it
abbrev pub names_before : Bool → Tree → List Text → List Text
names_before true tree names = used_by tree ++ without_defined tree names
names_before false tree names = names

-- the names that have to be defined before the first of these items; the first entry among them has the number n
abbrev pub awaited : (ℕ → Bool) → ℕ → List Item → List Text
awaited keeps n [] = []
awaited keeps n (item ∷ items) =
    let names = awaited keeps (number_after n item.tree) items in names_before (stays keeps n names item.tree) item.tree names

-- for each item whether it is kept, from the last item to the first
abbrev pub kept_from : (ℕ → Bool) → ℕ → List Item → List Bool
kept_from keeps n [] = []
kept_from keeps n (item ∷ items) =
    stays keeps n (awaited keeps (number_after n item.tree) items) item.tree ∷ kept_from keeps (number_after n item.tree) items

-- the elements whose numbers pass the test, if the first has the number n
abbrev pub picked : {X : Type 0} → (ℕ → Bool) → ℕ → List X → List X
picked keeps n [] = []
picked keeps n (x ∷ xs) = if keeps n then x ∷ picked keeps (suc n) xs else picked keeps (suc n) xs

-- the number, among the elements whose numbers pass the test, of the n-th element, if the first has the number s
abbrev pub number_in : (ℕ → Bool) → ℕ → ℕ → ℕ
number_in keeps s zero = 0
number_in keeps s (suc n) = if keeps s then suc (number_in keeps (suc s) n) else number_in keeps (suc s) n

-- ---- the extract

-- the white space with which the trail begins, if it ends the line; else one LF (dialect)
abbrev pub space_of : Text → Text
space_of t = if list_any (λ b. b == line_feed) (take_while is_space t) then take_while is_space t else line_feed ∷ []

-- the item with its tree as it is, and after it white space that ends the line
abbrev pub on_its_line : Item → Item
on_its_line item = record { tree = item.tree; trail = space_of item.trail }

-- the elements that are marked, in order
abbrev pub marked : {X : Type 0} → List Bool → List X → List X
marked [] xs = []
marked (mark ∷ marks) [] = []
marked (mark ∷ marks) (x ∷ xs) = if mark then x ∷ marked marks xs else marked marks xs

-- the kept items, each on its line
abbrev pub extract_from : (ℕ → Bool) → ℕ → List Item → List Item
extract_from keeps n items = map on_its_line (marked (kept_from keeps n items) items)

-- the entries of the file that are kept for these keys
abbrev pub keeps_for : Reading → List Text → ℕ → Bool
keeps_for db keys n = is_kept_entry (entries_of db) (found (entries_of db) keys) n

-- for each item of the file whether it is kept for these keys
abbrev pub kept : Reading → List Text → List Bool
kept db keys = kept_from (keeps_for db keys) 0 db.items

-- the extract of the file for these keys: no front, and the kept items in order, each on its line
abbrev pub extract_of : Reading → List Text → Reading
extract_of db keys = record { front = []; items = extract_from (keeps_for db keys) 0 db.items }
