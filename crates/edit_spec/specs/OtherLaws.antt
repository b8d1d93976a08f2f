-- What the edits keep of all that they do not address: the other entries, and the bytes of the items that they do not touch.
use Rattle.std.specs.Prelude.{◌≡◌, ◌<◌, ◌+◌, ℕ, zero, suc, Bool, true, false, not, ◌&&◌, ◌||◌, ◌==◌, List, ◌++◌, [], ◌∷◌, Option, Some, None, unwrap_or, if◌then◌else◌, bytes_eq, option_map, option_and_then, slice_get, length, take, find}
use Rattle.std.specs.List.{list_any}
use Rattle.std.specs.Option.{option_map_or}
use Rattle.bib_spec.specs.Text.{Text, same}
use Rattle.bib_spec.specs.Tree.{Part, Braced, Value, Row, Tree, EntryTree}
use Rattle.bib_spec.specs.Reading.{Item, Reading}
use Rattle.bib_spec.specs.MadeKeys.{new_keys}
use Rattle.bib_spec.specs.Records.{EntryTexts, Record, entries_of, preambles_of, crossref, entry_named, target, parent, dangling_texts, expanded}
use Rattle.part_spec.specs.Parts.{uses, holds, any_part}
use Rattle.edit_spec.specs.Edits.{NewEntry, Edit, SetField, DropField, AddEntry, RemoveEntry, MoveEntry, RenameKey, RenameMacro, InlineMacro, IntroduceMacro, RegenerateKeys, AddMany, SetType, UndefineMacro, RenameField, DefineMacro, SetMacro, Which, EntryChange, RenamesKey, Removes, Moves, DefinitionChange, SetsValue, Undefines, ChangeEntry, ChangeDefinition, entry_meant, item_meant, definition_meant, given_keys, defines, is_entry, line_end, in_line, definitions_end, edited, IsAccepted}
use Rattle.edit_spec.specs.Laws.{is_after, is_reached}

-- ---- numbers

-- the number that n gets when something is put in at number i
abbrev pub number_with_one_more : ℕ → ℕ → ℕ
number_with_one_more zero n = suc n
number_with_one_more (suc i) zero = zero
number_with_one_more (suc i) (suc n) = suc (number_with_one_more i n)

-- the number that n gets when what has the number i is taken out
abbrev pub number_with_one_less : ℕ → ℕ → ℕ
number_with_one_less i zero = zero
number_with_one_less zero (suc n) = n
number_with_one_less (suc i) (suc n) = suc (number_with_one_less i n)

-- how many entries come before the item at this position
abbrev pub entries_before : ℕ → Reading → ℕ
entries_before position db = length (entries_of (record db { items = take position db.items }))

-- ---- other entries

-- Each entry n of the first database is entry `number n` of the second, with the same record at every depth and the same
-- parent. The second database has `added` entries more than the first, and the same preambles.
pub record KeepsOthers (number : ℕ → ℕ) (added : ℕ) (fewer more : Reading) : Type 0 where
  pub count : length (entries_of more) ≡ length (entries_of fewer) + added
  pub records : (depth n : ℕ) → n < length (entries_of fewer) → expanded depth (entries_of more) (number n) ≡ expanded depth (entries_of fewer) n
  pub parents : (n : ℕ) → n < length (entries_of fewer) → parent (entries_of more) (number n) ≡ option_map number (parent (entries_of fewer) n)
  pub preambles : preambles_of more ≡ preambles_of fewer

-- Removing an entry keeps every other entry's record and parent; the numbers of the entries after it become one less.
abbrev pub remove_entry_keeps_others : Type 0
remove_entry_keeps_others = (key_base : Record → Text) (db : Reading) (key : Text) → IsAccepted key_base db (RemoveEntry key) →
    (i : ℕ) × (entry_named (entries_of db) key ≡ Some i) × KeepsOthers (number_with_one_more i) 1 (edited key_base db (RemoveEntry key)) db

-- A dangling crossref waits for the key: its text is that key, folded, so an added entry with the key would be its target.
abbrev pub is_awaited : Reading → Text → Bool
is_awaited db key = list_any (same key) (dangling_texts (entries_of db))

-- no dangling crossref waits for a key that the edit is given
abbrev pub NoneAwaited : Reading → Edit → Type 0
NoneAwaited db e = list_any (is_awaited db) (given_keys e) ≡ false

-- Adding an entry that no dangling crossref waits for keeps every old entry's record and parent; the numbers of the entries
-- after it become one more.
abbrev pub add_entry_keeps_others : Type 0
add_entry_keeps_others = (key_base : Record → Text) (db : Reading) (position : ℕ) (new : NewEntry) →
    IsAccepted key_base db (AddEntry position new) → NoneAwaited db (AddEntry position new) →
    KeepsOthers (number_with_one_more (entries_before position db)) 1 db (edited key_base db (AddEntry position new))

-- each entry has the number that it had
abbrev pub same_number : ℕ → ℕ
same_number n = n

-- Adding many entries that no dangling crossref waits for keeps every old entry's number, record and parent.
abbrev pub add_many_keeps_others : Type 0
add_many_keeps_others = (key_base : Record → Text) (db : Reading) (news : List NewEntry) →
    IsAccepted key_base db (AddMany news) → NoneAwaited db (AddMany news) →
    KeepsOthers same_number (length news) db (edited key_base db (AddMany news))

-- ---- untouched items

-- item n passes the test
abbrev pub passes : (Tree → Bool) → List Item → ℕ → Bool
passes test items n = option_map_or (λ item. test item.tree) (slice_get items n) false

-- the number of the first item that passes the test; if none does, the number of items
abbrev pub number_of_first : (Tree → Bool) → List Item → ℕ
number_of_first test [] = 0
number_of_first test (item ∷ items) = if test item.tree then 0 else suc (number_of_first test items)

-- item n is the first that passes the test
abbrev pub is_first : (Tree → Bool) → List Item → ℕ → Bool
is_first test items n = number_of_first test items == n

-- the number is the one that was found
abbrev pub is_meant : Option ℕ → ℕ → Bool
is_meant found n = option_map_or (λ m. m == n) found false

-- the change takes the entry away, or moves it
abbrev pub is_taken_out : EntryChange → Bool
is_taken_out Removes = true
is_taken_out (Moves position) = true
is_taken_out other = false

-- the change takes the definition away
abbrev pub is_removed : DefinitionChange → Bool
is_removed Undefines = true
is_removed (SetsValue value) = false

-- the edit takes item n away, or moves it
abbrev pub is_gone : Reading → Edit → ℕ → Bool
is_gone db (RemoveEntry key) n = is_first (is_entry key) db.items n
is_gone db (MoveEntry key position) n = is_first (is_entry key) db.items n
is_gone db (InlineMacro name) n = is_first (defines name) db.items n
is_gone db (UndefineMacro name) n = is_first (defines name) db.items n
is_gone db (ChangeEntry key change) n = is_taken_out change && is_meant (item_meant key db.items) n
is_gone db (ChangeDefinition name k change) n = is_removed change && is_meant (definition_meant name k db.items) n
is_gone db other n = false

-- the item is an entry
abbrev pub is_any_entry : Tree → Bool
is_any_entry (EntryTree e) = true
is_any_entry other = false

-- the item is an entry that has a row of this name
abbrev pub has_row : Text → Tree → Bool
has_row name (EntryTree e) = list_any (λ row. same row.assignment.name name) e.rows
has_row name other = false

-- entry m is that entry, or its crossref names it
abbrev pub is_or_refers_to : List EntryTexts → Option ℕ → ℕ → Bool
is_or_refers_to entries None m = false
is_or_refers_to entries (Some i) m = m == i || option_map_or (λ t. t == i) (target entries m) false

-- the part is the text in braces
abbrev pub is_braced : Text → Part → Bool
is_braced text (Braced t) = bytes_eq t text
is_braced text other = false

-- the value is the text in braces, and nothing else
abbrev pub is_in_braces : Text → Value → Bool
is_in_braces text v = is_braced text v.first && length v.links == 0

-- if the crossref has to name its target by this key, it is already that key in braces
abbrev pub names_already : Option Text → List Row → Bool
names_already None rows = true
names_already (Some key) [] = true
names_already (Some key) (row ∷ rows) = if same row.assignment.name crossref then is_in_braces key row.assignment.value else names_already (Some key) rows

-- entry n already has the key that it gets, and its crossref already names its target by the key that the target gets
abbrev pub has_its_keys : (ℕ → Option Text) → List EntryTexts → ℕ → Tree → Bool
has_its_keys new entries n (EntryTree e) = bytes_eq (unwrap_or (new n) e.key) e.key && names_already (option_and_then new (target entries n)) e.rows
has_its_keys new entries n other = true

-- The change of the entry that is meant replaces something in the body of item n. A new key is also written into the crossrefs that
-- name the entry.
abbrev pub is_changed_by : Which → EntryChange → Reading → ℕ → Bool
is_changed_by key (RenamesKey to) db n =
    passes is_any_entry db.items n && is_or_refers_to (entries_of db) (entry_meant key (entries_of db)) (entries_before n db)
is_changed_by key change db n = not (is_taken_out change) && is_meant (item_meant key db.items) n

-- the edit replaces something in the body of item n; a made key begins with what `key_base` makes of the record
abbrev pub is_changed : (Record → Text) → Reading → Edit → ℕ → Bool
is_changed key_base db (SetField key name value) n = is_first (is_entry key) db.items n
is_changed key_base db (DropField key name) n = is_first (is_entry key) db.items n
is_changed key_base db (RenameKey from to) n =
    passes is_any_entry db.items n && is_or_refers_to (entries_of db) (entry_named (entries_of db) from) (entries_before n db)
is_changed key_base db (RenameMacro from to) n = is_reached (defines from) db.items n && passes (λ tree. defines from tree || any_part (uses from) tree) db.items n
is_changed key_base db (InlineMacro name) n = is_after name db.items n && passes (any_part (uses name)) db.items n
is_changed key_base db (IntroduceMacro name text) n = passes (any_part (holds text)) db.items n
is_changed key_base db (RegenerateKeys depth) n =
    passes (λ tree. not (has_its_keys (slice_get (new_keys key_base depth (entries_of db))) (entries_of db) (entries_before n db) tree)) db.items n
is_changed key_base db (SetType key kind_name) n = is_first (is_entry key) db.items n
is_changed key_base db (RenameField from to None) n = passes (has_row from) db.items n
is_changed key_base db (RenameField from to (Some key)) n = is_first (is_entry key) db.items n
is_changed key_base db (SetMacro name value) n = is_first (defines name) db.items n
is_changed key_base db (ChangeEntry key change) n = is_changed_by key change db n
is_changed key_base db (ChangeDefinition name k change) n = not (is_removed change) && is_meant (definition_meant name k db.items) n
is_changed key_base db other n = false

-- the number that n gets when what has the number that was found is taken out
abbrev pub number_without : Option ℕ → ℕ → ℕ
number_without None n = n
number_without (Some i) n = number_with_one_less i n

-- the number of item n after a change of an entry, if it is not taken away
abbrev pub number_after : EntryChange → Option ℕ → ℕ → ℕ
number_after Removes found n = number_without found n
number_after (Moves position) found n = number_with_one_more position (number_without found n)
number_after other found n = n

-- the number of item n after a change of a definition, if it is not taken away
abbrev pub number_beside : DefinitionChange → Option ℕ → ℕ → ℕ
number_beside Undefines found n = number_without found n
number_beside (SetsValue value) found n = n

-- the number of item n afterwards, if it is not taken away
abbrev pub new_number : Reading → Edit → ℕ → ℕ
new_number db (AddEntry position entry) n = number_with_one_more position n
new_number db (RemoveEntry key) n = number_with_one_less (number_of_first (is_entry key) db.items) n
new_number db (MoveEntry key position) n = number_with_one_more position (number_with_one_less (number_of_first (is_entry key) db.items) n)
new_number db (InlineMacro name) n = number_with_one_less (number_of_first (defines name) db.items) n
new_number db (UndefineMacro name) n = number_with_one_less (number_of_first (defines name) db.items) n
new_number db (IntroduceMacro name text) n = number_with_one_more (number_of_first (any_part (holds text)) db.items) n
new_number db (DefineMacro name value) n = number_with_one_more (definitions_end db.items) n
new_number db (ChangeEntry key change) n = number_after change (item_meant key db.items) n
new_number db (ChangeDefinition name k change) n = number_beside change (definition_meant name k db.items) n
new_number db other n = n

-- the trail of item n if the edit takes that item away, else nothing
abbrev pub gained : (ℕ → Bool) → List Item → ℕ → Text
gained gone items n = if gone n then option_map_or (λ item. item.trail) (slice_get items n) [] else []

-- the trail of item n afterwards: a new definition gets the trail of the item that it is put after, which keeps a line's end
abbrev pub new_trail : Reading → Edit → ℕ → Text → Text
new_trail db (DefineMacro name value) n trail = if suc n == definitions_end db.items then line_end else trail
new_trail db other n trail = trail ++ gained (is_gone db other) db.items (suc n)

-- item `n` exists, with this trail, and with this tree unless it is changed
pub record StandsAt (items : List Item) (n : ℕ) (is_changed : Bool) (old : Tree) (trail : Text) : Type 0 where
  pub item : Item
  pub at : slice_get items n ≡ Some item
  pub trail_is : item.trail ≡ trail
  pub tree_is : is_changed ≡ false → item.tree ≡ old

-- Each item that is not removed has its new number, in the old order, with its tree unless the edit changes that, and with
-- its trail. The trail of a removed item joins the trail before it, or the front. A definition that is put after an item gets
-- the trail of that item.
pub record KeepsItems (gone changed : ℕ → Bool) (number : ℕ → ℕ) (trail : ℕ → Text → Text) (old new : Reading) : Type 0 where
  pub front : new.front ≡ old.front ++ gained gone old.items 0
  pub items : (n : ℕ) (item : Item) → gone n ≡ false → slice_get old.items n ≡ Some item
      → StandsAt new.items (number n) (changed n) item.tree (trail n item.trail)
  pub order : (n m : ℕ) → gone n ≡ false → gone m ≡ false → n < m → m < length old.items → number n < number m

-- An edit keeps each item that it neither changes, nor removes, nor moves. If keys are made, an entry is unchanged if it
-- already has its made key and its crossref already names its target by the target's made key.
abbrev pub untouched_items_stay : Type 0
untouched_items_stay = (key_base : Record → Text) (db : Reading) (e : Edit) → IsAccepted key_base db e →
    KeepsItems (is_gone db e) (is_changed key_base db e) (new_number db e) (new_trail db e) db (edited key_base db e)

-- A moved entry keeps its body, and gets a line of its own.
abbrev pub moved_entry_stays : Type 0
moved_entry_stays = (key_base : Record → Text) (db : Reading) (key : Text) (position : ℕ) → IsAccepted key_base db (MoveEntry key position) →
    (item : Item) × (find (λ item. is_entry key item.tree) db.items ≡ Some item) × (slice_get (edited key_base db (MoveEntry key position)).items position ≡ Some (in_line item.tree))

-- An entry that is moved by its number among several keeps its body, and gets a line of its own.
abbrev pub moved_one_stays : Type 0
moved_one_stays = (key_base : Record → Text) (db : Reading) (key : Which) (position : ℕ) → IsAccepted key_base db (ChangeEntry key (Moves position)) →
    (n : ℕ) × (item : Item) × (item_meant key db.items ≡ Some n) × (slice_get db.items n ≡ Some item)
    × (slice_get (edited key_base db (ChangeEntry key (Moves position))).items position ≡ Some (in_line item.tree))
