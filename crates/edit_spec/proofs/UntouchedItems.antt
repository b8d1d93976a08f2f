-- The items that an edit leaves are in the new file with their trees; a trail may have the trail of a removed neighbour
-- after it.
use Rattle.edit_spec.proofs.Words.{◌≡◌, ◌≢◌, ◌||◌, ◌&&◌, ◌==◌, ℕ, zero, suc, ◌+◌, ◌<◌, ◌≤◌, Bool, true, false, List, ◌∷◌, ◌++◌, Option, Some, None, is_some, unwrap_or, not, option_map, option_and_then, insert, find, map, slice_get, length, take, count_by, ⊎_elim, refl, sym, ◌∙◌, ap, ap₂, subst}
use Rattle.edit_spec.proofs.Words.{arith, append-nil, add-zero, eq-eqb, zero-lt-suc, suc-le-suc, le_of_suc-le-suc, list_any, option_map_or, bytes_eq, and_parts, not-false, cases_Bool, cond-true, cond-false, or_parts, both_ways, none-some, same_Some, Text, same, Part, Braced, Quoted, Digits, Macro}
use Rattle.edit_spec.proofs.Words.{Link, Value, Row, Entry, Tree, CommentTree, DefinitionTree, PreambleTree, EntryTree, Item, Reading, Macros, months, macros_after, gathered, EntryTexts, Record, entry_in, entries_of, keys_of, crossref, is_named, entry_named, target, uses, holds, any_part, SetField}
use Rattle.edit_spec.proofs.Words.{DropField, AddEntry, RemoveEntry, MoveEntry, RenameKey, RenameMacro, InlineMacro, IntroduceMacro, RegenerateKeys, AddMany, SetType, UndefineMacro, RenameField, DefineMacro, SetMacro, NotFound, Ambiguous, BadPosition, IsAccepted, edited, leaving, item_with, items_with, defines, is_entry, from_first, with_first_tree}
use Rattle.edit_spec.proofs.Words.{without_first, of_entry, entry_with_field, entry_without_field, in_line, item_of, with_item, remove_entry, next_number, tree_with_keys, items_with_keys, in_braces, row_to, with_value, with_crossref, key_for, name_renamed, use_renamed, use_inlined, uses_inlined}
use Rattle.edit_spec.proofs.Words.{text_of_macro, part_introduced, introduced, holders, new_keys, is_after, is_reached, number_with_one_more, entries_before, both_true, eq-true, count-no, option_cases, there_once}
use Rattle.std.proofs.Common.{◌-◌, [], if◌then◌else◌, eqb-true, ne_eqb}
use Rattle.std.proofs.lemmas.List.{nil_from_length}
use Rattle.std.proofs.lemmas.Option.{slice_get-map}
use Rattle.edit_spec.specs.Edits.{Which, SetsField, DropsField, RenamesFields, SetsType, RenamesKey, Removes, Moves, SetsValue, Undefines, ChangeEntry, ChangeDefinition, item_meant, entry_meant, definition_meant, with_tree_at, without_item, entry_with_one_field, entry_without_one_field, move_item, entry_changed, with_keys}
use Rattle.edit_spec.specs.Edits.{item_with_keys, last_position, entry_with_type, row_renamed, entry_renamed, line_end, definition_as, definition_to, definitions_end, put_after}
use Rattle.edit_spec.specs.OtherLaws.{is_meant, number_without, moved_one_stays}
use Rattle.edit_spec.specs.OtherLaws.{number_with_one_less, passes, number_of_first, is_first, has_row, is_any_entry, is_braced, is_in_braces, names_already, has_its_keys, is_or_refers_to, is_changed, gained, StandsAt, KeepsItems, untouched_items_stay, moved_entry_stays}
use Rattle.edit_spec.proofs.RenameKey.{only}
use Rattle.edit_spec.proofs.MeantMembers.{accepted-is}
use Rattle.edit_spec.proofs.OneMore.{slice_get-insert, slice_get-insert_same, within}
use Rattle.edit_spec.proofs.AddedAfter.{slice_get-append}
use Rattle.edit_spec.proofs.KeptTrees.{IsNameLeft, leaving-leaves, tree-left}

-- ---- numbers

eq-suc : (a b : ℕ) → (suc a == suc b) ≡ (a == b)
eq-suc a b = both_true (suc a == suc b) (a == b)
    (λ e. let h = eqb-true (suc a) (suc b) e in eq-eqb a b (omega (arith, h)))
    (λ e. let h = eqb-true a b e in eq-eqb (suc a) (suc b) (omega (arith, h)))

zero-suc : (n : ℕ) → (zero == suc n) ≡ false
zero-suc n = ne_eqb zero (suc n) (omega arith)

suc-zero : (n : ℕ) → (suc n == zero) ≡ false
suc-zero n = ne_eqb (suc n) zero (omega arith)

more-order : (i n m : ℕ) → n < m → number_with_one_more i n < number_with_one_more i m
more-order zero n m h = omega (arith, h)
more-order (suc i) n zero h = absurd (omega (arith, h))
more-order (suc i) zero (suc m) h = zero-lt-suc (number_with_one_more i m)
more-order (suc i) (suc n) (suc m) h = suc-le-suc (more-order i n m (le_of_suc-le-suc h))

less-order : (i n m : ℕ) → i ≢ n → i ≢ m → n < m → number_with_one_less i n < number_with_one_less i m
less-order i n zero p q h = absurd (omega (arith, h))
less-order zero zero (suc m) p q h = absurd (p refl)
less-order zero (suc n) (suc m) p q h = le_of_suc-le-suc h
less-order (suc i) zero (suc m) p q h = zero-lt-suc (number_with_one_less i m)
less-order (suc i) (suc n) (suc m) p q h = suc-le-suc (less-order i n m (λ e. p (ap suc e)) (λ e. q (ap suc e)) (le_of_suc-le-suc h))

other_number : (i n : ℕ) → (i == n) ≡ false → i ≢ n
other_number i n e is = both_ways (i == n) e (eq-eqb i n is)

-- ---- edits in place

-- an item that keeps its trail
stands : (items : List Item) (n : ℕ) (changed : Bool) (item new : Item) → slice_get items n ≡ Some new → new.trail ≡ item.trail → (changed ≡ false → new.tree ≡ item.tree) →
    StandsAt items n changed item.tree item.trail
stands items n changed item new at trail tree = record { item = new; at = at; trail_is = trail; tree_is = tree }

-- an item that keeps its trail, where the trail gains nothing
stands_alone : (items : List Item) (n : ℕ) (changed : Bool) (item : Item) (more : Text) → more ≡ [] → StandsAt items n changed item.tree item.trail → StandsAt items n changed item.tree (item.trail ++ more)
stands_alone items n changed item more e s =
    record { item = s.item; at = s.at; trail_is = s.trail_is ∙ sym (append-nil item.trail) ∙ sym (ap (λ t. item.trail ++ t) e); tree_is = s.tree_is }

-- a trail with what it gains from a removed neighbour
abbrev joined : (ℕ → Bool) → Reading → ℕ → Text → Text
joined gone db n trail = trail ++ gained gone db.items (suc n)

-- edits that remove no item and keep all numbers
in_place : (changed : ℕ → Bool) (old new : Reading) → new.front ≡ old.front →
    ((n : ℕ) (item : Item) → slice_get old.items n ≡ Some item → StandsAt new.items n (changed n) item.tree item.trail) → KeepsItems (λ n. false) changed (λ n. n) (joined (λ n. false) old) old new
in_place changed old new front items = record {
  front = front ∙ sym (append-nil old.front);
  items = λ n item _ at. stands_alone new.items n (changed n) item [] refl (items n item at);
  order = λ n m _ _ h _. h;
}

-- ---- a change of one item

changed_at : (test : Tree → Bool) (change : Tree → Tree) (items : List Item) (n : ℕ) (item : Item) → slice_get items n ≡ Some item →
    StandsAt (from_first test (with_first_tree change) items) n (is_first test items n) item.tree item.trail
changed_at test change [] n item at = absurd (none-some item at)
changed_at test change (first ∷ items) n item at = by_test (λ n at. changed_at test change items n item at) (test first.tree) n at
  where
    by_test : ((n : ℕ) → slice_get items n ≡ Some item → StandsAt (from_first test (with_first_tree change) items) n (is_first test items n) item.tree item.trail) →
        (b : Bool) (n : ℕ) → slice_get (first ∷ items) n ≡ Some item →
        StandsAt (if b then record first { tree = change first.tree } ∷ items else first ∷ from_first test (with_first_tree change) items) n ((if b then 0 else suc (number_of_first test items)) == n) item.tree item.trail
    by_test after true zero at = record {
      item = record first { tree = change first.tree };
      at = refl;
      trail_is = ap (λ (i : Item). i.trail) (same_Some first item at);
      tree_is = λ e. absurd (both_ways (zero == zero) e (eq-eqb zero zero refl));
    }
    by_test after true (suc n) at = stands (record first { tree = change first.tree } ∷ items) (suc n) (zero == suc n) item item at refl (λ _. refl)
    by_test after false zero at = let is = same_Some first item at in record {
      item = first;
      at = refl;
      trail_is = ap (λ (i : Item). i.trail) is;
      tree_is = λ _. ap (λ (i : Item). i.tree) is;
    }
    by_test after false (suc n) at =
        let rest = after n at in
        record { item = rest.item; at = rest.at; trail_is = rest.trail_is; tree_is = λ e. rest.tree_is (sym (eq-suc (number_of_first test items) n) ∙ e) }

-- ---- a change of names and parts

module _ (names : Text → Option Text) (parts : Part → Option Part) (test : Part → Bool) (leaves : (part : Part) → test part ≡ false → parts part ≡ None) where
  -- edits that may change every item
  with_at : (items : List Item) (n : ℕ) (changed : Bool) (item : Item) → slice_get items n ≡ Some item → (changed ≡ false → IsNameLeft names item.tree × (any_part test item.tree ≡ false)) →
      StandsAt (items_with names parts items) n changed item.tree item.trail
  with_at items n changed item at unchanged = record {
    item = item_with names parts item;
    at = slice_get-map (item_with names parts) items n ∙ ap (option_map (item_with names parts)) at;
    trail_is = refl;
    tree_is = λ e. let left = unchanged e in tree-left names parts test leaves item.tree left.0 left.1;
  }

passes-at : (test : Tree → Bool) (items : List Item) (n : ℕ) (item : Item) → slice_get items n ≡ Some item → passes test items n ≡ test item.tree
passes-at test items n item at = ap (λ o. option_map_or (λ (i : Item). test i.tree) o false) at

renamed_leaves : (from to : Text) (part : Part) → uses from part ≡ false → use_renamed from to part ≡ None
renamed_leaves from to (Macro name) h = cond-false (same name from) (Some (Macro to)) None h
renamed_leaves from to (Braced t) h = refl
renamed_leaves from to (Quoted t) h = refl
renamed_leaves from to (Digits t) h = refl

renamed_name : (from to : Text) (tree : Tree) → defines from tree ≡ false → IsNameLeft (name_renamed from to) tree
renamed_name from to (DefinitionTree d) h = cond-false (same d.assignment.name from) (Some to) None h
renamed_name from to (CommentTree c) h = tt
renamed_name from to (PreambleTree p) h = tt
renamed_name from to (EntryTree e) h = tt

abbrev is_renamed : Text → Tree → Bool
is_renamed from tree = defines from tree || any_part (uses from) tree

renamed_at : (from to : Text) (items : List Item) (n : ℕ) (item : Item) → slice_get items n ≡ Some item →
    StandsAt (from_first (defines from) (items_with (name_renamed from to) (use_renamed from to)) items) n
    (is_reached (defines from) items n && passes (is_renamed from) items n) item.tree item.trail
renamed_at from to [] n item at = absurd (none-some item at)
renamed_at from to (first ∷ items) n item at = by_test (λ n at. renamed_at from to items n item at) (defines from first.tree) n at
  where
    by_test : ((n : ℕ) → slice_get items n ≡ Some item → StandsAt (from_first (defines from) (items_with (name_renamed from to) (use_renamed from to)) items) n
        (is_reached (defines from) items n && passes (is_renamed from) items n) item.tree item.trail) → (b : Bool) (n : ℕ) → slice_get (first ∷ items) n ≡ Some item →
        StandsAt (if b then items_with (name_renamed from to) (use_renamed from to) (first ∷ items) else first ∷ from_first (defines from) (items_with (name_renamed from to) (use_renamed from to)) items) n
        ((b || list_any (λ item. defines from item.tree) (take n items)) && passes (is_renamed from) (first ∷ items) n) item.tree item.trail
    by_test after true n at =
        with_at (name_renamed from to) (use_renamed from to) (uses from) (renamed_leaves from to) (first ∷ items) n (passes (is_renamed from) (first ∷ items) n) item at
        (λ e. let both = or_parts (defines from item.tree) (any_part (uses from) item.tree) (sym (passes-at (is_renamed from) (first ∷ items) n item at) ∙ e) in (renamed_name from to item.tree both.0, both.1))
    by_test after false zero at = let is = same_Some first item at in record {
      item = first;
      at = refl;
      trail_is = ap (λ (i : Item). i.trail) is;
      tree_is = λ _. ap (λ (i : Item). i.tree) is;
    }
    by_test after false (suc n) at = let rest = after n at in record { item = rest.item; at = rest.at; trail_is = rest.trail_is; tree_is = rest.tree_is }

-- ---- a change of the names of fields

module _ (from to : Text) where
  row-unnamed : (row : Row) → same row.assignment.name from ≡ false → row_renamed from to row ≡ row
  row-unnamed row h = ap (λ o. let it : Row = record row { assignment = record row.assignment { name = unwrap_or o row.assignment.name } } in it) (cond-false (same row.assignment.name from) (Some to) None h)

  rows-unnamed : (rows : List Row) → list_any (λ row. same row.assignment.name from) rows ≡ false → map (row_renamed from to) rows ≡ rows
  rows-unnamed [] h = refl
  rows-unnamed (row ∷ rows) h =
      let both = or_parts (same row.assignment.name from) (list_any (λ row. same row.assignment.name from) rows) h in
      ap₂ ◌∷◌ (row-unnamed row both.0) (rows-unnamed rows both.1)

  names-left : (tree : Tree) → has_row from tree ≡ false → of_entry (entry_renamed from to) tree ≡ tree
  names-left (CommentTree h) none = refl
  names-left (DefinitionTree d) none = refl
  names-left (PreambleTree p) none = refl
  names-left (EntryTree e) none = ap (λ rows. let it : Entry = record e { rows = rows } in EntryTree it) (rows-unnamed e.rows none)

  abbrev with_names : Item → Item
  with_names item = record item { tree = of_entry (entry_renamed from to) item.tree }

  names_at : (items : List Item) (n : ℕ) (item : Item) → slice_get items n ≡ Some item → StandsAt (map with_names items) n (passes (has_row from) items n) item.tree item.trail
  names_at items n item at =
      stands (map with_names items) n (passes (has_row from) items n) item (with_names item) (slice_get-map with_names items n ∙ ap (option_map with_names) at) refl
      (λ e. names-left item.tree (sym (passes-at (has_row from) items n item at) ∙ e))

-- ---- a change of keys

numbers : (m : Macros) (n : ℕ) (tree : Tree) (before : List EntryTexts) → next_number n tree + length before ≡ n + length (entry_in m tree ++ before)
numbers m n (EntryTree e) before = omega arith
numbers m n (CommentTree h) before = refl
numbers m n (DefinitionTree d) before = refl
numbers m n (PreambleTree p) before = refl

keyed_at : (new : ℕ → Option Text) (entries : List EntryTexts) (m : Macros) (n : ℕ) (items : List Item) (k : ℕ) (item : Item) → slice_get items k ≡ Some item →
    slice_get (items_with_keys new entries n items) k ≡ Some (item_with_keys new entries (n + length (gathered entry_in m (take k items))) item)
keyed_at new entries m n [] k item at = absurd (none-some item at)
keyed_at new entries m n (first ∷ items) zero item at = ap (λ o. option_map (λ (i : Item). item_with_keys new entries n i) o) at ∙ ap (λ j. Some (item_with_keys new entries j item)) (sym (add-zero n))
keyed_at new entries m n (first ∷ items) (suc k) item at =
    keyed_at new entries (macros_after m first.tree) (next_number n first.tree) items k item at
    ∙ ap (λ j. Some (item_with_keys new entries j item)) (numbers m n first.tree (gathered entry_in (macros_after m first.tree) (take k items)))

keys_at : (new : ℕ → Option Text) (db : Reading) (k : ℕ) (changed : Bool) (item : Item) → slice_get db.items k ≡ Some item →
    (changed ≡ false → tree_with_keys new (entries_of db) (entries_before k db) item.tree ≡ item.tree) →
    StandsAt (items_with_keys new (entries_of db) 0 db.items) k changed item.tree item.trail
keys_at new db k changed item at unchanged = record {
  item = item_with_keys new (entries_of db) (entries_before k db) item;
  at = keyed_at new (entries_of db) months 0 db.items k item at ∙ (let e : 0 + entries_before k db ≡ entries_before k db = omega arith in ap (λ j. Some (item_with_keys new (entries_of db) j item)) e);
  trail_is = refl;
  tree_is = unchanged;
}

keyed_tree : (new : ℕ → Option Text) (entries : List EntryTexts) (n : ℕ) (tree : Tree) →
    (is_any_entry tree ≡ true → (new n ≡ None) × (option_and_then new (target entries n) ≡ None)) → tree_with_keys new entries n tree ≡ tree
keyed_tree new entries n (EntryTree e) left =
    ap₂ (λ (k : Option Text) (o : Option Text). let it : Entry = record e { key = unwrap_or k e.key; rows = with_crossref o e.rows } in EntryTree it) (left refl).0 (left refl).1
keyed_tree new entries n (CommentTree h) left = refl
keyed_tree new entries n (DefinitionTree d) left = refl
keyed_tree new entries n (PreambleTree p) left = refl

braced-is : (text : Text) (part : Part) → is_braced text part ≡ true → part ≡ Braced text
braced-is text (Braced t) h = ap Braced (eq-true t text h)
braced-is text (Quoted t) h = absurd (cc)
braced-is text (Digits t) h = absurd (cc)
braced-is text (Macro name) h = absurd (cc)

in_braces-is : (text : Text) (v : Value) → is_in_braces text v ≡ true → v ≡ in_braces text
in_braces-is text v h =
    let both = and_parts (is_braced text v.first) (length v.links == 0) h in
    ap₂ (λ (first : Part) (links : List Link). record { first = first; links = links }) (braced-is text v.first both.0) (nil_from_length v.links (eqb-true (length v.links) 0 both.1))

-- rows whose crossref is the key in braces stay
rows-left : (key : Text) (rows : List Row) → names_already (Some key) rows ≡ true → with_value crossref (in_braces key) rows ≡ rows
rows-left key [] h = refl
rows-left key (row ∷ rows) h = by_test (rows-left key rows) (same row.assignment.name crossref) h
  where
    by_test : (names_already (Some key) rows ≡ true → with_value crossref (in_braces key) rows ≡ rows) →
        (b : Bool) → (if b then is_in_braces key row.assignment.value else names_already (Some key) rows) ≡ true →
        (if b then row_to (in_braces key) row ∷ rows else row ∷ with_value crossref (in_braces key) rows) ≡ row ∷ rows
    by_test after true h = ap (λ (v : Value). row_to v row ∷ rows) (sym (in_braces-is key row.assignment.value h))
    by_test after false h = ap (λ rows. row ∷ rows) (after h)

crossref-left : (key : Option Text) (rows : List Row) → names_already key rows ≡ true → with_crossref key rows ≡ rows
crossref-left None rows h = refl
crossref-left (Some key) rows h = rows-left key rows h

-- an entry that has its keys stays
tree-stays : (new : ℕ → Option Text) (entries : List EntryTexts) (n : ℕ) (tree : Tree) → has_its_keys new entries n tree ≡ true → tree_with_keys new entries n tree ≡ tree
tree-stays new entries n (EntryTree e) h =
    let both = and_parts (bytes_eq (unwrap_or (new n) e.key) e.key) (names_already (option_and_then new (target entries n)) e.rows) h in
    ap₂ (λ (key : Text) (rows : List Row). let it : Entry = record e { key = key; rows = rows } in EntryTree it)
    (eq-true (unwrap_or (new n) e.key) e.key both.0) (crossref-left (option_and_then new (target entries n)) e.rows both.1)
tree-stays new entries n (CommentTree c) h = refl
tree-stays new entries n (DefinitionTree d) h = refl
tree-stays new entries n (PreambleTree p) h = refl

-- an entry that does not get the key, and does not name the one that gets it
not_keyed : (entries : List EntryTexts) (named : Option ℕ) (to : Text) (n : ℕ) → is_or_refers_to entries named n ≡ false →
    (key_for named to n ≡ None) × (option_and_then (key_for named to) (target entries n) ≡ None)
not_keyed entries None to n h = (refl, none_of (target entries n))
  where
    none_of : (o : Option ℕ) → option_and_then (key_for None to) o ≡ None
    none_of None = refl
    none_of (Some t) = refl
not_keyed entries (Some i) to n h =
    let both = or_parts (n == i) (option_map_or (λ t. t == i) (target entries n) false) h in
    (not_it n both.0, not_target (target entries n) both.1)
  where
    not_it : (n : ℕ) → (n == i) ≡ false → key_for (Some i) to n ≡ None
    not_it n e = cond-false (i == n) (Some to) None (ne_eqb i n (λ is. both_ways (n == i) e (eq-eqb n i (sym is))))

    not_target : (o : Option ℕ) → option_map_or (λ t. t == i) o false ≡ false → option_and_then (key_for (Some i) to) o ≡ None
    not_target None e = refl
    not_target (Some t) e = not_it t e

-- ---- an item removed

abbrev without_by : Bool → Text → Item → List Item → Reading → Reading
without_by b front first items rest =
    if b then record { front = front ++ first.trail; items = items } else record { front = front; items = record first { trail = rest.front } ∷ rest.items }

abbrev with_trail : Item → Text → Option Item
with_trail item trail = let it : Item = record item { trail = trail } in Some it

-- what the front gains from a removed item; what each trail gains follows below
gained_front : (test : Tree → Bool) (front : Text) (items : List Item) → (without_first test front items).front ≡ front ++ gained (is_first test items) items 0
gained_front test front [] = sym (append-nil front) ∙ ap (λ t. front ++ t) (nothing (zero == zero))
  where
    nothing : (b : Bool) → ◌≡◌ {A = Text} [] (if b then [] else [])
    nothing true = refl
    nothing false = refl
gained_front test front (first ∷ items) = by_test (test first.tree)
  where
    by_test : (b : Bool) → (without_by b front first items (without_first test first.trail items)).front
        ≡ front ++ (if (if b then 0 else suc (number_of_first test items)) == 0 then first.trail else [])
    by_test true = ap (λ t. front ++ t) (sym (cond-true (zero == zero) first.trail [] (eq-eqb zero zero refl)))
    by_test false = sym (append-nil front) ∙ ap (λ t. front ++ t) (sym (cond-false (suc (number_of_first test items) == 0) first.trail [] (suc-zero (number_of_first test items))))

-- an item that is not the removed one gives its trail to no other
gained-after : (items : List Item) (i n : ℕ) → (i == n) ≡ false → gained (λ n. i == n) items n ≡ []
gained-after items i n e = cond-false (i == n) (option_map_or (λ item. item.trail) (slice_get items n) []) [] e

-- a list with one more at its head gains the same, one place later
gained-suc : (first : Item) (items : List Item) (i n : ℕ) → gained (λ n. suc i == n) (first ∷ items) (suc n) ≡ gained (λ n. i == n) items n
gained-suc first items i n = ap (λ b. if b then option_map_or (λ item. item.trail) (slice_get items n) [] else []) (eq-suc i n)

removed_at : (test : Tree → Bool) (front : Text) (items : List Item) (n : ℕ) (item : Item) → is_first test items n ≡ false → slice_get items n ≡ Some item →
    slice_get (without_first test front items).items (number_with_one_less (number_of_first test items) n) ≡ Some (record item { trail = item.trail ++ gained (is_first test items) items (suc n) })
removed_at test front [] n item stays at = absurd (none-some item at)
removed_at test front (first ∷ items) n item stays at = by_test (λ n stays at. removed_at test first.trail items n item stays at) (test first.tree) n stays at
  where
    by_test : ((n : ℕ) → is_first test items n ≡ false → slice_get items n ≡ Some item →
        slice_get (without_first test first.trail items).items (number_with_one_less (number_of_first test items) n) ≡ Some (record item { trail = item.trail ++ gained (is_first test items) items (suc n) })) → (b : Bool) (n : ℕ) → ((if b then 0 else suc (number_of_first test items)) == n) ≡ false → slice_get (first ∷ items) n ≡ Some item →
        slice_get (without_by b front first items (without_first test first.trail items)).items (number_with_one_less (if b then 0 else suc (number_of_first test items)) n)
        ≡ Some (record item { trail = item.trail ++ gained (λ n. (if b then 0 else suc (number_of_first test items)) == n) (first ∷ items) (suc n) })
    by_test after true zero stays at = absurd (both_ways (zero == zero) stays (eq-eqb zero zero refl))
    by_test after true (suc n) stays at = at ∙ ap (with_trail item) (sym (append-nil item.trail) ∙ sym (ap (λ t. item.trail ++ t) (gained-after (first ∷ items) 0 (suc (suc n)) (zero-suc (suc n)))))
    by_test after false zero stays at =
        let is = same_Some first item at in
        ap (with_trail first) (gained_front test first.trail items ∙ ap (λ t. first.trail ++ t) (sym (gained-suc first items (number_of_first test items) zero)))
        ∙ ap (λ (i : Item). with_trail i (i.trail ++ gained (λ n. suc (number_of_first test items) == n) (first ∷ items) 1)) is
    by_test after false (suc n) stays at =
        after n (sym (eq-suc (number_of_first test items) n) ∙ stays) at
        ∙ ap (λ t. with_trail item (item.trail ++ t)) (sym (gained-suc first items (number_of_first test items) (suc n)))

removal-order : (test : Tree → Bool) (items : List Item) (n m : ℕ) → is_first test items n ≡ false → is_first test items m ≡ false → n < m →
    number_with_one_less (number_of_first test items) n < number_with_one_less (number_of_first test items) m
removal-order test items n m p q h = less-order (number_of_first test items) n m (other_number (number_of_first test items) n p) (other_number (number_of_first test items) m q) h

removed_item : (test : Tree → Bool) (db : Reading) (n : ℕ) (item : Item) → is_first test db.items n ≡ false → slice_get db.items n ≡ Some item →
    StandsAt (without_first test db.front db.items).items (number_with_one_less (number_of_first test db.items) n) false item.tree (item.trail ++ gained (is_first test db.items) db.items (suc n))
removed_item test db n item stays at = record {
  item = record item { trail = item.trail ++ gained (is_first test db.items) db.items (suc n) };
  at = removed_at test db.front db.items n item stays at;
  trail_is = refl;
  tree_is = λ _. refl;
}

-- ---- a macro written out

inlined_leaves : (name text : Text) (part : Part) → uses name part ≡ false → use_inlined name text part ≡ None
inlined_leaves name text (Macro used) h = cond-false (same used name) (Some (Braced text)) None h
inlined_leaves name text (Braced t) h = refl
inlined_leaves name text (Quoted t) h = refl
inlined_leaves name text (Digits t) h = refl

abbrev with_uses_inlined : Text → Text → List Item → List Item
with_uses_inlined name text items = from_first (defines name) (uses_inlined name text) items

abbrev by_inlining : Bool → Text → Text → Item → List Item → List Item
by_inlining b name text first items = if b then first ∷ items_with leaving (use_inlined name text) items else first ∷ with_uses_inlined name text items

inlined_at : (name text : Text) (items : List Item) (n : ℕ) (item : Item) → slice_get items n ≡ Some item →
    StandsAt (with_uses_inlined name text items) n (is_after name items n && passes (any_part (uses name)) items n) item.tree item.trail
inlined_at name text [] n item at = absurd (none-some item at)
inlined_at name text (first ∷ items) zero item at = by_test (defines name first.tree)
  where
    by_test : (b : Bool) → StandsAt (by_inlining b name text first items) zero false item.tree item.trail
    by_test true = stands (by_inlining true name text first items) zero false item item at refl (λ _. refl)
    by_test false = stands (by_inlining false name text first items) zero false item item at refl (λ _. refl)
inlined_at name text (first ∷ items) (suc n) item at = by_test (inlined_at name text items n item at) (defines name first.tree)
  where
    by_test : StandsAt (with_uses_inlined name text items) n (is_after name items n && passes (any_part (uses name)) items n) item.tree item.trail →
        (b : Bool) → StandsAt (by_inlining b name text first items) (suc n) ((b || is_after name items n) && passes (any_part (uses name)) items n) item.tree item.trail
    by_test rest true =
        let it = with_at leaving (use_inlined name text) (uses name) (inlined_leaves name text) items n (passes (any_part (uses name)) items n) item at
        (λ e. (leaving-leaves item.tree, sym (passes-at (any_part (uses name)) items n item at) ∙ e)) in
        record { item = it.item; at = it.at; trail_is = it.trail_is; tree_is = it.tree_is }
    by_test rest false = record { item = rest.item; at = rest.at; trail_is = rest.trail_is; tree_is = rest.tree_is }

-- the definition keeps its number
inlined-first : (name text : Text) (items : List Item) → number_of_first (defines name) (with_uses_inlined name text items) ≡ number_of_first (defines name) items
inlined-first name text [] = refl
inlined-first name text (first ∷ items) = ⊎_elim
    (λ e. ap (number_of_first (defines name)) (cond-true (defines name first.tree) (first ∷ items_with leaving (use_inlined name text) items) (first ∷ with_uses_inlined name text items) e)
    ∙ cond-true (defines name first.tree) 0 (suc (number_of_first (defines name) (items_with leaving (use_inlined name text) items))) e
    ∙ sym (cond-true (defines name first.tree) 0 (suc (number_of_first (defines name) items)) e))
    (λ e. ap (number_of_first (defines name)) (cond-false (defines name first.tree) (first ∷ items_with leaving (use_inlined name text) items) (first ∷ with_uses_inlined name text items) e)
    ∙ cond-false (defines name first.tree) 0 (suc (number_of_first (defines name) (with_uses_inlined name text items))) e
    ∙ ap suc (inlined-first name text items)
    ∙ sym (cond-false (defines name first.tree) 0 (suc (number_of_first (defines name) items)) e))
    (cases_Bool (defines name first.tree))

abbrev trail_of : Option Item → Text
trail_of o = option_map_or (λ (i : Item). i.trail) o []

option_map-trail : (f : Item → Item) → ((item : Item) → (f item).trail ≡ item.trail) → (o : Option Item) → trail_of (option_map f o) ≡ trail_of o
option_map-trail f same None = refl
option_map-trail f same (Some item) = same item

-- the trails are what they were
inlined-trail : (name text : Text) (items : List Item) (n : ℕ) → trail_of (slice_get (with_uses_inlined name text items) n) ≡ trail_of (slice_get items n)
inlined-trail name text [] n = refl
inlined-trail name text (first ∷ items) zero = by_test (defines name first.tree)
  where
    by_test : (b : Bool) → trail_of (slice_get (by_inlining b name text first items) zero) ≡ first.trail
    by_test true = refl
    by_test false = refl
inlined-trail name text (first ∷ items) (suc n) = by_test (inlined-trail name text items n) (defines name first.tree)
  where
    by_test : trail_of (slice_get (with_uses_inlined name text items) n) ≡ trail_of (slice_get items n) →
        (b : Bool) → trail_of (slice_get (by_inlining b name text first items) (suc n)) ≡ trail_of (slice_get items n)
    by_test rest true = ap trail_of (slice_get-map (item_with leaving (use_inlined name text)) items n) ∙ option_map-trail (item_with leaving (use_inlined name text)) (λ item. refl) (slice_get items n)
    by_test rest false = rest

-- replacing the uses first does not change which trail the removed definition leaves, and where
inlined-gained : (name text : Text) (items : List Item) (n : ℕ) →
    gained (is_first (defines name) (with_uses_inlined name text items)) (with_uses_inlined name text items) n ≡ gained (is_first (defines name) items) items n
inlined-gained name text items n =
    ap₂ (λ (i : ℕ) (trail : Text). if i == n then trail else []) (inlined-first name text items) (inlined-trail name text items n)

inlined_item : (name text front : Text) (items : List Item) (n : ℕ) (item : Item) → is_first (defines name) items n ≡ false → slice_get items n ≡ Some item →
    StandsAt (without_first (defines name) front (with_uses_inlined name text items)).items (number_with_one_less (number_of_first (defines name) items) n)
    (is_after name items n && passes (any_part (uses name)) items n) item.tree (item.trail ++ gained (is_first (defines name) items) items (suc n))
inlined_item name text front items n item stays at =
    let new : List Item = with_uses_inlined name text items in
    let changed = inlined_at name text items n item at in
    let stays' : is_first (defines name) new n ≡ false = ap (λ i. i == n) (inlined-first name text items) ∙ stays in
    record {
      item = record changed.item { trail = changed.item.trail ++ gained (is_first (defines name) new) new (suc n) };
      at = ap (λ i. slice_get (without_first (defines name) front new).items (number_with_one_less i n)) (sym (inlined-first name text items))
          ∙ removed_at (defines name) front new n changed.item stays' changed.at;
      trail_is = ap₂ ◌++◌ changed.trail_is (inlined-gained name text items (suc n));
      tree_is = changed.tree_is;
    }

-- ---- a macro introduced

introduced_at : (name text : Text) (items : List Item) (n : ℕ) (item : Item) → slice_get items n ≡ Some item →
    StandsAt (from_first (any_part (holds text)) (introduced name text) items) (number_with_one_more (number_of_first (any_part (holds text)) items) n)
    (passes (any_part (holds text)) items n) item.tree item.trail
introduced_at name text [] n item at = absurd (none-some item at)
introduced_at name text (first ∷ items) n item at = by_test (λ n at. introduced_at name text items n item at) (any_part (holds text) first.tree) n at
  where
    by_test : ((n : ℕ) → slice_get items n ≡ Some item →
        StandsAt (from_first (any_part (holds text)) (introduced name text) items) (number_with_one_more (number_of_first (any_part (holds text)) items) n)
        (passes (any_part (holds text)) items n) item.tree item.trail) →
        (b : Bool) (n : ℕ) → slice_get (first ∷ items) n ≡ Some item →
        StandsAt (if b then introduced name text (first ∷ items) else first ∷ from_first (any_part (holds text)) (introduced name text) items)
        (number_with_one_more (if b then 0 else suc (number_of_first (any_part (holds text)) items)) n) (passes (any_part (holds text)) (first ∷ items) n) item.tree item.trail
    by_test after true n at =
        let it = with_at leaving (part_introduced name text) (holds text) (λ part h. cond-false (holds text part) (Some (Macro name)) None h) (first ∷ items) n (passes (any_part (holds text)) (first ∷ items) n) item at
        (λ e. (leaving-leaves item.tree, sym (passes-at (any_part (holds text)) (first ∷ items) n item at) ∙ e)) in
        record { item = it.item; at = it.at; trail_is = it.trail_is; tree_is = it.tree_is }
    by_test after false zero at = let is = same_Some first item at in record {
      item = first;
      at = refl;
      trail_is = ap (λ (i : Item). i.trail) is;
      tree_is = λ _. ap (λ (i : Item). i.tree) is;
    }
    by_test after false (suc n) at = let rest = after n at in record { item = rest.item; at = rest.at; trail_is = rest.trail_is; tree_is = rest.tree_is }

-- ---- an item put in

put_in : (place : ℕ) (item : Item) (db : Reading) → place ≤ length db.items → KeepsItems (λ n. false) (λ n. false) (number_with_one_more place) (joined (λ n. false) db) db (with_item place item db)
put_in place item db within_items = record {
  front = sym (append-nil db.front);
  items = λ n other _ at. stands_alone (insert db.items place item) (number_with_one_more place n) false other [] refl
      (stands (insert db.items place item) (number_with_one_more place n) false other other (slice_get-insert db.items place item within_items n ∙ at) refl (λ _. refl));
  order = λ n m _ _ h _. more-order place n m h;
}

-- ---- an entry moved

-- an item that is counted is found
none_counted : (key : Text) (m : Macros) (tree : Tree) (rest : List EntryTexts) → is_entry key tree ≡ false →
    count_by (is_named key) (keys_of (entry_in m tree ++ rest)) ≡ count_by (is_named key) (keys_of rest)
none_counted key m (EntryTree e) rest h = count-no (is_named key) e.key (keys_of rest) h
none_counted key m (CommentTree c) rest h = refl
none_counted key m (DefinitionTree d) rest h = refl
none_counted key m (PreambleTree p) rest h = refl

none_found : (key : Text) (m : Macros) (items : List Item) → find (λ item. is_entry key item.tree) items ≡ None → count_by (is_named key) (keys_of (gathered entry_in m items)) ≡ 0
none_found key m [] e = refl
none_found key m (first ∷ items) e = ⊎_elim
    (λ t. absurd (none-some first (sym e ∙ cond-true (is_entry key first.tree) (Some first) (find (λ item. is_entry key item.tree) items) t)))
    (λ t. none_counted key m first.tree (gathered entry_in (macros_after m first.tree) items) t
    ∙ none_found key (macros_after m first.tree) items (sym (cond-false (is_entry key first.tree) (Some first) (find (λ item. is_entry key item.tree) items) t) ∙ e))
    (cases_Bool (is_entry key first.tree))

length-removed : (test : Tree → Bool) (front : Text) (items : List Item) (found : Item) → find (λ item. test item.tree) items ≡ Some found → suc (length (without_first test front items).items) ≡ length items
length-removed test front [] found e = absurd (none-some found e)
length-removed test front (first ∷ items) found e = by_test (length-removed test first.trail items found) (test first.tree) e
  where
    by_test : (find (λ item. test item.tree) items ≡ Some found → suc (length (without_first test first.trail items).items) ≡ length items) →
        (b : Bool) → (if b then Some first else find (λ item. test item.tree) items) ≡ Some found → suc (length (without_by b front first items (without_first test first.trail items)).items) ≡ suc (length items)
    by_test after true e = refl
    by_test after false e = ap suc (after e)

-- the moved item, and its new place
pub record IsMove (key : Text) (place : ℕ) (db : Reading) : Type 0 where
  pub moved : Item
  pub found : find (λ item. is_entry key item.tree) db.items ≡ Some moved
  pub within : place ≤ length (remove_entry key db).items

move_of : (key_base : Record → Text) (db : Reading) (key : Text) (place : ℕ) → IsAccepted key_base db (MoveEntry key place) → IsMove key place db
move_of key_base db key place accepted = ⊎_elim
    (λ none. absurd (accepted NotFound (none_found key months db.items none)))
    (λ some.
    let named = only key (keys_of (entries_of db)) (there_once (holders key db) (accepted NotFound) (accepted Ambiguous)) in
    let last : last_position db (MoveEntry key place) ≡ length db.items - 1 = ap (λ o. if is_some o then length db.items - 1 else length db.items) named.1 in
    let high = accepted BadPosition in
    let fewer = length-removed (is_entry key) db.front db.items some.0 some.1 in
    record { moved = some.0; found = some.1; within = omega (arith, last, high, fewer) })
    (option_cases (find (λ item. is_entry key item.tree) db.items))

moved-is : (key_base : Record → Text) (db : Reading) (key : Text) (place : ℕ) (move : IsMove key place db) →
    edited key_base db (MoveEntry key place) ≡ with_item place (in_line move.moved.tree) (remove_entry key db)
moved-is key_base db key place move = ap (λ o. option_map_or (λ (item : Item). with_item place (in_line item.tree) (remove_entry key db)) o db) move.found

pub moved_entry-stays : moved_entry_stays
moved_entry-stays key_base db key place accepted =
    let move = move_of key_base db key place accepted in (
      move.moved,
      move.found,
      ap (λ (new : Reading). slice_get new.items place) (moved-is key_base db key place move)
          ∙ slice_get-insert_same (remove_entry key db).items place (in_line move.moved.tree) move.within,
    )

-- ---- all edits

removal : (test : Tree → Bool) (db : Reading) →
    KeepsItems (is_first test db.items) (λ n. false) (number_with_one_less (number_of_first test db.items)) (joined (is_first test db.items) db) db (without_first test db.front db.items)
removal test db = record {
  front = gained_front test db.front db.items;
  items = λ n item stays at. removed_item test db n item stays at;
  order = λ n m p q h _. removal-order test db.items n m p q h;
}

removal_and_place : (db : Reading) (key : Text) (place : ℕ) (it : IsMove key place db) →
    KeepsItems (is_first (is_entry key) db.items) (λ n. false) (λ n. number_with_one_more place (number_with_one_less (number_of_first (is_entry key) db.items) n)) (joined (is_first (is_entry key) db.items) db) db
    (with_item place (in_line it.moved.tree) (remove_entry key db))
removal_and_place db key place it = record {
  front = gained_front (is_entry key) db.front db.items;
  items = λ n item stays at. let rest = removed_item (is_entry key) db n item stays at in record {
    item = rest.item;
    at = slice_get-insert (remove_entry key db).items place (in_line it.moved.tree) it.within (number_with_one_less (number_of_first (is_entry key) db.items) n) ∙ rest.at;
    trail_is = rest.trail_is;
    tree_is = rest.tree_is;
  };
  order = λ n m p q h _. more-order place (number_with_one_less (number_of_first (is_entry key) db.items) n) (number_with_one_less (number_of_first (is_entry key) db.items) m)
      (removal-order (is_entry key) db.items n m p q h);
}

-- ---- a definition put in

put_at : (tree : Tree) (place : ℕ) (items : List Item) (n : ℕ) (item : Item) → slice_get items n ≡ Some item →
    StandsAt (put_after place tree items) (number_with_one_more place n) false item.tree (if suc n == place then line_end else item.trail)
put_at tree place [] n item at = absurd (none-some item at)
put_at tree zero (first ∷ items) n item at = record {
  item = item;
  at = at;
  trail_is = sym (cond-false (suc n == zero) line_end item.trail (suc-zero n));
  tree_is = λ _. refl;
}
put_at tree (suc zero) (first ∷ items) zero item at = record {
  item = in_line first.tree;
  at = refl;
  trail_is = sym (cond-true (suc zero == suc zero) line_end item.trail (eq-eqb (suc zero) (suc zero) refl));
  tree_is = λ _. ap (λ (i : Item). i.tree) (same_Some first item at);
}
put_at tree (suc zero) (first ∷ items) (suc n) item at = record {
  item = item;
  at = at;
  trail_is = sym (cond-false (suc (suc n) == suc zero) line_end item.trail (ne_eqb (suc (suc n)) (suc zero) (omega arith)));
  tree_is = λ _. refl;
}
put_at tree (suc (suc k)) (first ∷ items) zero item at = let is = same_Some first item at in record {
  item = first;
  at = refl;
  trail_is = ap (λ (i : Item). i.trail) is ∙ sym (cond-false (suc zero == suc (suc k)) line_end item.trail (ne_eqb (suc zero) (suc (suc k)) (omega arith)));
  tree_is = λ _. ap (λ (i : Item). i.tree) is;
}
put_at tree (suc (suc k)) (first ∷ items) (suc n) item at =
    let rest = put_at tree (suc k) items n item at in
    record { item = rest.item; at = rest.at; trail_is = rest.trail_is ∙ sym (ap (λ b. if b then line_end else item.trail) (eq-suc (suc n) (suc k))); tree_is = rest.tree_is }

-- ---- one of several

-- item `p` has another tree
tree_at : (p : ℕ) (change : Tree → Tree) (items : List Item) (n : ℕ) (item : Item) → slice_get items n ≡ Some item → StandsAt (with_tree_at p change items) n (p == n) item.tree item.trail
tree_at p change [] n item at = absurd (none-some item at)
tree_at zero change (first ∷ items) zero item at = record {
  item = record first { tree = change first.tree };
  at = refl;
  trail_is = ap (λ (i : Item). i.trail) (same_Some first item at);
  tree_is = λ e. absurd (both_ways (zero == zero) e (eq-eqb zero zero refl));
}
tree_at zero change (first ∷ items) (suc n) item at = stands (record first { tree = change first.tree } ∷ items) (suc n) (zero == suc n) item item at refl (λ _. refl)
tree_at (suc p) change (first ∷ items) zero item at = let is = same_Some first item at in record {
  item = first;
  at = refl;
  trail_is = ap (λ (i : Item). i.trail) is;
  tree_is = λ _. ap (λ (i : Item). i.tree) is;
}
tree_at (suc p) change (first ∷ items) (suc n) item at =
    let rest = tree_at p change items n item at in
    record { item = rest.item; at = rest.at; trail_is = rest.trail_is; tree_is = λ e. rest.tree_is (sym (eq-suc p n) ∙ e) }

-- item `p` is gone
front_without : (p : ℕ) (front : Text) (items : List Item) → (without_item p front items).front ≡ front ++ gained (λ n. p == n) items 0
front_without p front [] = sym (append-nil front) ∙ ap (λ t. front ++ t) (nothing (p == zero))
  where
    nothing : (b : Bool) → ◌≡◌ {A = Text} [] (if b then [] else [])
    nothing true = refl
    nothing false = refl
front_without zero front (first ∷ items) = ap (λ t. front ++ t) (sym (cond-true (zero == zero) first.trail [] (eq-eqb zero zero refl)))
front_without (suc p) front (first ∷ items) = sym (append-nil front) ∙ ap (λ t. front ++ t) (sym (cond-false (suc p == zero) first.trail [] (suc-zero p)))

item_without : (p : ℕ) (front : Text) (items : List Item) (n : ℕ) (item : Item) → (p == n) ≡ false → slice_get items n ≡ Some item →
    slice_get (without_item p front items).items (number_with_one_less p n) ≡ Some (record item { trail = item.trail ++ gained (λ n. p == n) items (suc n) })
item_without p front [] n item stays at = absurd (none-some item at)
item_without zero front (first ∷ items) zero item stays at = absurd (both_ways (zero == zero) stays (eq-eqb zero zero refl))
item_without zero front (first ∷ items) (suc n) item stays at =
    at ∙ ap (with_trail item) (sym (append-nil item.trail) ∙ sym (ap (λ t. item.trail ++ t) (gained-after (first ∷ items) 0 (suc (suc n)) (zero-suc (suc n)))))
item_without (suc p) front (first ∷ items) zero item stays at =
    let is = same_Some first item at in
    ap (with_trail first) (front_without p first.trail items ∙ ap (λ t. first.trail ++ t) (sym (gained-suc first items p zero)))
    ∙ ap (λ (i : Item). with_trail i (i.trail ++ gained (λ n. suc p == n) (first ∷ items) 1)) is
item_without (suc p) front (first ∷ items) (suc n) item stays at =
    item_without p first.trail items n item (sym (eq-suc p n) ∙ stays) at ∙ ap (λ t. with_trail item (item.trail ++ t)) (sym (gained-suc first items p (suc n)))

length-without : (p : ℕ) (front : Text) (items : List Item) (item : Item) → slice_get items p ≡ Some item → suc (length (without_item p front items).items) ≡ length items
length-without p front [] item at = absurd (none-some item at)
length-without zero front (first ∷ items) item at = refl
length-without (suc p) front (first ∷ items) item at = ap suc (length-without p first.trail items item at)

-- the item that is meant has another tree
meant_in_place : (change : Tree → Tree) (db : Reading) (o : Option ℕ) →
    KeepsItems (λ n. false) (is_meant o) (λ n. n) (joined (λ n. false) db) db (option_map_or (λ p. let new : Reading = record db { items = with_tree_at p change db.items } in new) o db)
meant_in_place change db None = in_place (is_meant None) db db refl (λ n item at. stands db.items n false item item at refl (λ _. refl))
meant_in_place change db (Some p) = in_place (is_meant (Some p)) db (record db { items = with_tree_at p change db.items }) refl (λ n item at. tree_at p change db.items n item at)

-- the item that is meant is gone
meant_gone : (db : Reading) (o : Option ℕ) →
    KeepsItems (is_meant o) (λ n. false) (number_without o) (joined (is_meant o) db) db (option_map_or (λ p. without_item p db.front db.items) o db)
meant_gone db None = in_place (λ n. false) db db refl (λ n item at. stands db.items n false item item at refl (λ _. refl))
meant_gone db (Some p) = record {
  front = front_without p db.front db.items;
  items = λ n item stays at. record {
    item = record item { trail = item.trail ++ gained (is_meant (Some p)) db.items (suc n) };
    at = item_without p db.front db.items n item stays at;
    trail_is = refl;
    tree_is = λ _. refl;
  };
  order = λ n m a b h _. less-order p n m (other_number p n a) (other_number p m b) h;
}

-- the item that is meant, and its new place
record IsMoveOf (o : Option ℕ) (place : ℕ) (db : Reading) : Type 0 where
  p : ℕ
  found : o ≡ Some p
  moved : Item
  at : slice_get db.items p ≡ Some moved
  within : place ≤ length (without_item p db.front db.items).items

one_move_of : (key_base : Record → Text) (db : Reading) (key : Which) (place : ℕ) → IsAccepted key_base db (ChangeEntry key (Moves place)) → IsMoveOf (item_meant key db.items) place db
one_move_of key_base db key place accepted =
    let it = accepted-is key_base db key (Moves place) accepted in
    let last : last_position db (ChangeEntry key (Moves place)) ≡ length db.items - 1 = ap (λ o. if is_some o then length db.items - 1 else length db.items) it.numbered in
    let high = accepted BadPosition in
    let fewer = length-without it.n db.front db.items it.item it.at in
    record { p = it.n; found = it.found; moved = it.item; at = it.at; within = omega (arith, last, high, fewer) }

one_moved-is : (o : Option ℕ) (place : ℕ) (db : Reading) (it : IsMoveOf o place db) →
    option_map_or (λ p. move_item p place db) o db ≡ with_item place (in_line it.moved.tree) (without_item it.p db.front db.items)
one_moved-is o place db it = ap (λ o. option_map_or (λ p. move_item p place db) o db) it.found
    ∙ ap (λ o. option_map_or (λ (item : Item). with_item place (in_line item.tree) (without_item it.p db.front db.items)) o db) it.at

meant_moved : (db : Reading) (o : Option ℕ) (place : ℕ) (it : IsMoveOf o place db) →
    KeepsItems (is_meant o) (λ n. false) (λ n. number_with_one_more place (number_without o n)) (joined (is_meant o) db) db (option_map_or (λ p. move_item p place db) o db)
meant_moved db o place it = subst
    (λ (o' : Option ℕ). KeepsItems (is_meant o') (λ n. false) (λ n. number_with_one_more place (number_without o' n)) (joined (is_meant o') db) db (option_map_or (λ p. move_item p place db) o db)) (sym it.found)
    (subst (λ (new : Reading). KeepsItems (is_meant (Some it.p)) (λ n. false) (λ n. number_with_one_more place (number_with_one_less it.p n)) (joined (is_meant (Some it.p)) db) db new)
    (sym (one_moved-is o place db it)) placed)
  where
    placed : KeepsItems (is_meant (Some it.p)) (λ n. false) (λ n. number_with_one_more place (number_with_one_less it.p n)) (joined (is_meant (Some it.p)) db) db
        (with_item place (in_line it.moved.tree) (without_item it.p db.front db.items))
    placed =
        let rest = meant_gone db (Some it.p) in record {
          front = rest.front;
          items = λ n item stays at. let stood = rest.items n item stays at in record {
            item = stood.item;
            at = slice_get-insert (without_item it.p db.front db.items).items place (in_line it.moved.tree) it.within (number_with_one_less it.p n) ∙ stood.at;
            trail_is = stood.trail_is;
            tree_is = stood.tree_is;
          };
          order = λ n m a b h w. more-order place (number_with_one_less it.p n) (number_with_one_less it.p m) (rest.order n m a b h w);
        }

-- the entry that is meant has its new key
meant_rekeyed : (key_base : Record → Text) (db : Reading) (key : Which) (to : Text) (o : Option ℕ) →
    KeepsItems (λ n. false) (is_changed key_base db (ChangeEntry key (RenamesKey to))) (λ n. n) (joined (λ n. false) db) db (option_map_or (λ p. entry_changed key (RenamesKey to) p db) o db)
meant_rekeyed key_base db key to None =
    in_place (is_changed key_base db (ChangeEntry key (RenamesKey to))) db db refl
    (λ n item at. stands db.items n (is_changed key_base db (ChangeEntry key (RenamesKey to)) n) item item at refl (λ _. refl))
meant_rekeyed key_base db key to (Some p) =
    in_place (is_changed key_base db (ChangeEntry key (RenamesKey to))) db (with_keys (key_for (entry_meant key (entries_of db)) to) db) refl
    (λ n item at. keys_at (key_for (entry_meant key (entries_of db)) to) db n (is_changed key_base db (ChangeEntry key (RenamesKey to)) n) item at
    (λ e. keyed_tree (key_for (entry_meant key (entries_of db)) to) (entries_of db) (entries_before n db) item.tree
    (λ entry. not_keyed (entries_of db) (entry_meant key (entries_of db)) to (entries_before n db)
    (ap (λ b. b && is_or_refers_to (entries_of db) (entry_meant key (entries_of db)) (entries_before n db)) (sym (passes-at is_any_entry db.items n item at ∙ entry)) ∙ e))))

pub moved_one-stays : moved_one_stays
moved_one-stays key_base db key place accepted =
    let it = one_move_of key_base db key place accepted in (
      it.p,
      it.moved,
      it.found,
      it.at,
      ap (λ (new : Reading). slice_get new.items place) (one_moved-is (item_meant key db.items) place db it)
          ∙ slice_get-insert_same (without_item it.p db.front db.items).items place (in_line it.moved.tree) it.within,
    )

pub untouched_items-stay : untouched_items_stay
untouched_items-stay key_base db (SetField key name value) accepted =
    in_place (is_changed key_base db (SetField key name value)) db (edited key_base db (SetField key name value)) refl
    (λ n item at. changed_at (is_entry key) (of_entry (entry_with_field name value)) db.items n item at)
untouched_items-stay key_base db (DropField key name) accepted =
    in_place (is_changed key_base db (DropField key name)) db (edited key_base db (DropField key name)) refl
    (λ n item at. changed_at (is_entry key) (of_entry (entry_without_field name)) db.items n item at)
untouched_items-stay key_base db (AddEntry place new) accepted = let high = accepted BadPosition in put_in place (item_of new) db (omega (arith, high))
untouched_items-stay key_base db (RemoveEntry key) accepted = removal (is_entry key) db
untouched_items-stay key_base db (MoveEntry key place) accepted =
    let it = move_of key_base db key place accepted in
    subst (λ (new : Reading). KeepsItems (is_first (is_entry key) db.items) (λ n. false) (λ n. number_with_one_more place (number_with_one_less (number_of_first (is_entry key) db.items) n)) (joined (is_first (is_entry key) db.items) db) db new)
    (sym (moved-is key_base db key place it)) (removal_and_place db key place it)
untouched_items-stay key_base db (RenameKey from to) accepted =
    in_place (is_changed key_base db (RenameKey from to)) db (edited key_base db (RenameKey from to)) refl
    (λ n item at. keys_at (key_for (entry_named (entries_of db) from) to) db n (is_changed key_base db (RenameKey from to) n) item at
    (λ e. keyed_tree (key_for (entry_named (entries_of db) from) to) (entries_of db) (entries_before n db) item.tree
    (λ entry. not_keyed (entries_of db) (entry_named (entries_of db) from) to (entries_before n db)
    (ap (λ b. b && is_or_refers_to (entries_of db) (entry_named (entries_of db) from) (entries_before n db)) (sym (passes-at is_any_entry db.items n item at ∙ entry)) ∙ e))))
untouched_items-stay key_base db (RenameMacro from to) accepted =
    in_place (is_changed key_base db (RenameMacro from to)) db (edited key_base db (RenameMacro from to)) refl (λ n item at. renamed_at from to db.items n item at)
untouched_items-stay key_base db (InlineMacro name) accepted = record {
  front = gained_front (defines name) db.front (with_uses_inlined name (text_of_macro name db) db.items)
      ∙ ap (λ t. db.front ++ t) (inlined-gained name (text_of_macro name db) db.items 0);
  items = λ n item stays at. inlined_item name (text_of_macro name db) db.front db.items n item stays at;
  order = λ n m p q h _. removal-order (defines name) db.items n m p q h;
}
untouched_items-stay key_base db (IntroduceMacro name text) accepted = record {
  front = sym (append-nil db.front);
  items = λ n item _ at. stands_alone (edited key_base db (IntroduceMacro name text)).items (number_with_one_more (number_of_first (any_part (holds text)) db.items) n)
      (passes (any_part (holds text)) db.items n) item [] refl (introduced_at name text db.items n item at);
  order = λ n m _ _ h _. more-order (number_of_first (any_part (holds text)) db.items) n m h;
}
untouched_items-stay key_base db (RegenerateKeys depth) accepted =
    in_place (is_changed key_base db (RegenerateKeys depth)) db (edited key_base db (RegenerateKeys depth)) refl
    (λ n item at. keys_at (slice_get (new_keys key_base depth (entries_of db))) db n (is_changed key_base db (RegenerateKeys depth) n) item at
    (λ e.
    let new : ℕ → Option Text = slice_get (new_keys key_base depth (entries_of db)) in
    tree-stays new (entries_of db) (entries_before n db) item.tree
    (not-false (has_its_keys new (entries_of db) (entries_before n db) item.tree)
    (sym (passes-at (λ tree. not (has_its_keys new (entries_of db) (entries_before n db) tree)) db.items n item at) ∙ e))))
untouched_items-stay key_base db (AddMany news) accepted =
    in_place (is_changed key_base db (AddMany news)) db (edited key_base db (AddMany news)) refl
    (λ n item at. stands (db.items ++ map item_of news) n false item item (slice_get-append db.items (map item_of news) n (within db.items n item at) ∙ at) refl (λ _. refl))
untouched_items-stay key_base db (SetType key kind_name) accepted =
    in_place (is_changed key_base db (SetType key kind_name)) db (edited key_base db (SetType key kind_name)) refl
    (λ n item at. changed_at (is_entry key) (of_entry (entry_with_type kind_name)) db.items n item at)
untouched_items-stay key_base db (UndefineMacro name) accepted = removal (defines name) db
untouched_items-stay key_base db (RenameField from to None) accepted =
    in_place (is_changed key_base db (RenameField from to None)) db (edited key_base db (RenameField from to None)) refl (λ n item at. names_at from to db.items n item at)
untouched_items-stay key_base db (RenameField from to (Some key)) accepted =
    in_place (is_changed key_base db (RenameField from to (Some key))) db (edited key_base db (RenameField from to (Some key))) refl
    (λ n item at. changed_at (is_entry key) (of_entry (entry_renamed from to)) db.items n item at)
untouched_items-stay key_base db (DefineMacro name value) accepted = record {
  front = sym (append-nil db.front);
  items = λ n item _ at. put_at (DefinitionTree (definition_as name value)) (definitions_end db.items) db.items n item at;
  order = λ n m _ _ h _. more-order (definitions_end db.items) n m h;
}
untouched_items-stay key_base db (SetMacro name value) accepted =
    in_place (is_changed key_base db (SetMacro name value)) db (edited key_base db (SetMacro name value)) refl
    (λ n item at. changed_at (defines name) (definition_to value) db.items n item at)
untouched_items-stay key_base db (ChangeEntry key (SetsField field value)) accepted = meant_in_place (of_entry (entry_with_one_field field value)) db (item_meant key db.items)
untouched_items-stay key_base db (ChangeEntry key (DropsField field)) accepted = meant_in_place (of_entry (entry_without_one_field field)) db (item_meant key db.items)
untouched_items-stay key_base db (ChangeEntry key (RenamesFields from to)) accepted = meant_in_place (of_entry (entry_renamed from to)) db (item_meant key db.items)
untouched_items-stay key_base db (ChangeEntry key (SetsType kind_name)) accepted = meant_in_place (of_entry (entry_with_type kind_name)) db (item_meant key db.items)
untouched_items-stay key_base db (ChangeEntry key (RenamesKey to)) accepted = meant_rekeyed key_base db key to (item_meant key db.items)
untouched_items-stay key_base db (ChangeEntry key Removes) accepted = meant_gone db (item_meant key db.items)
untouched_items-stay key_base db (ChangeEntry key (Moves place)) accepted = meant_moved db (item_meant key db.items) place (one_move_of key_base db key place accepted)
untouched_items-stay key_base db (ChangeDefinition name k (SetsValue value)) accepted = meant_in_place (definition_to value) db (definition_meant name k db.items)
untouched_items-stay key_base db (ChangeDefinition name k Undefines) accepted = meant_gone db (definition_meant name k db.items)
