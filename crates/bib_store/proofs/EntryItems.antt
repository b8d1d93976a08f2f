-- Entries and preambles by their numbers: which items they are, and what is said of them.
use Rattle.bib_store.proofs.Words.{◌≡◌, ℕ, ◌<◌, true, false, List, [], ◌∷◌, length, Some, option_map, refl, sym, ◌∙◌, ap, subst, both_ways, slice_get-map, slice_get_within, same_Some, Text, Tree, Entry, Preamble, CommentTree, DefinitionTree, PreambleTree, EntryTree, Reading, Macros, months}
use Rattle.bib_store.proofs.Words.{macros_at, raw_text, EntryTexts, texts_of, entry_in, entries_of, preambles_of, keys_of, View, view_of, key_of, is_entry_tree, entry_numbers, is_preamble_tree, preamble_numbers}
use Rattle.std.proofs.Common.{slice_get, zero-add}
use Rattle.bib_spec.specs.Reading.{Item}
use Rattle.bib_spec.specs.Records.{preamble_in}
use Rattle.bib_store.specs.Readings.{entry_items}
use Rattle.bib_store.proofs.Numbered.{StandsAt, length-numbers, length-those, stands_at}

-- ---- entries

entry_silent : (m : Macros) (t : Tree) → is_entry_tree t ≡ false → entry_in m t ≡ []
entry_silent m (CommentTree h) e = refl
entry_silent m (DefinitionTree d) e = refl
entry_silent m (PreambleTree p) e = refl
entry_silent m (EntryTree entry) e = absurd (both_ways (is_entry_tree (EntryTree entry)) e refl)

entry_speaks : (m : Macros) (t : Tree) → is_entry_tree t ≡ true → (x : EntryTexts) × (entry_in m t ≡ x ∷ [])
entry_speaks m (CommentTree h) e = absurd (both_ways (is_entry_tree (CommentTree h)) refl e)
entry_speaks m (DefinitionTree d) e = absurd (both_ways (is_entry_tree (DefinitionTree d)) refl e)
entry_speaks m (PreambleTree p) e = absurd (both_ways (is_entry_tree (PreambleTree p)) refl e)
entry_speaks m (EntryTree entry) e = (texts_of m entry, refl)

pub entry_tree : (t : Tree) → is_entry_tree t ≡ true → (e : Entry) × (t ≡ EntryTree e)
entry_tree (CommentTree h) e = absurd (both_ways (is_entry_tree (CommentTree h)) refl e)
entry_tree (DefinitionTree d) e = absurd (both_ways (is_entry_tree (DefinitionTree d)) refl e)
entry_tree (PreambleTree p) e = absurd (both_ways (is_entry_tree (PreambleTree p)) refl e)
entry_tree (EntryTree entry) e = (entry, refl)

pub length-entry_numbers : (db : Reading) → length (entry_numbers db.items) ≡ length (entries_of db)
length-entry_numbers db = length-numbers is_entry_tree entry_in entry_silent entry_speaks months 0 db.items

pub length-entry_items : (db : Reading) → length (entry_items db.items) ≡ length (entries_of db)
length-entry_items db = length-those is_entry_tree entry_in entry_silent entry_speaks months db.items

pub number_of_entry : (db : Reading) (n : ℕ) → n < length (entries_of db) → n < length (entry_numbers db.items)
number_of_entry db n h = subst (λ (k : ℕ). n < k) (sym (length-entry_numbers db)) h

-- The item is entry n: its tree is that of an entry, its number is the one that it has among the items, and its texts
-- are those by the macros before it.
pub record IsEntryAt (db : Reading) (n : ℕ) (item : Item) : Type 0 where
  pub number : ℕ
  pub entry : Entry
  pub is : item.tree ≡ EntryTree entry
  pub stands : slice_get db.items number ≡ Some item
  pub numbered : slice_get (entry_numbers db.items) n ≡ Some number
  pub listed : slice_get (entry_items db.items) n ≡ Some item
  pub texts : slice_get (entries_of db) n ≡ Some (texts_of (macros_at months db.items number) entry)

-- each entry is an item
pub entry_at : (db : Reading) (n : ℕ) → n < length (entries_of db) → (i : Item) × IsEntryAt db n i
entry_at db n h =
    let s : StandsAt is_entry_tree entry_in months 0 db.items n = stands_at is_entry_tree entry_in entry_silent entry_speaks months 0 db.items n h in
    let tree = entry_tree s.item.tree s.is_such in
    let it : IsEntryAt db n s.item = record {
      number = s.place;
      entry = tree.0;
      is = tree.1;
      stands = s.stands;
      numbered = s.number ∙ ap Some (zero-add s.place);
      listed = s.listed;
      texts = s.told ∙ ap (λ (l : List EntryTexts). slice_get l 0) (sym s.says ∙ ap (entry_in (macros_at months db.items s.place)) tree.1);
    } in
    (s.item, it)

-- each such item is an entry
pub entry_of_item : (db : Reading) (n : ℕ) (i : Item) → slice_get (entry_items db.items) n ≡ Some i → IsEntryAt db n i
entry_of_item db n i at =
    let h : n < length (entries_of db) = subst (λ (k : ℕ). n < k) (length-entry_items db) (slice_get_within (entry_items db.items) n i at) in
    let e = entry_at db n h in
    subst (IsEntryAt db n) (same_Some e.0 i (sym e.1.listed ∙ at)) e.1

-- the key of entry n
pub key_at_entry : (db : Reading) (n : ℕ) (i : Item) (e : IsEntryAt db n i) → slice_get (keys_of (entries_of db)) n ≡ Some e.entry.key
key_at_entry db n i e = slice_get-map (λ (entry : EntryTexts). entry.key) (entries_of db) n ∙ ap (option_map (λ (entry : EntryTexts). entry.key)) e.texts

-- entry n is the item that has its number
pub entry_stands : (db : Reading) (n m : ℕ) (i : Item) → slice_get (entry_numbers db.items) n ≡ Some m → slice_get (entry_items db.items) n ≡ Some i → slice_get db.items m ≡ Some i
entry_stands db n m i numbered listed =
    let e : IsEntryAt db n i = entry_of_item db n i listed in
    ap (slice_get db.items) (same_Some m e.number (sym numbered ∙ e.numbered)) ∙ e.stands

pub entry_within : (db : Reading) (n m : ℕ) → n < length (entries_of db) → slice_get (entry_numbers db.items) n ≡ Some m → m < length db.items
entry_within db n m h numbered =
    let e = entry_at db n h in
    subst (λ (k : ℕ). k < length db.items) (same_Some e.1.number m (sym e.1.numbered ∙ numbered)) (slice_get_within db.items e.1.number e.0 e.1.stands)

-- the key that is seen of entry n
pub key_seen : (db : Reading) (n : ℕ) (i : Item) (e : IsEntryAt db n i) (key : Text) (seen : View) → key ≡ seen.key → seen ≡ view_of i → key ≡ e.entry.key
key_seen db n i e key seen key_is sees = key_is ∙ ap (λ (v : View). v.key) sees ∙ ap key_of e.is

-- ---- preambles

preamble_silent : (m : Macros) (t : Tree) → is_preamble_tree t ≡ false → preamble_in m t ≡ []
preamble_silent m (CommentTree h) e = refl
preamble_silent m (DefinitionTree d) e = refl
preamble_silent m (PreambleTree p) e = absurd (both_ways (is_preamble_tree (PreambleTree p)) e refl)
preamble_silent m (EntryTree entry) e = refl

preamble_speaks : (m : Macros) (t : Tree) → is_preamble_tree t ≡ true → (x : Text) × (preamble_in m t ≡ x ∷ [])
preamble_speaks m (CommentTree h) e = absurd (both_ways (is_preamble_tree (CommentTree h)) refl e)
preamble_speaks m (DefinitionTree d) e = absurd (both_ways (is_preamble_tree (DefinitionTree d)) refl e)
preamble_speaks m (PreambleTree p) e = (raw_text m p.value, refl)
preamble_speaks m (EntryTree entry) e = absurd (both_ways (is_preamble_tree (EntryTree entry)) refl e)

preamble_tree : (t : Tree) → is_preamble_tree t ≡ true → (p : Preamble) × (t ≡ PreambleTree p)
preamble_tree (CommentTree h) e = absurd (both_ways (is_preamble_tree (CommentTree h)) refl e)
preamble_tree (DefinitionTree d) e = absurd (both_ways (is_preamble_tree (DefinitionTree d)) refl e)
preamble_tree (PreambleTree p) e = (p, refl)
preamble_tree (EntryTree entry) e = absurd (both_ways (is_preamble_tree (EntryTree entry)) refl e)

pub length-preamble_numbers : (db : Reading) → length (preamble_numbers db.items) ≡ length (preambles_of db)
length-preamble_numbers db = length-numbers is_preamble_tree preamble_in preamble_silent preamble_speaks months 0 db.items

pub number_of_preamble : (db : Reading) (n : ℕ) → n < length (preambles_of db) → n < length (preamble_numbers db.items)
number_of_preamble db n h = subst (λ (k : ℕ). n < k) (sym (length-preamble_numbers db)) h

-- preamble n: its item with the number that it has among the items, and its raw text, by the macros before it
pub record IsPreambleAt (db : Reading) (n : ℕ) : Type 0 where
  pub number : ℕ
  pub item : Item
  pub preamble : Preamble
  pub is : item.tree ≡ PreambleTree preamble
  pub stands : slice_get db.items number ≡ Some item
  pub numbered : slice_get (preamble_numbers db.items) n ≡ Some number
  pub text : slice_get (preambles_of db) n ≡ Some (raw_text (macros_at months db.items number) preamble.value)

-- there is an item for each preamble
pub preamble_at : (db : Reading) (n : ℕ) → n < length (preambles_of db) → IsPreambleAt db n
preamble_at db n h =
    let s : StandsAt is_preamble_tree preamble_in months 0 db.items n = stands_at is_preamble_tree preamble_in preamble_silent preamble_speaks months 0 db.items n h in
    let tree = preamble_tree s.item.tree s.is_such in
    record {
      number = s.place;
      item = s.item;
      preamble = tree.0;
      is = tree.1;
      stands = s.stands;
      numbered = s.number ∙ ap Some (zero-add s.place);
      text = s.told ∙ ap (λ (l : List Text). slice_get l 0) (sym s.says ∙ ap (preamble_in (macros_at months db.items s.place)) tree.1);
    }

pub preamble_within : (db : Reading) (n m : ℕ) → n < length (preambles_of db) → slice_get (preamble_numbers db.items) n ≡ Some m → m < length db.items
preamble_within db n m h numbered =
    let p : IsPreambleAt db n = preamble_at db n h in
    subst (λ (k : ℕ). k < length db.items) (same_Some p.number m (sym p.numbered ∙ numbered)) (slice_get_within db.items p.number p.item p.stands)
