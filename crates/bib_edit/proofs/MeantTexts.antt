-- The entry that is meant by its number among several: its item, its texts, and that there is none.
use Rattle.bib_edit.proofs.Words.{◌≡◌, ℕ, zero, suc, true, false, ◌||◌, List, [], ◌∷◌, Option, Some, None, slice_get, option_map, option_and_then, option_map_or, length, take, refl, ◌∙◌, ap, false≢true, none-some, same_Some, Text, Entry, Tree, CommentTree, DefinitionTree, PreambleTree, EntryTree, Item, Reading, Macros, months, macros_after, macros_at, gathered}
use Rattle.bib_edit.proofs.Words.{EntryTexts, entry_in, texts_of, entries_of, is_named, is_entry, holders, Record}
use Rattle.edit_spec.specs.Edits as edits
use Rattle.edit_spec.specs.Edits.{Which, EntryChange, item_meant, entry_meant, texts_meant, number_of, lacks, repeats, is_unclear}
use Rattle.edit_spec.proofs.MeantMembers.{nth_of-at, meant-number}
use Rattle.bib_edit.proofs.MeantItems.{item_at}

entry_there : (name : Text) (tree : Tree) → is_entry name tree ≡ true → (e : Entry) × (tree ≡ EntryTree e) × (is_named name e.key ≡ true)
entry_there name (EntryTree e) h = (e, refl, h)
entry_there name (CommentTree c) h = absurd (false≢true h)
entry_there name (DefinitionTree d) h = absurd (false≢true h)
entry_there name (PreambleTree p) h = absurd (false≢true h)

first_texts : (m : Macros) (tree : Tree) (trail : Text) (items : List Item) (n : ℕ) (x : Option EntryTexts) →
    slice_get (gathered entry_in (macros_after m tree) items) (length (gathered entry_in (macros_after m tree) (take n items))) ≡ x →
    slice_get (gathered entry_in m (item_at tree trail ∷ items)) (length (gathered entry_in m (item_at tree trail ∷ take n items))) ≡ x
first_texts m (EntryTree e) trail items n x h = h
first_texts m (CommentTree c) trail items n x h = h
first_texts m (DefinitionTree d) trail items n x h = h
first_texts m (PreambleTree p) trail items n x h = h

-- the texts of the entry that is item n
texts_at : (m : Macros) (n : ℕ) (items : List Item) (e : Entry) (trail : Text) → slice_get items n ≡ Some (item_at (EntryTree e) trail) →
    slice_get (gathered entry_in m items) (length (gathered entry_in m (take n items))) ≡ Some (texts_of (macros_at m items n) e)
texts_at m n [] e trail at = absurd (none-some (item_at (EntryTree e) trail) at)
texts_at m zero (first ∷ items) e trail at = ap (λ (i : Item). slice_get (gathered entry_in m (i ∷ items)) zero) (same_Some first (item_at (EntryTree e) trail) at)
texts_at m (suc n) (first ∷ items) e trail at =
    first_texts m first.tree first.trail items n (Some (texts_of (macros_at (macros_after m first.tree) items n) e)) (texts_at (macros_after m first.tree) n items e trail at)

-- the entry that is meant
pub record IsMeantEntry (key : Which) (db : Reading) (n : ℕ) : Type 0 where
  pub entry : Entry
  pub trail : Text
  pub at : slice_get db.items n ≡ Some (item_at (EntryTree entry) trail)
  pub named : is_named key.name entry.key ≡ true
  pub number : entry_meant key (entries_of db) ≡ Some (length (gathered entry_in months (take n db.items)))
  pub texts : texts_meant key db ≡ Some (texts_of (macros_at months db.items n) entry)

pub meant-entry : (key : Which) (db : Reading) (n : ℕ) → item_meant key db.items ≡ Some n → IsMeantEntry key db n
meant-entry key db n found =
    let it = nth_of-at (λ (item : Item). is_entry key.name item.tree) (number_of key) db.items n found in
    let there = entry_there key.name it.0.tree it.2 in
    let at : slice_get db.items n ≡ Some (item_at (EntryTree there.0) it.0.trail) = it.1 ∙ ap (λ (tree : Tree). Some (item_at tree it.0.trail)) there.1 in
    let number : entry_meant key (entries_of db) ≡ Some (length (gathered entry_in months (take n db.items))) =
    meant-number key.name (number_of key) months db.items ∙ ap (option_map (λ n. length (gathered entry_in months (take n db.items)))) found in
    record {
      entry = there.0;
      trail = it.0.trail;
      at = at;
      named = there.2;
      number = number;
      texts = ap (option_and_then (slice_get (entries_of db))) number ∙ texts_at months n db.items there.0 it.0.trail at;
    }

-- no entry is meant
pub none-meant : (key : Which) (db : Reading) → item_meant key db.items ≡ None → texts_meant key db ≡ None
none-meant key db none = ap (option_and_then (slice_get (entries_of db)))
    (meant-number key.name (number_of key) months db.items ∙ ap (option_map (λ n. length (gathered entry_in months (take n db.items)))) none)

-- ---- what the reasons say of it

module _ (base : Record → Text) (key : Which) (change : EntryChange) (db : Reading) where
  abbrev asked : edits.Edit
  asked = edits.ChangeEntry key change

  -- it is not there
  pub meant-missing : item_meant key db.items ≡ None → edits.Refuses base edits.NotFound db asked
  meant-missing none = ap (λ o. option_map_or (lacks change) o true) (none-meant key db none)

  module _ (n : ℕ) (it : IsMeantEntry key db n) where
    abbrev its_texts : EntryTexts
    its_texts = texts_of (macros_at months db.items n) it.entry

    -- it is there, and lacks something or not
    pub lacks-is : option_map_or (lacks change) (texts_meant key db) true ≡ lacks change its_texts
    lacks-is = ap (λ o. option_map_or (lacks change) o true) it.texts

    pub repeats-is : (is_unclear key (holders key.name db) || option_map_or (repeats change) (texts_meant key db) false) ≡ (is_unclear key (holders key.name db) || repeats change its_texts)
    repeats-is = ap (λ o. is_unclear key (holders key.name db) || option_map_or (repeats change) o false) it.texts
