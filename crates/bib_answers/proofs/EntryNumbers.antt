-- How many entries there are, and the key of each.
use Rattle.bib_answers.proofs.Words.{⊎_elim, ◌≡◌, ℕ, ◌<◌, List, [], ◌∷◌, length, map, Option, Some, slice_get, option_map, refl, sym, ap, ◌∙◌, option_map_or, length-map, slice_get-map, slice_get_cases, same_Some, Text, Tree, CommentTree, DefinitionTree, PreambleTree, EntryTree, Item, Reading}
use Rattle.bib_answers.proofs.Words.{Macros, months, EntryTexts, entries_of, keys_of, View, view_of, key_of, entry_items, key_at}
use Rattle.std.proofs.Common.{arith}
use Rattle.bib_spec.specs.Texts.{macros_after, gathered}
use Rattle.bib_spec.specs.Records.{entry_in}

-- ---- keys

abbrev tree_key : Item → Text
tree_key item = key_of item.tree

abbrev made_item : Tree → Text → Item
made_item tree trail = record { tree = tree; trail = trail }

keys_of_items : (macros : Macros) (items : List Item) → keys_of (gathered entry_in macros items) ≡ map tree_key (entry_items items)
keys_of_items macros [] = refl
keys_of_items macros (item ∷ items) = of_tree item.tree (keys_of_items (macros_after macros item.tree) items)
  where
    of_tree : (tree : Tree) → keys_of (gathered entry_in (macros_after macros tree) items) ≡ map tree_key (entry_items items)
        → keys_of (gathered entry_in macros (made_item tree item.trail ∷ items)) ≡ map tree_key (entry_items (made_item tree item.trail ∷ items))
    of_tree (CommentTree h) rest = rest
    of_tree (DefinitionTree d) rest = rest
    of_tree (PreambleTree p) rest = rest
    of_tree (EntryTree entry) rest = ap (λ (keys : List Text). entry.key ∷ keys) rest

pub count_of_entries : (db : Reading) → length (entries_of db) ≡ length (entry_items db.items)
count_of_entries db =
    sym (length-map (entries_of db) (λ (entry : EntryTexts). entry.key))
    ∙ ap (length {A = Text}) (keys_of_items months db.items)
    ∙ length-map (entry_items db.items) tree_key

-- the view of an entry by its number has its key
pub entry_key : (db : Reading) (n : ℕ) (view : View) → n < length (entries_of db)
    → ((item : Item) → slice_get (entry_items db.items) n ≡ Some item → view ≡ view_of item) → view.key ≡ key_at (entries_of db) n
entry_key db n view within is = ⊎_elim
    (λ a. ⊎_elim
    (λ b. of a.0 a.2 b.0 b.2)
    (λ b. absurd (let few = b.0 in omega (arith, within, few, count_of_entries db)))
    (slice_get_cases (entry_items db.items) n).1)
    (λ a. absurd (let few = a.0 in omega (arith, within, few)))
    (slice_get_cases (entries_of db) n).1
  where
    same_keys : option_map (λ (entry : EntryTexts). entry.key) (slice_get (entries_of db) n) ≡ option_map tree_key (slice_get (entry_items db.items) n)
    same_keys = sym (slice_get-map (λ (entry : EntryTexts). entry.key) (entries_of db) n)
        ∙ ap (λ (keys : List Text). slice_get keys n) (keys_of_items months db.items)
        ∙ slice_get-map tree_key (entry_items db.items) n

    of : (entry : EntryTexts) → slice_get (entries_of db) n ≡ Some entry → (item : Item) → slice_get (entry_items db.items) n ≡ Some item → view.key ≡ key_at (entries_of db) n
    of entry a item b =
        let keys : Some entry.key ≡ Some (tree_key item) = sym (ap (option_map (λ (entry : EntryTexts). entry.key)) a) ∙ same_keys ∙ ap (option_map tree_key) b in
        ap (λ (v : View). v.key) (is item b) ∙ sym (same_Some entry.key (tree_key item) keys)
        ∙ sym (ap (λ (o : Option EntryTexts). option_map_or (λ (entry : EntryTexts). entry.key) o []) a)
