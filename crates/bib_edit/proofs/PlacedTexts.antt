-- What a removal, an insertion and new entries at the end make of the raw texts that are too long.
use Rattle.bib_edit.proofs.Words.{◌≡◌, ℕ, zero, suc, Bool, false, ◌||◌, List, [], ◌∷◌, ◌++◌, insert, length, map, ⊎_elim, refl, ◌∙◌, ap, or-false, list_any, cases_Bool, cond-true, cond-false, or_parts, or_from, Text, Entry, Tree, CommentTree, DefinitionTree, PreambleTree, EntryTree, Item, Reading}
use Rattle.bib_edit.proofs.Words.{Macros, macros_after, macros_at, raw_texts_in, is_entry, without_first, entry_of, item_of}
use Rattle.edit_spec.specs.Edits.{NewEntry}
use Rattle.bib_edit.proofs.LongTexts.{is_long, any_long}

-- some raw text of the item is too long, where these macros stand before it
abbrev pub is_long_in : Macros → Tree → Bool
is_long_in m tree = list_any is_long (raw_texts_in m tree)

-- ---- a removal

module _ (key : Text) where
  abbrev item_as : Tree → Text → Item
  item_as tree trail = record { tree = tree; trail = trail }

  abbrev gone : Text → Text → List Item → Reading
  gone front trail items = record { front = front ++ trail; items = items }

  abbrev stays : Tree → Text → Text → List Item → Reading
  stays tree front trail items =
      let rest = without_first (is_entry key) trail items in
      record { front = front; items = item_as tree rest.front ∷ rest.items }

  removed_after : (m : Macros) (front : Text) (tree : Tree) (trail : Text) (items : List Item) →
      (any_long (macros_after m tree) items ≡ false → any_long (macros_after m tree) (without_first (is_entry key) trail items).items ≡ false) →
      any_long m (item_as tree trail ∷ items) ≡ false → any_long m (without_first (is_entry key) front (item_as tree trail ∷ items)).items ≡ false
  removed_after m front (CommentTree h) trail items rest none = rest none
  removed_after m front (DefinitionTree d) trail items rest none =
      let both = or_parts (is_long_in m (DefinitionTree d)) (any_long (macros_after m (DefinitionTree d)) items) none in
      or_from (is_long_in m (DefinitionTree d)) (any_long (macros_after m (DefinitionTree d)) (without_first (is_entry key) trail items).items) both.0 (rest both.1)
  removed_after m front (PreambleTree p) trail items rest none =
      let both = or_parts (is_long_in m (PreambleTree p)) (any_long m items) none in
      or_from (is_long_in m (PreambleTree p)) (any_long m (without_first (is_entry key) trail items).items) both.0 (rest both.1)
  removed_after m front (EntryTree e) trail items rest none =
      let both = or_parts (is_long_in m (EntryTree e)) (any_long m items) none in
      ⊎_elim
      (λ t. ap (λ (db : Reading). any_long m db.items) (cond-true (is_entry key (EntryTree e)) (gone front trail items) (stays (EntryTree e) front trail items) t) ∙ both.1)
      (λ t. ap (λ (db : Reading). any_long m db.items) (cond-false (is_entry key (EntryTree e)) (gone front trail items) (stays (EntryTree e) front trail items) t)
      ∙ or_from (is_long_in m (EntryTree e)) (any_long m (without_first (is_entry key) trail items).items) both.0 (rest both.1))
      (cases_Bool (is_entry key (EntryTree e)))

  pub removed-short : (m : Macros) (front : Text) (items : List Item) → any_long m items ≡ false → any_long m (without_first (is_entry key) front items).items ≡ false
  removed-short m front [] none = refl
  removed-short m front (item ∷ items) none = removed_after m front item.tree item.trail items (removed-short (macros_after m item.tree) item.trail items) none

-- ---- an insertion

after_entry : (m : Macros) (tree : Tree) (e : Entry) → tree ≡ EntryTree e → macros_after m tree ≡ m
after_entry m tree e is = ap (macros_after m) is

-- an entry is put in before item n, or after the last
pub inserted-long : (m : Macros) (items : List Item) (n : ℕ) (item : Item) (e : Entry) → item.tree ≡ EntryTree e → any_long m items ≡ false →
    any_long m (insert items n item) ≡ is_long_in (macros_at m items n) item.tree
inserted-long m items zero item e is none = ap (λ b. is_long_in m item.tree || b) (ap (λ (a : Macros). any_long a items) (after_entry m item.tree e is) ∙ none) ∙ or-false (is_long_in m item.tree)
inserted-long m [] (suc n) item e is none = or-false (is_long_in m item.tree)
inserted-long m (first ∷ items) (suc n) item e is none =
    let both = or_parts (is_long_in m first.tree) (any_long (macros_after m first.tree) items) none in
    ap (λ b. b || any_long (macros_after m first.tree) (insert items n item)) both.0
    ∙ inserted-long (macros_after m first.tree) items n item e is both.1

-- ---- entries at the end

-- new entries after the last item
pub appended-long : (m : Macros) (items : List Item) (news : List NewEntry) → any_long m items ≡ false →
    any_long m (items ++ map item_of news) ≡ list_any (λ new. is_long_in (macros_at m items (length items)) (EntryTree (entry_of new))) news
appended-long m [] [] none = refl
appended-long m [] (new ∷ news) none = ap (λ b. is_long_in m (EntryTree (entry_of new)) || b) (appended-long m [] news none)
appended-long m (first ∷ items) news none =
    let both = or_parts (is_long_in m first.tree) (any_long (macros_after m first.tree) items) none in
    ap (λ b. b || any_long (macros_after m first.tree) (items ++ map item_of news)) both.0
    ∙ appended-long (macros_after m first.tree) items news both.1
