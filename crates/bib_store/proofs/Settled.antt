-- Items that are settled: what is said of them stays when a definition comes or goes before them.
use Rattle.bib_store.proofs.Words.{◌≡◌, true, List, [], ◌∷◌, ◌++◌, length, map, Option, refl, sym, ◌∙◌, ap, ap₂, map-append, Text, Tree, Definition, CommentTree, DefinitionTree, PreambleTree, EntryTree, Macros, months, macros_after, macros_at, gathered, EntryTexts, entry_in, keys_of, crossref_text}
use Rattle.bib_store.proofs.Words.{AreSettled, gathered-append, Bounds, AreAllSettled, AreBounded, item_with}
use Rattle.bib_spec.specs.Reading.{Item}

-- ---- items that are settled

pub all_settled : (b : Bounds) (items : List Item) → b.settled ≡ true → AreBounded b items → AreAllSettled items
all_settled b [] e are = tt
all_settled b (i ∷ items) e are = (are.0.settled e, all_settled b items e are.1)

pub settled_texts : (items : List Item) → AreAllSettled items → AreSettled items
settled_texts [] all a b = refl
settled_texts (i ∷ items) all a b =
    ap₂ (λ (l r : List (Text × Text)). l ++ r) (all.0.text a b) (settled_texts items all.1 (macros_after a i.tree) (macros_after b i.tree))

pub settled_crossrefs : (items : List Item) → AreAllSettled items → (a b : Macros) → map crossref_text (gathered entry_in a items) ≡ map crossref_text (gathered entry_in b items)
settled_crossrefs [] all a b = refl
settled_crossrefs (i ∷ items) all a b =
    map-append crossref_text (entry_in a i.tree) (gathered entry_in (macros_after a i.tree) items)
    ∙ ap₂ (λ (l r : List (Option Text)). l ++ r) (all.0.crossref a b) (settled_crossrefs items all.1 (macros_after a i.tree) (macros_after b i.tree))
    ∙ sym (map-append crossref_text (entry_in b i.tree) (gathered entry_in (macros_after b i.tree) items))

-- keys are the same anyway
key_same : (a b : Macros) (tree : Tree) → keys_of (entry_in a tree) ≡ keys_of (entry_in b tree)
key_same a b (EntryTree e) = refl
key_same a b (CommentTree h) = refl
key_same a b (DefinitionTree d) = refl
key_same a b (PreambleTree p) = refl

pub keys_same : (items : List Item) (a b : Macros) → keys_of (gathered entry_in a items) ≡ keys_of (gathered entry_in b items)
keys_same [] a b = refl
keys_same (i ∷ items) a b =
    let key = λ (entry : EntryTexts). entry.key in
    map-append key (entry_in a i.tree) (gathered entry_in (macros_after a i.tree) items)
    ∙ ap₂ (λ (l r : List Text). l ++ r) (key_same a b i.tree) (keys_same items (macros_after a i.tree) (macros_after b i.tree))
    ∙ sym (map-append key (entry_in b i.tree) (gathered entry_in (macros_after b i.tree) items))

-- ---- a definition

-- a definition among settled items leaves what is said of entries
module _ (before after : List Item) (d : Definition) (trail : Text) (all : AreAllSettled after) where
  abbrev here : Macros
  here = macros_at months before (length before)

  abbrev x : Item
  x = item_with (DefinitionTree d) trail

  abbrev first : List EntryTexts
  first = gathered entry_in months before

  said : gathered entry_in months (before ++ x ∷ after) ≡ first ++ gathered entry_in (macros_after here x.tree) after
  said = gathered-append entry_in months before (x ∷ after)

  pub same_keys : keys_of (gathered entry_in months (before ++ x ∷ after)) ≡ keys_of (gathered entry_in months (before ++ after))
  same_keys =
      let key = λ (entry : EntryTexts). entry.key in
      ap keys_of said
      ∙ map-append key first (gathered entry_in (macros_after here x.tree) after)
      ∙ ap (λ (l : List Text). keys_of first ++ l) (keys_same after (macros_after here x.tree) here)
      ∙ sym (map-append key first (gathered entry_in here after))
      ∙ ap keys_of (sym (gathered-append entry_in months before after))

  pub same_crossrefs : map crossref_text (gathered entry_in months (before ++ x ∷ after)) ≡ map crossref_text (gathered entry_in months (before ++ after))
  same_crossrefs =
      ap (map crossref_text) said
      ∙ map-append crossref_text first (gathered entry_in (macros_after here x.tree) after)
      ∙ ap (λ (l : List (Option Text)). map crossref_text first ++ l) (settled_crossrefs after all (macros_after here x.tree) here)
      ∙ sym (map-append crossref_text first (gathered entry_in here after))
      ∙ ap (map crossref_text) (sym (gathered-append entry_in months before after))
