-- An item replaces another of its kind: what is said of the items stays, except for its texts.
use Rattle.bib_store.proofs.Words.{◌≡◌, ℕ, zero, suc, ◌+◌, cond, Bool, true, false, List, [], ◌∷◌, ◌++◌, length, map, Option, Some, None, option_map, refl, sym, ◌∙◌, ap, ap₂, subst, flat_map, option_or, none-some, map-append, Text, Tree, Entry, EntryTree, item_bytes, Macros, months, macros_after}
use Rattle.bib_store.proofs.Words.{macros_at, gathered, raw_texts_from, raw_texts_in, value_places, EntryTexts, texts_of, entry_in, keys_of, crossref_text, Tables, is_entry_tree, is_preamble_tree, IsTableOf, definitions_alike, is_definition_tree, defined_by, definitions_in, IsBounded, AreBounded}
use Rattle.bib_store.proofs.Words.{first_too_long, placed_texts, AreTablesOf, with_bounds, Bounds, numbered, numbers, gathered-append}
use Rattle.std.specs.List.{zip}
use Rattle.bib_spec.specs.Reading.{Item}
use Rattle.bib_store.proofs.BoundedItems.{bounded_with, bounded_without}
use Rattle.bib_store.proofs.OneItemMore.{raw_texts-append, first-append, first-shift}

-- ---- numbers

abbrev pub first_of : List (ℕ × Item) → List ℕ
first_of ps = map (λ (p : ℕ × Item). p.0) ps

pub first_kept : (b : Bool) (p q : ℕ × Item) (ps qs : List (ℕ × Item)) → p.0 ≡ q.0 → first_of ps ≡ first_of qs → first_of (cond b (p ∷ ps) ps) ≡ first_of (cond b (q ∷ qs) qs)
first_kept true p q ps qs e h = ap₂ (λ (n : ℕ) (ns : List ℕ). n ∷ ns) e h
first_kept false p q ps qs e h = h

module _ (test : Tree → Bool) where
  -- an item in the place of another of its kind changes no number
  pub numbers_same : (k : ℕ) (before after : List Item) (x y : Item) → test x.tree ≡ test y.tree → numbers test k (before ++ x ∷ after) ≡ numbers test k (before ++ y ∷ after)
  numbers_same k [] after x y e =
      let rest : List (ℕ × Item) = numbered test (k + 1) after in
      ap (λ (b : Bool). first_of (cond b ((k, x) ∷ rest) rest)) e ∙ first_kept (test y.tree) (k, x) (k, y) rest rest refl refl
  numbers_same k (z ∷ before) after x y e =
      first_kept (test z.tree) (k, z) (k, z) (numbered test (k + 1) (before ++ x ∷ after)) (numbered test (k + 1) (before ++ y ∷ after)) refl (numbers_same (k + 1) before after x y e)

-- ---- macros

pub macros_same : (m : Macros) (before after : List Item) (x y : Item) → ((m : Macros) → macros_after m x.tree ≡ macros_after m y.tree) → (k : ℕ) → macros_at m (before ++ x ∷ after) k ≡ macros_at m (before ++ y ∷ after) k
macros_same m [] after x y same zero = refl
macros_same m [] after x y same (suc k) = ap (λ (n : Macros). macros_at n after k) (same m)
macros_same m (z ∷ before) after x y same zero = refl
macros_same m (z ∷ before) after x y same (suc k) = macros_same (macros_after m z.tree) before after x y same k

-- ---- texts that are too long

pub none_both : (a b : Option ℕ) → option_or a b ≡ None → (a ≡ None) × (b ≡ None)
none_both None b e = (refl, e)
none_both (Some n) b e = absurd (none-some n (sym e))

none_shifted : (f : ℕ → ℕ) (a : Option ℕ) → option_map f a ≡ None → a ≡ None
none_shifted f None e = refl
none_shifted f (Some n) e = absurd (none-some (f n) (sym e))

-- the texts of an item are as long elsewhere in the file
here_fits : (at : ℕ) (m : Macros) (item : Item) → first_too_long (placed_texts m item.tree) ≡ None → first_too_long (zip (map (λ place. at + place) (value_places item.tree)) (raw_texts_in m item.tree)) ≡ None
here_fits at m item e = first-shift at (value_places item.tree) (raw_texts_in m item.tree) ∙ ap (option_map (λ place. at + place)) e

fits_here : (at : ℕ) (m : Macros) (item : Item) → first_too_long (zip (map (λ place. at + place) (value_places item.tree)) (raw_texts_in m item.tree)) ≡ None → first_too_long (placed_texts m item.tree) ≡ None
fits_here at m item e = none_shifted (λ place. at + place) (first_too_long (placed_texts m item.tree)) (sym (first-shift at (value_places item.tree) (raw_texts_in m item.tree)) ∙ e)

-- the first of some items, and the others
pub fit_parts : (at : ℕ) (m : Macros) (item : Item) (items : List Item) → first_too_long (raw_texts_from at m (item ∷ items)) ≡ None
    → (first_too_long (placed_texts m item.tree) ≡ None) × (first_too_long (raw_texts_from (at + length (item_bytes item)) (macros_after m item.tree) items) ≡ None)
fit_parts at m item items e =
    let here = zip (map (λ place. at + place) (value_places item.tree)) (raw_texts_in m item.tree) in
    let later = raw_texts_from (at + length (item_bytes item)) (macros_after m item.tree) items in
    let both = none_both (first_too_long here) (first_too_long later) (sym (first-append here later) ∙ e) in
    (fits_here at m item both.0, both.1)

pub fit_joined : (at : ℕ) (m : Macros) (item : Item) (items : List Item) → first_too_long (placed_texts m item.tree) ≡ None
    → first_too_long (raw_texts_from (at + length (item_bytes item)) (macros_after m item.tree) items) ≡ None → first_too_long (raw_texts_from at m (item ∷ items)) ≡ None
fit_joined at m item items e f =
    let here = zip (map (λ place. at + place) (value_places item.tree)) (raw_texts_in m item.tree) in
    let later = raw_texts_from (at + length (item_bytes item)) (macros_after m item.tree) items in
    first-append here later ∙ ap₂ option_or (here_fits at m item e) f

fit_elsewhere : (at there : ℕ) (m : Macros) (items : List Item) → first_too_long (raw_texts_from at m items) ≡ None → first_too_long (raw_texts_from there m items) ≡ None
fit_elsewhere at there m [] e = refl
fit_elsewhere at there m (item ∷ items) e =
    let parts = fit_parts at m item items e in
    fit_joined there m item items parts.0 (fit_elsewhere (at + length (item_bytes item)) (there + length (item_bytes item)) (macros_after m item.tree) items parts.1)

-- one item in the place of another after which macros stand for the same: the others are no longer than before
pub still_fits : (before after : List Item) (x y : Item) → ((m : Macros) → macros_after m x.tree ≡ macros_after m y.tree) → (at there : ℕ) → first_too_long (raw_texts_from at months (before ++ x ∷ after)) ≡ None
    → first_too_long (placed_texts (macros_at months before (length before)) y.tree) ≡ None → first_too_long (raw_texts_from there months (before ++ y ∷ after)) ≡ None
still_fits before after x y after_same at there fits fit =
    let here : Macros = macros_at months before (length before) in
    let start : ℕ = at + length (flat_map item_bytes before) in
    let new_start : ℕ = there + length (flat_map item_bytes before) in
    let parts = none_both (first_too_long (raw_texts_from at months before)) (first_too_long (raw_texts_from start here (x ∷ after)))
    (sym (first-append (raw_texts_from at months before) (raw_texts_from start here (x ∷ after))) ∙ sym (ap first_too_long (raw_texts-append at months before (x ∷ after))) ∙ fits) in
    let later = (fit_parts start here x after parts.1).1 in
    let elsewhere = fit_elsewhere (start + length (item_bytes x)) (new_start + length (item_bytes y)) (macros_after here x.tree) after later in
    let after_fits = subst (λ (m : Macros). first_too_long (raw_texts_from (new_start + length (item_bytes y)) m after) ≡ None) (after_same here) elsewhere in
    ap first_too_long (raw_texts-append there months before (y ∷ after))
    ∙ first-append (raw_texts_from there months before) (raw_texts_from new_start here (y ∷ after))
    ∙ ap₂ option_or (fit_elsewhere at there months before parts.0) (fit_joined new_start here y after fit after_fits)

-- ---- an entry in the place of another

module _ (before after : List Item) (x y : Item) (e f : Entry) (x_is : x.tree ≡ EntryTree e) (y_is : y.tree ≡ EntryTree f) where
  abbrev here : Macros
  here = macros_at months before (length before)

  abbrev first : List EntryTexts
  first = gathered entry_in months before

  abbrev others : List EntryTexts
  others = gathered entry_in here after

  after_same : (m : Macros) → macros_after m x.tree ≡ macros_after m y.tree
  after_same m = ap (macros_after m) x_is ∙ sym (ap (macros_after m) y_is)

  told : (i : Item) (g : Entry) → i.tree ≡ EntryTree g → gathered entry_in months (before ++ i ∷ after) ≡ first ++ texts_of here g ∷ others
  told i g is = gathered-append entry_in months before (i ∷ after) ∙ ap (λ (t : Tree). first ++ (entry_in here t ++ gathered entry_in (macros_after here t) after)) is

  keys_told : (i : Item) (g : Entry) → i.tree ≡ EntryTree g → keys_of (gathered entry_in months (before ++ i ∷ after)) ≡ keys_of first ++ g.key ∷ keys_of others
  keys_told i g is = ap keys_of (told i g is) ∙ map-append (λ (entry : EntryTexts). entry.key) first (texts_of here g ∷ others)

  crossrefs_told : (i : Item) (g : Entry) → i.tree ≡ EntryTree g → map crossref_text (gathered entry_in months (before ++ i ∷ after)) ≡ map crossref_text first ++ crossref_text (texts_of here g) ∷ map crossref_text others
  crossrefs_told i g is = ap (map crossref_text) (told i g is) ∙ map-append crossref_text first (texts_of here g ∷ others)

  defined_told : (i : Item) (g : Entry) → i.tree ≡ EntryTree g → definitions_in (before ++ i ∷ after) ≡ definitions_in before ++ gathered defined_by here after
  defined_told i g is = gathered-append defined_by months before (i ∷ after) ∙ ap (λ (t : Tree). definitions_in before ++ (defined_by here t ++ gathered defined_by (macros_after here t) after)) is

  -- the key and what the crossref says are the same
  pub placed_tables : (t : Tables) (bounds : Bounds) → e.key ≡ f.key → crossref_text (texts_of here e) ≡ crossref_text (texts_of here f) → AreTablesOf (before ++ x ∷ after) t
      → ((items : List Item) → AreBounded t.bounds items → AreBounded bounds items) → IsBounded bounds y.tree → AreTablesOf (before ++ y ∷ after) (with_bounds bounds t)
  placed_tables t bounds key says are admits one =
      let kind : is_entry_tree x.tree ≡ is_entry_tree y.tree = ap is_entry_tree x_is ∙ sym (ap is_entry_tree y_is) in
      let third : is_definition_tree x.tree ≡ is_definition_tree y.tree = ap is_definition_tree x_is ∙ sym (ap is_definition_tree y_is) in
      let other : is_preamble_tree x.tree ≡ is_preamble_tree y.tree = ap is_preamble_tree x_is ∙ sym (ap is_preamble_tree y_is) in
      let same_keys : keys_of (gathered entry_in months (before ++ x ∷ after)) ≡ keys_of (gathered entry_in months (before ++ y ∷ after))
      = keys_told x e x_is ∙ ap (λ (k : Text). keys_of first ++ k ∷ keys_of others) key ∙ sym (keys_told y f y_is) in
      let same_crossrefs : map crossref_text (gathered entry_in months (before ++ x ∷ after)) ≡ map crossref_text (gathered entry_in months (before ++ y ∷ after))
      = crossrefs_told x e x_is ∙ ap (λ (o : Option Text). map crossref_text first ++ o ∷ map crossref_text others) says ∙ sym (crossrefs_told y f y_is) in
      record {
        entries = are.entries ∙ numbers_same is_entry_tree 0 before after x y kind;
        preambles = are.preambles ∙ numbers_same is_preamble_tree 0 before after x y other;
        definitions = definitions_alike (before ++ x ∷ after) (before ++ y ∷ after) t.definitions (numbers_same is_definition_tree 0 before after x y third) (defined_told x e x_is ∙ sym (defined_told y f y_is))
            (λ k. macros_same months before after x y after_same k) are.definitions;
        bounds = bounded_with bounds before after y (admits (before ++ after) (bounded_without t.bounds before after x are.bounds)) one;
        named = subst (λ (ks : List Text). IsTableOf ks (map crossref_text (gathered entry_in months (before ++ y ∷ after))) t.named) same_keys
            (subst (λ (cs : List (Option Text)). IsTableOf (keys_of (gathered entry_in months (before ++ x ∷ after))) cs t.named) same_crossrefs are.named);
      }
