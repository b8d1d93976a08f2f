-- Where an edit changes one entry, the only raw texts that are new are those of its new values.
use Rattle.bib_edit.proofs.Words.{◌≡◌, ℕ, zero, suc, ◌+◌, Bool, true, false, ◌||◌, nat_lt, List, [], ◌∷◌, ◌++◌, Some, None, is_some, option_map, slice_get, length, map, find, ⊎_elim, refl, sym, ◌∙◌, ap, subst, or-false, list_any, zip, cases_Bool, cond-true, cond-false, or_parts, none-some, or_assoc}
use Rattle.bib_edit.proofs.Words.{same_Some, Text, same, Value, Row, Entry, Tree, CommentTree, DefinitionTree, PreambleTree, EntryTree, row_bytes, Item, Reading, item_bytes, Macros, months, raw_text, raw_limit, macros_after, macros_at, raw_texts_in, raw_texts_from, value_places, row_places}
use Rattle.bib_edit.proofs.Words.{too_long_at, is_entry, from_first, with_first_tree, of_entry, with_entry, row_before, row_to, with_field, without_field, entry_with_field, entry_without_field, suc_some, first_item}

abbrev pub is_long : Text → Bool
is_long t = nat_lt raw_limit (length t)

-- some raw text of these items is too long
abbrev pub any_long : Macros → List Item → Bool
any_long m [] = false
any_long m (item ∷ items) = list_any is_long (raw_texts_in m item.tree) || any_long (macros_after m item.tree) items

-- ---- with places and without

abbrev is_long_at : ℕ × Text → Bool
is_long_at p = nat_lt raw_limit (length p.1)

abbrev found_long : List (ℕ × Text) → Bool
found_long ps = is_some (option_map (λ p. p.0) (find is_long_at ps))

found-cons : (p : ℕ × Text) (ps : List (ℕ × Text)) → found_long (p ∷ ps) ≡ (is_long p.1 || found_long ps)
found-cons p ps = ⊎_elim
    (λ t. ap (λ o. is_some (option_map (λ p. p.0) o)) (cond-true (is_long p.1) (Some p) (find is_long_at ps) t) ∙ sym (ap (λ b. b || found_long ps) t))
    (λ t. ap (λ o. is_some (option_map (λ p. p.0) o)) (cond-false (is_long p.1) (Some p) (find is_long_at ps) t) ∙ sym (ap (λ b. b || found_long ps) t))
    (cases_Bool (is_long p.1))

-- texts with as many places
zipped : (f : ℕ → ℕ) (places : List ℕ) (texts : List Text) (rest : List (ℕ × Text)) → length places ≡ length texts → found_long (zip (map f places) texts ++ rest) ≡ (list_any is_long texts || found_long rest)
zipped f [] [] rest e = refl
zipped f [] (t ∷ texts) rest e = cc
zipped f (p ∷ places) [] rest e = cc
zipped f (p ∷ places) (t ∷ texts) rest e =
    found-cons (f p, t) (zip (map f places) texts ++ rest)
    ∙ ap (λ b. is_long t || b) (zipped f places texts rest (cc))
    ∙ sym (or_assoc (is_long t) (list_any is_long texts) (found_long rest))

rows_places : (at : ℕ) (m : Macros) (rows : List Row) → length (row_places at rows) ≡ length (map (raw_text m) (map (λ row. row.assignment.value) rows))
rows_places at m [] = refl
rows_places at m (row ∷ rows) = ap suc (rows_places (at + length (row_bytes row)) m rows)

tree_places : (m : Macros) (tree : Tree) → length (value_places tree) ≡ length (raw_texts_in m tree)
tree_places m (CommentTree h) = refl
tree_places m (DefinitionTree d) = refl
tree_places m (PreambleTree p) = refl
tree_places m (EntryTree e) = rows_places _ m e.rows

found-any : (at : ℕ) (m : Macros) (items : List Item) → found_long (raw_texts_from at m items) ≡ any_long m items
found-any at m [] = refl
found-any at m (item ∷ items) =
    zipped (λ place. at + place) (value_places item.tree) (raw_texts_in m item.tree) (raw_texts_from (at + length (item_bytes item)) (macros_after m item.tree) items) (tree_places m item.tree)
    ∙ ap (λ b. list_any is_long (raw_texts_in m item.tree) || b) (found-any (at + length (item_bytes item)) (macros_after m item.tree) items)

-- whether a raw text is too long, wherever it stands
pub too_long-any : (db : Reading) → is_some (too_long_at db) ≡ any_long months db.items
too_long-any db = found-any (length db.front) months db.items

-- ---- one entry changed

module _ (key : Text) (change : Entry → Entry) where
  abbrev changed_items : List Item → List Item
  changed_items items = from_first (is_entry key) (with_first_tree (of_entry change)) items

  abbrev item_at : Tree → Text → Item
  item_at tree trail = record { tree = tree; trail = trail }

  abbrev IsOfChanged : Macros → List Item → ℕ → Entry → Type 0
  IsOfChanged m items n e = any_long m (changed_items items) ≡ list_any is_long (raw_texts_in (macros_at m items n) (EntryTree (change e)))

  after_entry : (m : Macros) (item : Item) (items : List Item) (n : ℕ) (e : Entry) → is_entry key item.tree ≡ false → list_any is_long (raw_texts_in m item.tree) ≡ false →
      IsOfChanged (macros_after m item.tree) items n e → IsOfChanged m (item ∷ items) (suc n) e
  after_entry m item items n e other short rest =
      ap (any_long m) (cond-false (is_entry key item.tree) (record item { tree = of_entry change item.tree } ∷ items) (item ∷ changed_items items) other)
      ∙ ap (λ b. b || any_long (macros_after m item.tree) (changed_items items)) short ∙ rest

  at_entry : (m : Macros) (tree : Tree) (trail : Text) (items : List Item) (e : Entry) → is_entry key tree ≡ true → tree ≡ EntryTree e → any_long (macros_after m tree) items ≡ false →
      IsOfChanged m (item_at tree trail ∷ items) zero e
  at_entry m tree trail items e named is short =
      ap (any_long m) (cond-true (is_entry key tree) (item_at (of_entry change tree) trail ∷ items) (item_at tree trail ∷ changed_items items) named)
      ∙ ap (λ t. list_any is_long (raw_texts_in m (of_entry change t)) || any_long (macros_after m (of_entry change t)) items) is
      ∙ ap (λ b. list_any is_long (raw_texts_in m (EntryTree (change e))) || b) (sym (ap (λ t. any_long (macros_after m t) items) is) ∙ short)
      ∙ or-false (list_any is_long (raw_texts_in m (EntryTree (change e))))

  any_long-changed : (m : Macros) (items : List Item) (n : ℕ) (e : Entry) (trail : Text) → first_item (is_entry key) items ≡ Some n → slice_get items n ≡ Some (item_at (EntryTree e) trail) → any_long m items ≡ false →
      IsOfChanged m items n e
  any_long-changed m [] n e trail named at short = absurd (none-some n named)
  any_long-changed m (item ∷ items) n e trail named at short =
      let both = or_parts (list_any is_long (raw_texts_in m item.tree)) (any_long (macros_after m item.tree) items) short in
      ⊎_elim
      (λ t.
      let zeroth : zero ≡ n = same_Some zero n (sym (cond-true (is_entry key item.tree) (Some zero) (option_map suc (first_item (is_entry key) items)) t) ∙ named) in
      let it : item ≡ item_at (EntryTree e) trail = same_Some item (item_at (EntryTree e) trail) (ap (slice_get (item ∷ items)) zeroth ∙ at) in
      subst (λ (n : ℕ). IsOfChanged m (item ∷ items) n e) zeroth (at_entry m item.tree item.trail items e t (ap (λ i. i.tree) it) both.1))
      (λ t.
      let later = suc_some (first_item (is_entry key) items) n (sym (cond-false (is_entry key item.tree) (Some zero) (option_map suc (first_item (is_entry key) items)) t) ∙ named) in
      subst (λ (n : ℕ). IsOfChanged m (item ∷ items) n e) later.2
      (after_entry m item items later.0 e t both.0 (any_long-changed (macros_after m item.tree) items later.0 e trail later.1 (ap (slice_get (item ∷ items)) later.2 ∙ at) both.1)))
      (cases_Bool (is_entry key item.tree))

  pub too_long-changed : (db : Reading) (n : ℕ) (e : Entry) (trail : Text) → first_item (is_entry key) db.items ≡ Some n → slice_get db.items n ≡ Some (item_at (EntryTree e) trail) → too_long_at db ≡ None →
      is_some (too_long_at (with_entry key change db)) ≡ list_any is_long (raw_texts_in (macros_at months db.items n) (EntryTree (change e)))
  too_long-changed db n e trail named at short =
      too_long-any (with_entry key change db) ∙ any_long-changed months db.items n e trail named at (sym (too_long-any db) ∙ ap is_some short)

-- none of the entry's raw texts is too long in the old file
abbrev whole_item : Tree → Text → Item
whole_item tree trail = record { tree = tree; trail = trail }

short_entry : (m : Macros) (items : List Item) (n : ℕ) (e : Entry) (trail : Text) → slice_get items n ≡ Some (whole_item (EntryTree e) trail) → any_long m items ≡ false →
    list_any is_long (raw_texts_in (macros_at m items n) (EntryTree e)) ≡ false
short_entry m [] n e trail at short = absurd (none-some (whole_item (EntryTree e) trail) at)
short_entry m (item ∷ items) zero e trail at short =
    sym (ap (λ i. list_any is_long (raw_texts_in m i.tree)) (same_Some item (whole_item (EntryTree e) trail) at)) ∙ (or_parts (list_any is_long (raw_texts_in m item.tree)) (any_long (macros_after m item.tree) items) short).0
short_entry m (item ∷ items) (suc n) e trail at short =
    short_entry (macros_after m item.tree) items n e trail at (or_parts (list_any is_long (raw_texts_in m item.tree)) (any_long (macros_after m item.tree) items) short).1

pub short-entry : (db : Reading) (n : ℕ) (e : Entry) (trail : Text) → slice_get db.items n ≡ Some (record { tree = EntryTree e; trail = trail }) → too_long_at db ≡ None →
    list_any is_long (raw_texts_in (macros_at months db.items n) (EntryTree e)) ≡ false
short-entry db n e trail at short = short_entry months db.items n e trail at (sym (too_long-any db) ∙ ap is_some short)

-- ---- one row changed

module _ (m : Macros) where
  abbrev pub rows_long : List Row → Bool
  rows_long rows = list_any is_long (map (raw_text m) (map (λ row. row.assignment.value) rows))

  module _ (name : Text) (value : Value) where
    pub set_long : (before : Text) (rows : List Row) → rows_long rows ≡ false → rows_long (with_field name value before rows).1 ≡ is_long (raw_text m value)
    set_long before [] short = or-false (is_long (raw_text m value))
    set_long before (row ∷ rows) short =
        let rest = with_field name value row.assignment.space_after rows in
        let both = or_parts (is_long (raw_text m row.assignment.value)) (rows_long rows) short in
        ⊎_elim
        (λ e. ap (λ (r : Text × List Row). rows_long r.1) (cond-true (same row.assignment.name name) (before, row_to value row ∷ rows) (before, row_before rest.0 row ∷ rest.1) e)
        ∙ ap (λ b. is_long (raw_text m value) || b) both.1 ∙ or-false (is_long (raw_text m value)))
        (λ e. ap (λ (r : Text × List Row). rows_long r.1) (cond-false (same row.assignment.name name) (before, row_to value row ∷ rows) (before, row_before rest.0 row ∷ rest.1) e)
        ∙ ap (λ b. b || rows_long rest.1) both.0 ∙ set_long row.assignment.space_after rows both.1)
        (cases_Bool (same row.assignment.name name))

    pub long-set : (e : Entry) → list_any is_long (raw_texts_in m (EntryTree e)) ≡ false → list_any is_long (raw_texts_in m (EntryTree (entry_with_field name value e))) ≡ is_long (raw_text m value)
    long-set e short = set_long e.space_after_key e.rows short

  module _ (name : Text) where
    pub dropped_long : (before : Text) (rows : List Row) → rows_long rows ≡ false → rows_long (without_field name before rows).1 ≡ false
    dropped_long before [] short = refl
    dropped_long before (row ∷ rows) short =
        let rest = without_field name row.assignment.space_after rows in
        let both = or_parts (is_long (raw_text m row.assignment.value)) (rows_long rows) short in
        ⊎_elim
        (λ e. ap (λ (r : Text × List Row). rows_long r.1) (cond-true (same row.assignment.name name) (before ++ row.assignment.space_after, rows) (before, row_before rest.0 row ∷ rest.1) e) ∙ both.1)
        (λ e. ap (λ (r : Text × List Row). rows_long r.1) (cond-false (same row.assignment.name name) (before ++ row.assignment.space_after, rows) (before, row_before rest.0 row ∷ rest.1) e)
        ∙ ap (λ b. b || rows_long rest.1) both.0 ∙ dropped_long row.assignment.space_after rows both.1)
        (cases_Bool (same row.assignment.name name))

    pub short-dropped : (e : Entry) → list_any is_long (raw_texts_in m (EntryTree e)) ≡ false → list_any is_long (raw_texts_in m (EntryTree (entry_without_field name e))) ≡ false
    short-dropped e short = dropped_long e.space_after_key e.rows short
