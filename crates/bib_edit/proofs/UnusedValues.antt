-- A macro gets a value where no later item uses it: no raw text becomes too long except that of the value.
use Rattle.bib_edit.proofs.Words.{◌≡◌, ℕ, zero, suc, true, false, cond, ◌||◌, List, [], ◌∷◌, Some, None, map, drop, refl, sym, ◌∙◌, ap, ap₂, list_any, bytes_eq, cond-true, cond-false, false≢true, or_parts, or_from, Text, folded, same, Value, Tree, CommentTree, DefinitionTree, PreambleTree, EntryTree, Item}
use Rattle.bib_edit.proofs.Words.{Macros, updated, parts_of, raw_text, macros_in, macros_after, macros_at, raw_texts_in, any_part, have_part, uses, defines, from_first, with_first_tree, same-true, IsFirstAt}
use Rattle.bib_spec.proofs.Names.{same-is, same_of}
use Rattle.edit_spec.specs.Edits.{definition_as, definition_to, put_after}
use Rattle.edit_spec.specs.Laws.{is_use_of}
use Rattle.edit_spec.proofs.AgreeingMacros.{AgreeBut, updated-agree, defined-agree, value-alike, after-alike}
use Rattle.edit_spec.proofs.DefineMacro.{unused}
use Rattle.bib_edit.proofs.LongTexts.{is_long, any_long}
use Rattle.bib_edit.proofs.PlacedTexts.{is_long_in}

-- ---- items that use none of the names say the same under macros that agree on the others

module _ (names : List Text) where
  values-alike : (m n : Macros) → AgreeBut names m n → (values : List Value) → list_any (λ v. list_any (is_use_of names) (parts_of v)) values ≡ false → map (raw_text n) values ≡ map (raw_text m) values
  values-alike m n agree [] h = refl
  values-alike m n agree (v ∷ values) h =
      let both = or_parts (list_any (is_use_of names) (parts_of v)) (list_any (λ v. list_any (is_use_of names) (parts_of v)) values) h in
      ap₂ ◌∷◌ (value-alike names m n agree v both.0) (values-alike m n agree values both.1)

  pub texts-alike : (m n : Macros) → AgreeBut names m n → (tree : Tree) → any_part (is_use_of names) tree ≡ false → raw_texts_in n tree ≡ raw_texts_in m tree
  texts-alike m n agree (CommentTree c) h = refl
  texts-alike m n agree (DefinitionTree d) h =
      values-alike (updated m d.assignment.name None) (updated n d.assignment.name None) (updated-agree names m n d.assignment.name None agree) (d.assignment.value ∷ []) h
  texts-alike m n agree (PreambleTree p) h = values-alike m n agree (p.value ∷ []) h
  texts-alike m n agree (EntryTree e) h = values-alike m n agree (map (λ row. row.assignment.value) e.rows) h

  pub long-alike : (m n : Macros) → AgreeBut names m n → (items : List Item) → have_part (is_use_of names) items ≡ false → any_long n items ≡ any_long m items
  long-alike m n agree [] h = refl
  long-alike m n agree (item ∷ items) h =
      let both = or_parts (any_part (is_use_of names) item.tree) (have_part (is_use_of names) items) h in
      ap₂ ◌||◌ (ap (list_any is_long) (texts-alike m n agree item.tree both.0))
      (long-alike (macros_after m item.tree) (macros_after n item.tree) (after-alike names m n agree item.tree both.0) items both.1)

-- ---- the macro and its value

module _ (name : Text) (v : Value) where
  -- what the value says, where these macros stand before it
  abbrev pub said : Macros → Text
  said m = raw_text (updated m name None) v

  abbrev AreUnused : List Item → Type 0
  AreUnused items = have_part (uses name) items ≡ false

  -- ---- a definition is put in

  abbrev new_tree : Tree
  new_tree = DefinitionTree (definition_as name v)

  begins : (m : Macros) → AgreeBut (name ∷ []) m (macros_after m new_tree)
  begins m x none =
      cond-false (bytes_eq (folded x) (folded name)) (Some (said m)) (m (folded x)) (sym (same-is x name) ∙ (or_parts (same x name) false none).0)

  defined-short : (m : Macros) (items : List Item) → AreUnused items → is_long (said m) ≡ false → any_long m items ≡ false → (is_long_in m new_tree || any_long (macros_after m new_tree) items) ≡ false
  defined-short m items none short all =
      or_from (is_long_in m new_tree) (any_long (macros_after m new_tree) items) (ap (λ b. b || false) short)
      (long-alike (name ∷ []) m (macros_after m new_tree) (begins m) items (unused name v items none) ∙ all)

  pub put-short : (m : Macros) (n : ℕ) (items : List Item) → AreUnused (drop n items) → is_long (said (macros_at m items n)) ≡ false → any_long m items ≡ false → any_long m (put_after n new_tree items) ≡ false
  put-short m zero items none short all = defined-short m items none short all
  put-short m (suc n) [] none short all = defined-short m [] none short all
  put-short m (suc zero) (item ∷ items) none short all =
      let both = or_parts (is_long_in m item.tree) (any_long (macros_after m item.tree) items) all in
      or_from (is_long_in m item.tree) (is_long_in (macros_after m item.tree) new_tree || any_long (macros_after (macros_after m item.tree) new_tree) items) both.0
      (defined-short (macros_after m item.tree) items none short both.1)
  put-short m (suc (suc n)) (item ∷ items) none short all =
      let both = or_parts (is_long_in m item.tree) (any_long (macros_after m item.tree) items) all in
      or_from (is_long_in m item.tree) (any_long (macros_after m item.tree) (put_after (suc n) new_tree items)) both.0
      (put-short (macros_after m item.tree) (suc n) items none short both.1)

  -- ---- a definition gets the value

  abbrev set_items : List Item → List Item
  set_items items = from_first (defines name) (with_first_tree (definition_to v)) items

  abbrev set_item : Item → Item
  set_item item = record item { tree = definition_to v item.tree }

  pub valued-short : (m : Macros) (tree : Tree) (items : List Item) → defines name tree ≡ true → AreUnused items → is_long (said m) ≡ false → any_long (macros_after m tree) items ≡ false →
      (is_long_in m (definition_to v tree) || any_long (macros_after m (definition_to v tree)) items) ≡ false
  valued-short m (CommentTree c) items e none short all = absurd (false≢true e)
  valued-short m (PreambleTree p) items e none short all = absurd (false≢true e)
  valued-short m (EntryTree t) items e none short all = absurd (false≢true e)
  valued-short m (DefinitionTree d) items e none short all =
      let its = same-true d.assignment.name name e in
      or_from (is_long_in m (definition_to v (DefinitionTree d))) (any_long (macros_after m (definition_to v (DefinitionTree d))) items)
      (ap (λ (t : Text). is_long (raw_text (λ x. cond (bytes_eq x t) None (m x)) v) || false) its ∙ ap (λ b. b || false) short)
      (long-alike (name ∷ []) (macros_after m (DefinitionTree d)) (macros_after m (definition_to v (DefinitionTree d)))
      (defined-agree (name ∷ []) m m d.assignment.name (Some (raw_text (macros_in m (DefinitionTree d)) d.assignment.value)) (Some (raw_text (macros_in m (DefinitionTree d)) v))
      (λ x other. same_of x d.assignment.name x name refl its ∙ (or_parts (same x name) false other).0) (λ x other. refl))
      items (unused name v items none) ∙ all)

  pub set-short : (m : Macros) (items : List Item) (n : ℕ) → IsFirstAt (defines name) items n → AreUnused (drop (suc n) items) → is_long (said (macros_at m items n)) ≡ false → any_long m items ≡ false → any_long m (set_items items) ≡ false
  set-short m [] n first none short all = absurd first
  set-short m (item ∷ items) zero first none short all =
      let both = or_parts (is_long_in m item.tree) (any_long (macros_after m item.tree) items) all in
      ap (any_long m) (cond-true (defines name item.tree) (set_item item ∷ items) (item ∷ set_items items) first)
      ∙ valued-short m item.tree items first none short both.1
  set-short m (item ∷ items) (suc n) first none short all =
      let both = or_parts (is_long_in m item.tree) (any_long (macros_after m item.tree) items) all in
      ap (any_long m) (cond-false (defines name item.tree) (set_item item ∷ items) (item ∷ set_items items) first.0)
      ∙ or_from (is_long_in m item.tree) (any_long (macros_after m item.tree) (set_items items)) both.0
      (set-short (macros_after m item.tree) items n first.1 none short both.1)
