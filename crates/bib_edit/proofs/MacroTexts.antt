-- Edits of macros keep all raw texts, so that none becomes too long.
use Rattle.bib_edit.proofs.Words.{◌≡◌, ℕ, ◌≤◌, true, false, ◌||◌, List, [], ◌∷◌, Option, None, length, map, ⊎_elim, refl, sym, ◌∙◌, ap, ap₂, arith, append-nil, length-append, list_any, flat_map, cases_Bool, cond_both, or_parts, or_from, false≢true, false_from_ne_true, ltb-true, ltb-false, Text}
use Rattle.bib_edit.proofs.Words.{Part, Braced, Quoted, Digits, Macro, Value, Row, Tree, CommentTree, DefinitionTree, PreambleTree, EntryTree, Item, Macros, updated, parts_of, part_text, raw_text, raw_limit, values_of, macros_in, macros_after, raw_texts_in, changed, row_with, tree_with, items_with}
use Rattle.bib_edit.proofs.Words.{leaving, defines, holds, any_part, from_first, name_renamed, use_renamed, part_introduced, definition_of, introduced, Rows, InTree, InItems, text_same, after_same, eq-true}
use Rattle.edit_spec.proofs.RenameMacro as rename
use Rattle.edit_spec.proofs.IntroduceMacro as introduce
use Rattle.bib_edit.proofs.LongTexts.{is_long, any_long}
use Rattle.bib_edit.proofs.PlacedTexts.{is_long_in}

module _ (g : Text → Option Text) (f : Part → Option Part) (P : Part → Type 0) (Q : Text → Type 0) (Agree : Macros → Macros → Type 0)
    (gives : (m n : Macros) → Agree m n → (part : Part) → P part → part_text n (changed f part) ≡ part_text m part)
    (stays : (m n : Macros) → Agree m n → (name : Text) → Q name → (o : Option Text) → Agree (updated m name o) (updated n (changed g name) o))
  where
    rows_same : (m n : Macros) → Agree m n → (rows : List Row) → Rows P rows →
        map (raw_text n) (map (λ row. row.assignment.value) (map (row_with f) rows)) ≡ map (raw_text m) (map (λ row. row.assignment.value) rows)
    rows_same m n agree [] h = refl
    rows_same m n agree (row ∷ rows) h = ap₂ ◌∷◌ (text_same g f P Q Agree gives stays m n agree row.assignment.value h.0) (rows_same m n agree rows h.1)

    pub texts-same : (m n : Macros) → Agree m n → (tree : Tree) → InTree P Q tree → raw_texts_in n (tree_with g f tree) ≡ raw_texts_in m tree
    texts-same m n agree (CommentTree c) h = refl
    texts-same m n agree (DefinitionTree d) h =
        ap (λ t. t ∷ []) (text_same g f P Q Agree gives stays (updated m d.assignment.name None) (updated n (changed g d.assignment.name) None) (stays m n agree d.assignment.name h.0 None) d.assignment.value h.1)
    texts-same m n agree (PreambleTree p) h = ap (λ t. t ∷ []) (text_same g f P Q Agree gives stays m n agree p.value h)
    texts-same m n agree (EntryTree e) h = rows_same m n agree e.rows h

    pub any-same : (m n : Macros) → Agree m n → (items : List Item) → InItems P Q items → any_long n (items_with g f items) ≡ any_long m items
    any-same m n agree [] h = refl
    any-same m n agree (item ∷ items) h =
        ap₂ ◌||◌ (ap (list_any is_long) (texts-same m n agree item.tree h.0))
        (any-same (macros_after m item.tree) (macros_after n (tree_with g f item.tree)) (after_same g f P Q Agree gives stays m n agree item.tree h.0) items h.1)

-- ---- a macro renamed

module _ (from to : Text) where
  abbrev renamed_tree : Tree → Tree
  renamed_tree tree = tree_with (name_renamed from to) (use_renamed from to) tree

  abbrev Free : Tree → Type 0
  Free tree = InTree (rename.IsFreePart from to) (rename.IsFree from to) tree

  defined_texts : (m : Macros) (tree : Tree) → defines from tree ≡ true → Free tree → raw_texts_in m (renamed_tree tree) ≡ raw_texts_in m tree
  defined_texts m (CommentTree c) e h = absurd (false≢true e)
  defined_texts m (PreambleTree p) e h = absurd (false≢true e)
  defined_texts m (EntryTree t) e h = absurd (false≢true e)
  defined_texts m (DefinitionTree d) e h =
      ap (λ t. t ∷ []) (text_same (name_renamed from to) (use_renamed from to) (rename.IsFreePart from to) (rename.IsFree from to) (rename.Agree from to) (rename.gives from to) (rename.stays from to)
      (updated m d.assignment.name None) (updated m (changed (name_renamed from to) d.assignment.name) None) (rename.begins from to m d.assignment.name e None) d.assignment.value h.1)

  abbrev renamed_items : List Item → List Item
  renamed_items items = from_first (defines from) (items_with (name_renamed from to) (use_renamed from to)) items

  pub long-renamed : (m : Macros) (items : List Item) → InItems (rename.IsFreePart from to) (rename.IsFree from to) items → any_long m (renamed_items items) ≡ any_long m items
  long-renamed m [] h = refl
  long-renamed m (item ∷ items) h =
      let rest = long-renamed (macros_after m item.tree) items h.1 in
      cond_both (defines from item.tree) (items_with (name_renamed from to) (use_renamed from to) (item ∷ items)) (item ∷ renamed_items items) (λ new. any_long m new ≡ any_long m (item ∷ items))
      (λ e. ap₂ ◌||◌ (ap (list_any is_long) (defined_texts m item.tree e h.0))
      (any-same (name_renamed from to) (use_renamed from to) (rename.IsFreePart from to) (rename.IsFree from to) (rename.Agree from to) (rename.gives from to) (rename.stays from to)
      (macros_after m item.tree) (macros_after m (renamed_tree item.tree)) (rename.begins_tree from to m item.tree e h.0) items h.1))
      (λ e. ap (λ b. is_long_in m item.tree || b) rest)

-- ---- a macro introduced

module _ (held : Text) (m : Macros) where
  part_within : (part : Part) → holds held part ≡ true → length held ≤ length (part_text m part)
  part_within (Braced t) h = let e = ap (length {A = ℕ}) (eq-true t held h) in omega (arith, e)
  part_within (Quoted t) h = let e = ap (length {A = ℕ}) (eq-true t held h) in omega (arith, e)
  part_within (Digits t) h = absurd (false≢true h)
  part_within (Macro name) h = absurd (false≢true h)

  parts_within : (parts : List Part) → list_any (holds held) parts ≡ true → length held ≤ length (flat_map (part_text m) parts)
  parts_within [] h = absurd (false≢true h)
  parts_within (part ∷ parts) h =
      let long = length-append (part_text m part) (flat_map (part_text m) parts) in
      ⊎_elim
      (λ t. let this = part_within part t in omega (arith, this, long))
      (λ t. let rest = parts_within parts (sym (ap (λ b. b || list_any (holds held) parts) t) ∙ h) in omega (arith, rest, long))
      (cases_Bool (holds held part))

  values_within : (values : List Value) → list_any (λ v. list_any (holds held) (parts_of v)) values ≡ true → list_any is_long (map (raw_text m) values) ≡ false → is_long held ≡ false
  values_within [] h short = absurd (false≢true h)
  values_within (v ∷ values) h short =
      let both = or_parts (is_long (raw_text m v)) (list_any is_long (map (raw_text m) values)) short in
      ⊎_elim
      (λ t. false_from_ne_true (is_long held) (λ e.
      let within = parts_within (parts_of v) t in let long = ltb-true raw_limit (length held) e in let low = ltb-false raw_limit (length (raw_text m v)) both.0 in absurd (omega (arith, within, long, low))))
      (λ t. values_within values (sym (ap (λ b. b || list_any (λ v. list_any (holds held) (parts_of v)) values) t) ∙ h) both.1)
      (cases_Bool (list_any (holds held) (parts_of v)))

module _ (name held : Text) where
  abbrev introduced_items : List Item → List Item
  introduced_items items = from_first (any_part (holds held)) (introduced name held) items

  definition_short : (m : Macros) → is_long held ≡ false → is_long_in m (DefinitionTree (definition_of name held)) ≡ false
  definition_short m short = ap (λ t. is_long t || false) (append-nil held) ∙ ap (λ b. b || false) short

  pub long-introduced : (m : Macros) (items : List Item) → InItems (introduce.IsUnused name held) (introduce.IsOther name held) items → any_long m items ≡ false → any_long m (introduced_items items) ≡ false
  long-introduced m [] h short = refl
  long-introduced m (item ∷ items) h short =
      let both = or_parts (is_long_in m item.tree) (any_long (macros_after m item.tree) items) short in
      let rest = long-introduced (macros_after m item.tree) items h.1 both.1 in
      cond_both (any_part (holds held) item.tree) (introduced name held (item ∷ items)) (item ∷ introduced_items items) (λ new. any_long m new ≡ false)
      (λ e. or_from (is_long_in m (DefinitionTree (definition_of name held))) (any_long (introduce.after name held m) (items_with leaving (part_introduced name held) (item ∷ items)))
      (definition_short m (values_within held (macros_in m item.tree) (values_of item.tree) e both.0))
      (any-same leaving (part_introduced name held) (introduce.IsUnused name held) (introduce.IsOther name held) (introduce.Agree name held) (introduce.gives name held) (introduce.stays name held)
      m (introduce.after name held m) (introduce.begins name held m) (item ∷ items) h ∙ short))
      (λ e. or_from (is_long_in m item.tree) (any_long (macros_after m item.tree) (introduced_items items)) both.0 rest)
