-- A macro that is inlined leaves every trail but that of its definition, so texts stay clean as if that alone went.
use Rattle.bib_edit.proofs.Words.{◌≡◌, ℕ, Bool, List, [], ◌∷◌, ◌++◌, refl, sym, ◌∙◌, ap, subst, ⊎_elim, All, cases_Bool, cond-true, cond-false, All-cons, All-head, All-tail, Text, IsClean, IsCleanTrail, Tree, CommentTree, DefinitionTree, PreambleTree, EntryTree, is_comment, Item, Reading, Reads}
use Rattle.bib_edit.proofs.Words.{leaving, tree_with, items_with, defines, from_first, use_inlined, uses_inlined, without_first, HasCleanTexts, IsFirstAt, JoinsCleanly}
use Rattle.bib_edit.proofs.JoinedTexts.{joins-clean, clean-joins}

module _ (name held : Text) where
  tree_kept : (tree : Tree) → is_comment (tree_with leaving (use_inlined name held) tree) ≡ is_comment tree
  tree_kept (CommentTree h) = refl
  tree_kept (DefinitionTree d) = refl
  tree_kept (PreambleTree p) = refl
  tree_kept (EntryTree e) = refl

  abbrev AreClean : List Item → Type 0
  AreClean items = All (λ item. IsCleanTrail (is_comment item.tree) item.trail) items

  abbrev new_items : List Item → List Item
  new_items items = items_with leaving (use_inlined name held) items

  new_clean : (items : List Item) → AreClean items → AreClean (new_items items)
  new_clean [] are = are
  new_clean (item ∷ items) are =
      All-cons (λ item. IsCleanTrail (is_comment item.tree) item.trail) (record item { tree = tree_with leaving (use_inlined name held) item.tree }) (new_items items)
      (subst (λ (c : Bool). IsCleanTrail c item.trail) (sym (tree_kept item.tree)) (All-head (λ item. IsCleanTrail (is_comment item.tree) item.trail) item items are))
      (new_clean items (All-tail (λ item. IsCleanTrail (is_comment item.tree) item.trail) item items are))

  old_clean : (items : List Item) → AreClean (new_items items) → AreClean items
  old_clean [] are = are
  old_clean (item ∷ items) are =
      let new : Item = record item { tree = tree_with leaving (use_inlined name held) item.tree } in
      All-cons (λ item. IsCleanTrail (is_comment item.tree) item.trail) item items
      (subst (λ (c : Bool). IsCleanTrail c item.trail) (tree_kept item.tree) (All-head (λ item. IsCleanTrail (is_comment item.tree) item.trail) new (new_items items) are))
      (old_clean items (All-tail (λ item. IsCleanTrail (is_comment item.tree) item.trail) new (new_items items) are))

  abbrev inlined : List Item → List Item
  inlined items = from_first (defines name) (uses_inlined name held) items

  -- without the definition, with its uses replaced and with them as they are
  abbrev Alike : Text → List Item → Type 0
  Alike front items =
      let new = without_first (defines name) front (inlined items) in
      let old = without_first (defines name) front items in
      (new.front ≡ old.front) × (AreClean old.items → AreClean new.items) × (AreClean new.items → AreClean old.items)

  abbrev gone : Text → Item → List Item → Reading
  gone front item items = record { front = front ++ item.trail; items = items }

  abbrev stays : Text → Item → List Item → Reading
  stays front item items =
      let rest = without_first (defines name) item.trail items in
      record { front = front; items = record item { trail = rest.front } ∷ rest.items }

  alike : (front : Text) (items : List Item) → Alike front items
  alike front [] = (refl, (λ h. h), (λ h. h))
  alike front (item ∷ items) = ⊎_elim
      (λ t.
      let new : without_first (defines name) front (inlined (item ∷ items)) ≡ gone front item (new_items items) =
      ap (without_first (defines name) front) (cond-true (defines name item.tree) (item ∷ new_items items) (item ∷ inlined items) t)
      ∙ cond-true (defines name item.tree) (gone front item (new_items items)) (stays front item (new_items items)) t in
      let old : without_first (defines name) front (item ∷ items) ≡ gone front item items = cond-true (defines name item.tree) (gone front item items) (stays front item items) t in (
        ap (λ r. r.front) new ∙ sym (ap (λ r. r.front) old),
        (λ h. subst AreClean (sym (ap (λ r. r.items) new)) (new_clean items (subst AreClean (ap (λ r. r.items) old) h))),
        (λ h. subst AreClean (sym (ap (λ r. r.items) old)) (old_clean items (subst AreClean (ap (λ r. r.items) new) h))),
      ))
      (λ t.
      let rest = alike item.trail items in
      let new_rest : Reading = without_first (defines name) item.trail (inlined items) in
      let old_rest : Reading = without_first (defines name) item.trail items in
      let new_first : Item = record item { trail = new_rest.front } in
      let old_first : Item = record item { trail = old_rest.front } in
      let new : without_first (defines name) front (inlined (item ∷ items)) ≡ stays front item (inlined items) =
      ap (without_first (defines name) front) (cond-false (defines name item.tree) (item ∷ new_items items) (item ∷ inlined items) t)
      ∙ cond-false (defines name item.tree) (gone front item (inlined items)) (stays front item (inlined items)) t in
      let old : without_first (defines name) front (item ∷ items) ≡ stays front item items = cond-false (defines name item.tree) (gone front item items) (stays front item items) t in (
        ap (λ r. r.front) new ∙ sym (ap (λ r. r.front) old),
        (λ h.
            let are = subst AreClean (ap (λ r. r.items) old) h in
            subst AreClean (sym (ap (λ r. r.items) new))
            (All-cons (λ item. IsCleanTrail (is_comment item.tree) item.trail) new_first new_rest.items
            (subst (λ (u : Text). IsCleanTrail (is_comment item.tree) u) (sym rest.0) (All-head (λ item. IsCleanTrail (is_comment item.tree) item.trail) old_first old_rest.items are))
            (rest.1 (All-tail (λ item. IsCleanTrail (is_comment item.tree) item.trail) old_first old_rest.items are)))),
        (λ h.
            let are = subst AreClean (ap (λ r. r.items) new) h in
            subst AreClean (sym (ap (λ r. r.items) old))
            (All-cons (λ item. IsCleanTrail (is_comment item.tree) item.trail) old_first old_rest.items
            (subst (λ (u : Text). IsCleanTrail (is_comment item.tree) u) rest.0 (All-head (λ item. IsCleanTrail (is_comment item.tree) item.trail) new_first new_rest.items are))
            (rest.2 (All-tail (λ item. IsCleanTrail (is_comment item.tree) item.trail) new_first new_rest.items are)))),
      ))
      (cases_Bool (defines name item.tree))

  module _ (db : Reading) (n : ℕ) (first : IsFirstAt (defines name) db.items n) where
    pub inlined-clean : (file : Text) → Reads file db → JoinsCleanly db n → HasCleanTexts (without_first (defines name) db.front (inlined db.items))
    inlined-clean file reads joins =
        let is = joins-clean (defines name) db n first file reads joins in
        let same = alike db.front db.items in
        record { front = subst IsClean (sym same.0) is.front; trails = same.1 is.trails }

    pub clean-inlined : HasCleanTexts (without_first (defines name) db.front (inlined db.items)) → JoinsCleanly db n
    clean-inlined clean =
        let same = alike db.front db.items in
        clean-joins (defines name) db n first (record { front = subst IsClean same.0 clean.front; trails = same.2 clean.trails })
