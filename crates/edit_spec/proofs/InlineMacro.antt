-- InlineMacro: the definition is removed, each use after it becomes its text, and every field's text is unchanged.
use Rattle.edit_spec.proofs.Words.{◌≡◌, ℕ, zero, suc, true, false, List, ◌∷◌, ◌++◌, Option, Some, None, unwrap_or, length, ⊎_elim, refl, sym, ◌∙◌, ap, count_by, arith, bytes_eq, cases_Bool, cond-true, cond-false, false_from_ne_true, false≢true, both_ways, or_parts, or_from, or_cases, Text, folded}
use Rattle.edit_spec.proofs.Words.{same, Part, Braced, Quoted, Digits, Macro, Tree, CommentTree, DefinitionTree, PreambleTree, EntryTree, Item, Reading, Macros, updated, part_text, raw_text, macros_in, macros_after, macros_at, gathered, entry_in, preamble_in, changed, leaving, tree_with, items_with}
use Rattle.edit_spec.proofs.Words.{defines, from_first, use_inlined, uses_inlined, without_first, is_after, same-is, same-true, true-eq, count-yes, count-no}
use Rattle.std.proofs.Common.{[]}
use Rattle.bib_spec.proofs.Names.{same_of}
use Rattle.edit_spec.proofs.InUse.{InTree_undefined}
use Rattle.edit_spec.proofs.Seen.{undefined}
use Rattle.edit_spec.proofs.Simulation.{InTree, InItems, AgreeOn, names_stay, name_stays, entry_same, preamble_same, gathered_same, at_same}

module _ (name held : Text) where
  abbrev pub IsOther : Text → Type 0
  IsOther defined = same defined name ≡ false

  abbrev pub IsAny : Part → Type 0
  IsAny part = Unit {0}

  -- the old table gives the held text to the name, and the new one gives to every other name what the old one gives
  abbrev pub Agree : Macros → Macros → Type 0
  Agree m n = (m (folded name) ≡ Some held) × AgreeOn IsOther (λ x. x) m n

  abbrev new_tree : Tree → Tree
  new_tree tree = tree_with leaving (use_inlined name held) tree

  abbrev pub new_items : List Item → List Item
  new_items items = items_with leaving (use_inlined name held) items

  pub gives : (m n : Macros) → Agree m n → (part : Part) → IsAny part → part_text n (changed (use_inlined name held) part) ≡ part_text m part
  gives m n agree (Macro x) h = ⊎_elim
      (λ e. ap (λ o. part_text n (unwrap_or o (Macro x))) (cond-true (same x name) (Some (Braced held)) None e)
      ∙ sym (ap (λ y. unwrap_or (m y) []) (same-true x name e) ∙ ap (λ o. unwrap_or o []) agree.0))
      (λ e. ap (λ o. part_text n (unwrap_or o (Macro x))) (cond-false (same x name) (Some (Braced held)) None e) ∙ ap (λ o. unwrap_or o []) (agree.1 x e))
      (cases_Bool (same x name))
  gives m n agree (Braced text) h = refl
  gives m n agree (Quoted text) h = refl
  gives m n agree (Digits text) h = refl

  pub stays : (m n : Macros) → Agree m n → (defined : Text) → IsOther defined → (o : Option Text) → Agree (updated m defined o) (updated n defined o)
  stays m n agree defined h o = (
    name_stays m name defined (Some held) o h agree.0,
    names_stay IsOther (λ x. x) m n defined o (λ _ _. refl) agree.1,
  )

  -- after the definition, and with it left out
  pub begins : (m : Macros) (tree : Tree) → defines name tree ≡ true → held ≡ unwrap_or (macros_after m tree (folded name)) [] → Agree (macros_after m tree) m
  begins m (CommentTree c) e is = absurd (false≢true e)
  begins m (PreambleTree p) e is = absurd (false≢true e)
  begins m (EntryTree t) e is = absurd (false≢true e)
  begins m (DefinitionTree d) e is =
      let t : Text = raw_text (macros_in m (DefinitionTree d)) d.assignment.value in
      let says : macros_after m (DefinitionTree d) (folded name) ≡ Some t = cond-true (bytes_eq (folded name) (folded d.assignment.name)) (Some t) (m (folded name)) (true-eq (folded name) (folded d.assignment.name) (sym (same-true d.assignment.name name e))) in (
        says ∙ ap Some (sym (ap (λ o. unwrap_or o []) says)) ∙ ap Some (sym is),
        (λ x p. sym (cond-false (bytes_eq (folded x) (folded d.assignment.name)) (Some t) (m (folded x)) (sym (same_of x name x d.assignment.name refl (sym (same-true d.assignment.name name e)) ∙ same-is x d.assignment.name) ∙ p))),
      )

  abbrev pub count : List Item → ℕ
  count items = count_by (λ item. defines name item.tree) items

  -- items that do not define the name
  pub uncounted : (items : List Item) → count items ≡ 0 → InItems IsAny IsOther items
  uncounted [] h = tt
  uncounted (item ∷ items) h =
      let none : defines name item.tree ≡ false = false_from_ne_true (defines name item.tree) (λ e. let c = count-yes (λ item. defines name item.tree) item items e in absurd (omega (arith, c, h))) in (
        InTree_undefined IsAny IsOther name (λ _. tt) (λ _ e. e) item.tree none,
        uncounted items (sym (count-no (λ item. defines name item.tree) item items none) ∙ h),
      )

  pub none_beyond : (items : List Item) → count items ≡ 0 → (n : ℕ) → is_after name items n ≡ false
  none_beyond items h zero = refl
  none_beyond [] h (suc n) = refl
  none_beyond (item ∷ items) h (suc n) =
      let none : defines name item.tree ≡ false = false_from_ne_true (defines name item.tree) (λ e. let c = count-yes (λ item. defines name item.tree) item items e in absurd (omega (arith, c, h))) in
      or_from (defines name item.tree) (is_after name items n) none (none_beyond items (sym (count-no (λ item. defines name item.tree) item items none) ∙ h) n)

  pub rest_uncounted : (item : Item) (items : List Item) → count (item ∷ items) ≡ 1 → defines name item.tree ≡ true → count items ≡ 0
  rest_uncounted item items h e = let c = count-yes (λ item. defines name item.tree) item items e in omega (arith, c, h)

  -- the held text is what the name stands for at the end
  abbrev pub IsHeld : Macros → List Item → Type 0
  IsHeld m items = held ≡ unwrap_or (macros_at m items (length items) (folded name)) []

  -- so it is what the one definition gives
  pub held_here : (m : Macros) (item : Item) (items : List Item) → count (item ∷ items) ≡ 1 → IsHeld m (item ∷ items) → defines name item.tree ≡ true → held ≡ unwrap_or (macros_after m item.tree (folded name)) []
  held_here m item items h is e =
      is ∙ ap (λ o. unwrap_or o []) (undefined name (macros_after m item.tree) items (length items) (none_beyond items (rest_uncounted item items h e) (length items)))

  -- what is left once the first definition is taken out of the items, its uses being replaced
  abbrev pub left : Text → List Item → Reading
  left front items = without_first (defines name) front (from_first (defines name) (uses_inlined name held) items)

  -- the items with the first definition first, and with another item first
  pub left-defined : (front : Text) (item : Item) (items : List Item) → defines name item.tree ≡ true → (left front (item ∷ items)).items ≡ new_items items
  left-defined front item items e =
      ap (λ new. (without_first (defines name) front new).items) (cond-true (defines name item.tree) (item ∷ new_items items) (item ∷ from_first (defines name) (uses_inlined name held) items) e)
      ∙ ap (λ db. db.items) (cond-true (defines name item.tree) found other e)
    where
      found : Reading
      found = record { front = front ++ item.trail; items = new_items items }

      other : Reading
      other = let rest = without_first (defines name) item.trail (new_items items) in record { front = front; items = record item { trail = rest.front } ∷ rest.items }

  pub left-other : (front : Text) (item : Item) (items : List Item) → defines name item.tree ≡ false →
      (left front (item ∷ items)).items ≡ record item { trail = (left item.trail items).front } ∷ (left item.trail items).items
  left-other front item items e =
      ap (λ new. (without_first (defines name) front new).items) (cond-false (defines name item.tree) (item ∷ new_items items) (item ∷ from_first (defines name) (uses_inlined name held) items) e)
      ∙ ap (λ db. db.items) (cond-false (defines name item.tree) found other e)
    where
      found : Reading
      found = record { front = front ++ item.trail; items = from_first (defines name) (uses_inlined name held) items }

      other : Reading
      other = record { front = front; items = record item { trail = (left item.trail items).front } ∷ (left item.trail items).items }

  module _ {X : Type 0} (say : Macros → Tree → List X)
      (says : (m n : Macros) → Agree m n → (tree : Tree) → InTree IsAny IsOther tree → say n (new_tree tree) ≡ say m tree)
      (quiet : (m : Macros) (tree : Tree) → defines name tree ≡ true → say m tree ≡ []) where
    pub gathered_inlined : (m : Macros) (front : Text) (items : List Item) → count items ≡ 1 → IsHeld m items → gathered say m (left front items).items ≡ gathered say m items
    gathered_inlined m front [] h is = refl
    gathered_inlined m front (item ∷ items) h is =
        let rest = gathered_inlined (macros_after m item.tree) item.trail items in
        ⊎_elim
        (λ e. ap (gathered say m) (left-defined front item items e)
        ∙ gathered_same leaving (use_inlined name held) IsAny IsOther Agree gives stays say says (macros_after m item.tree) m (begins m item.tree e (held_here m item items h is e)) items (uncounted items (rest_uncounted item items h e))
        ∙ sym (ap (λ s. s ++ gathered say (macros_after m item.tree) items) (quiet m item.tree e)))
        (λ e. ap (gathered say m) (left-other front item items e)
        ∙ ap (λ more. say m item.tree ++ more) (rest (sym (count-no (λ item. defines name item.tree) item items e) ∙ h) is))
        (cases_Bool (defines name item.tree))

  entry_quiet : (m : Macros) (tree : Tree) → defines name tree ≡ true → entry_in m tree ≡ []
  entry_quiet m (CommentTree c) e = absurd (false≢true e)
  entry_quiet m (PreambleTree p) e = absurd (false≢true e)
  entry_quiet m (EntryTree t) e = absurd (false≢true e)
  entry_quiet m (DefinitionTree d) e = refl

  preamble_quiet : (m : Macros) (tree : Tree) → defines name tree ≡ true → preamble_in m tree ≡ []
  preamble_quiet m (CommentTree c) e = absurd (false≢true e)
  preamble_quiet m (PreambleTree p) e = absurd (false≢true e)
  preamble_quiet m (EntryTree t) e = absurd (false≢true e)
  preamble_quiet m (DefinitionTree d) e = refl

  pub entries_inlined : (m : Macros) (front : Text) (items : List Item) → count items ≡ 1 → IsHeld m items → gathered entry_in m (left front items).items ≡ gathered entry_in m items
  entries_inlined = gathered_inlined entry_in (entry_same leaving (use_inlined name held) IsAny IsOther Agree gives stays) entry_quiet

  pub preambles_inlined : (m : Macros) (front : Text) (items : List Item) → count items ≡ 1 → IsHeld m items → gathered preamble_in m (left front items).items ≡ gathered preamble_in m items
  preambles_inlined = gathered_inlined preamble_in (preamble_same leaving (use_inlined name held) IsAny IsOther Agree gives stays) preamble_quiet

  -- up to the definition the macros are what they were; after it every other name, with item numbers one less
  pub at_inlined : (m : Macros) (front : Text) (items : List Item) → count items ≡ 1 → IsHeld m items → (k : ℕ) →
      (is_after name items k ≡ false → macros_at m (left front items).items k ≡ macros_at m items k)
      × (is_after name items (suc k) ≡ true → (x : Text) → same x name ≡ false → macros_at m (left front items).items k (folded x) ≡ macros_at m items (suc k) (folded x))
  at_inlined m front [] h is k = ((λ _. refl), (λ e. absurd (false≢true e)))
  at_inlined m front (item ∷ items) h is zero = (
    (λ _. refl),
    (λ some x p. ⊎_elim
        (λ e. (begins m item.tree e (held_here m item items h is e)).1 x p)
        (λ e. absurd (⊎_elim (λ k. both_ways (defines name item.tree) e k) (λ k. false≢true k) (or_cases (defines name item.tree) false some)))
        (cases_Bool (defines name item.tree))),
  )
  at_inlined m front (item ∷ items) h is (suc k) =
      let rest = at_inlined (macros_after m item.tree) item.trail items in
      ⊎_elim
      (λ e. (
        (λ none. absurd (both_ways (defines name item.tree) (or_parts (defines name item.tree) (is_after name items k) none).0 e)),
        (λ _ x p. ap (λ new. macros_at m new (suc k) (folded x)) (left-defined front item items e)
            ∙ (at_same leaving (use_inlined name held) IsAny IsOther Agree gives stays (macros_after m item.tree) m (begins m item.tree e (held_here m item items h is e)) items
            (uncounted items (rest_uncounted item items h e)) (suc k)).1 x p),
      ))
      (λ e. let both = rest (sym (count-no (λ item. defines name item.tree) item items e) ∙ h) is k in (
        (λ none. ap (λ new. macros_at m new (suc k)) (left-other front item items e) ∙ both.0 (or_parts (defines name item.tree) (is_after name items k) none).1),
        (λ some x p. ap (λ new. macros_at m new (suc k) (folded x)) (left-other front item items e)
            ∙ both.1 (⊎_elim (λ k. absurd (both_ways (defines name item.tree) e k)) (λ k. k) (or_cases (defines name item.tree) (is_after name items (suc k)) some)) x p),
      ))
      (cases_Bool (defines name item.tree))
