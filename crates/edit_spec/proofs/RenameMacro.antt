-- RenameMacro: every text is unchanged, and after the definition the new name stands for what the old name stood for.
use Rattle.edit_spec.proofs.Words.{◌≡◌, ℕ, zero, suc, true, false, cond, ◌||◌, List, ◌∷◌, ◌++◌, Option, Some, None, unwrap_or, ⊎_elim, refl, sym, ◌∙◌, ap, ap₂, bytes_eq, cases_Bool, cond-true, cond-false, cond_both, false_from_ne_true, false≢true, both_ways, or_parts, or_cases, Text, folded, same}
use Rattle.edit_spec.proofs.Words.{Part, Braced, Quoted, Digits, Macro, Tree, CommentTree, DefinitionTree, PreambleTree, EntryTree, Item, Macros, updated, part_text, macros_after, macros_at, gathered, entry_in, preamble_in, changed, tree_with, items_with, defines, from_first, name_renamed}
use Rattle.edit_spec.proofs.Words.{use_renamed, is_after, same-is, same-true, true-same}
use Rattle.std.proofs.Common.{[]}
use Rattle.edit_spec.proofs.Simulation.{InTree, InItems, AgreeOn, names_stay, define_same, entry_same, preamble_same, gathered_same, at_same}

module _ (from to : Text) where
  abbrev pub renamed : Text → Text
  renamed name = changed (name_renamed from to) name

  -- a name becomes the new one only if it is the old one
  abbrev pub IsFree : Text → Type 0
  IsFree name = same name to ≡ true → same name from ≡ true

  abbrev pub IsFreePart : Part → Type 0
  IsFreePart (Macro name) = IsFree name
  IsFreePart (Braced text) = Unit {0}
  IsFreePart (Quoted text) = Unit {0}
  IsFreePart (Digits text) = Unit {0}

  -- the new table gives to each name, renamed, what the old one gives to it
  abbrev pub Agree : Macros → Macros → Type 0
  Agree m n = AgreeOn IsFree renamed m n

  pub renamed-from : (x : Text) → same x from ≡ true → renamed x ≡ to
  renamed-from x h = ap (λ o. unwrap_or o x) (cond-true (same x from) (Some to) None h)

  pub renamed-other : (x : Text) → same x from ≡ false → renamed x ≡ x
  renamed-other x h = ap (λ o. unwrap_or o x) (cond-false (same x from) (Some to) None h)

  same-renamed : (x y : Text) → IsFree x → IsFree y → same (renamed x) (renamed y) ≡ same x y
  same-renamed x y p q = ⊎_elim
      (λ hx. ⊎_elim
      (λ hy. ap₂ same (renamed-from x hx) (renamed-from y hy) ∙ true-same to to refl ∙ sym (true-same x y (same-true x from hx ∙ sym (same-true y from hy))))
      (λ hy. ap₂ same (renamed-from x hx) (renamed-other y hy)
      ∙ false_from_ne_true (same to y) (λ e. both_ways (same y from) hy (q (true-same y to (sym (same-true to y e)))))
      ∙ sym (false_from_ne_true (same x y) (λ e. both_ways (same y from) hy (true-same y from (sym (same-true x y e) ∙ same-true x from hx)))))
      (cases_Bool (same y from)))
      (λ hx. ⊎_elim
      (λ hy. ap₂ same (renamed-other x hx) (renamed-from y hy)
      ∙ false_from_ne_true (same x to) (λ e. both_ways (same x from) hx (p e))
      ∙ sym (false_from_ne_true (same x y) (λ e. both_ways (same x from) hx (true-same x from (same-true x y e ∙ same-true y from hy)))))
      (λ hy. ap₂ same (renamed-other x hx) (renamed-other y hy))
      (cases_Bool (same y from)))
      (cases_Bool (same x from))

  eq-renamed : (x y : Text) → IsFree x → IsFree y → bytes_eq (folded (renamed x)) (folded (renamed y)) ≡ bytes_eq (folded x) (folded y)
  eq-renamed x y p q = sym (same-is (renamed x) (renamed y)) ∙ same-renamed x y p q ∙ same-is x y

  pub gives : (m n : Macros) → Agree m n → (part : Part) → IsFreePart part → part_text n (changed (use_renamed from to) part) ≡ part_text m part
  gives m n agree (Macro name) h = ⊎_elim
      (λ e. ap (λ o. part_text n (unwrap_or o (Macro name))) (cond-true (same name from) (Some (Macro to)) None e)
      ∙ ap (λ x. unwrap_or (n (folded x)) []) (sym (renamed-from name e)) ∙ ap (λ o. unwrap_or o []) (agree name h))
      (λ e. ap (λ o. part_text n (unwrap_or o (Macro name))) (cond-false (same name from) (Some (Macro to)) None e)
      ∙ ap (λ x. unwrap_or (n (folded x)) []) (sym (renamed-other name e)) ∙ ap (λ o. unwrap_or o []) (agree name h))
      (cases_Bool (same name from))
  gives m n agree (Braced text) h = refl
  gives m n agree (Quoted text) h = refl
  gives m n agree (Digits text) h = refl

  pub stays : (m n : Macros) → Agree m n → (name : Text) → IsFree name → (o : Option Text) → Agree (updated m name o) (updated n (renamed name) o)
  stays m n agree name h o = names_stay IsFree renamed m n name o (λ x p. eq-renamed x name p h) agree

  -- at the definition itself, where both tables are the same
  pub begins : (m : Macros) (name : Text) → same name from ≡ true → (o : Option Text) → Agree (updated m name o) (updated m (renamed name) o)
  begins m name h o x p = ⊎_elim
      (λ e. cond-true (bytes_eq (folded (renamed x)) (folded (renamed name))) o (m (folded (renamed x))) (eq-renamed x name p (λ _. h) ∙ e)
      ∙ sym (cond-true (bytes_eq (folded x) (folded name)) o (m (folded x)) e))
      (λ e. let differs : same x from ≡ false = false_from_ne_true (same x from) (λ k. both_ways (same x name) (same-is x name ∙ e) (true-same x name (same-true x from k ∙ sym (same-true name from h)))) in
      ap₂ (λ b y. cond b o (m (folded y))) (eq-renamed x name p (λ _. h)) (renamed-other x differs))
      (cases_Bool (bytes_eq (folded x) (folded name)))

  abbrev new_tree : Tree → Tree
  new_tree tree = tree_with (name_renamed from to) (use_renamed from to) tree

  abbrev new_items : List Item → List Item
  new_items items = items_with (name_renamed from to) (use_renamed from to) items

  abbrev pub macro_renamed : List Item → List Item
  macro_renamed items = from_first (defines from) new_items items

  pub begins_tree : (m : Macros) (tree : Tree) → defines from tree ≡ true → InTree IsFreePart IsFree tree → Agree (macros_after m tree) (macros_after m (new_tree tree))
  begins_tree m (CommentTree c) e h = absurd (false≢true e)
  begins_tree m (PreambleTree p) e h = absurd (false≢true e)
  begins_tree m (EntryTree t) e h = absurd (false≢true e)
  begins_tree m (DefinitionTree d) e h = define_same (name_renamed from to) (use_renamed from to) IsFreePart IsFree Agree gives stays m m d (begins m d.assignment.name e) h.1

  module _ {X : Type 0} (say : Macros → Tree → List X)
      (says : (m n : Macros) → Agree m n → (tree : Tree) → InTree IsFreePart IsFree tree → say n (new_tree tree) ≡ say m tree)
      (quiet : (m : Macros) (tree : Tree) → defines from tree ≡ true → say m (new_tree tree) ≡ say m tree) where
    pub gathered_renamed : (m : Macros) (items : List Item) → InItems IsFreePart IsFree items → gathered say m (macro_renamed items) ≡ gathered say m items
    gathered_renamed m [] h = refl
    gathered_renamed m (item ∷ items) h =
        let P : List Item → Type 0 = λ new. gathered say m new ≡ gathered say m (item ∷ items) in
        let rest = gathered_renamed (macros_after m item.tree) items h.1 in
        cond_both (defines from item.tree) (new_items (item ∷ items)) (item ∷ macro_renamed items) P
        (λ e. ap₂ ◌++◌ (quiet m item.tree e)
        (gathered_same (name_renamed from to) (use_renamed from to) IsFreePart IsFree Agree gives stays say says (macros_after m item.tree) (macros_after m (new_tree item.tree)) (begins_tree m item.tree e h.0) items h.1))
        (λ e. ap (λ more. say m item.tree ++ more) rest)

  entry_quiet : (m : Macros) (tree : Tree) → defines from tree ≡ true → entry_in m (new_tree tree) ≡ entry_in m tree
  entry_quiet m (CommentTree c) e = absurd (false≢true e)
  entry_quiet m (PreambleTree p) e = absurd (false≢true e)
  entry_quiet m (EntryTree t) e = absurd (false≢true e)
  entry_quiet m (DefinitionTree d) e = refl

  preamble_quiet : (m : Macros) (tree : Tree) → defines from tree ≡ true → preamble_in m (new_tree tree) ≡ preamble_in m tree
  preamble_quiet m (CommentTree c) e = absurd (false≢true e)
  preamble_quiet m (PreambleTree p) e = absurd (false≢true e)
  preamble_quiet m (EntryTree t) e = absurd (false≢true e)
  preamble_quiet m (DefinitionTree d) e = refl

  pub entries_renamed : (m : Macros) (items : List Item) → InItems IsFreePart IsFree items → gathered entry_in m (macro_renamed items) ≡ gathered entry_in m items
  entries_renamed m items h =
      gathered_renamed entry_in (entry_same (name_renamed from to) (use_renamed from to) IsFreePart IsFree Agree gives stays) entry_quiet m items h

  pub preambles_renamed : (m : Macros) (items : List Item) → InItems IsFreePart IsFree items → gathered preamble_in m (macro_renamed items) ≡ gathered preamble_in m items
  preambles_renamed m items h =
      gathered_renamed preamble_in (preamble_same (name_renamed from to) (use_renamed from to) IsFreePart IsFree Agree gives stays) preamble_quiet m items h

  -- up to the definition the macros are what they were, and after it they agree
  pub at_renamed : (m : Macros) (items : List Item) → InItems IsFreePart IsFree items → (k : ℕ) →
      (is_after from items k ≡ false → macros_at m (macro_renamed items) k ≡ macros_at m items k)
      × (is_after from items k ≡ true → Agree (macros_at m items k) (macros_at m (macro_renamed items) k))
  at_renamed m items h zero = ((λ _. refl), (λ e. absurd (false≢true e)))
  at_renamed m [] h (suc k) = ((λ _. refl), (λ e. absurd (false≢true e)))
  at_renamed m (item ∷ items) h (suc k) =
      let rest = at_renamed (macros_after m item.tree) items h.1 k in
      let P : List Item → Type 0 = λ new.
      ((defines from item.tree || is_after from items k) ≡ false → macros_at m new (suc k) ≡ macros_at (macros_after m item.tree) items k)
      × ((defines from item.tree || is_after from items k) ≡ true → Agree (macros_at (macros_after m item.tree) items k) (macros_at m new (suc k))) in
      cond_both (defines from item.tree) (new_items (item ∷ items)) (item ∷ macro_renamed items) P
      (λ e. (
        (λ none. absurd (both_ways (defines from item.tree) (or_parts (defines from item.tree) (is_after from items k) none).0 e)),
        (λ _. at_same (name_renamed from to) (use_renamed from to) IsFreePart IsFree Agree gives stays
            (macros_after m item.tree) (macros_after m (new_tree item.tree)) (begins_tree m item.tree e h.0) items h.1 k),
      ))
      (λ e. (
        (λ none. rest.0 (or_parts (defines from item.tree) (is_after from items k) none).1),
        (λ some. rest.1 (⊎_elim (λ k. absurd (both_ways (defines from item.tree) e k)) (λ k. k) (or_cases (defines from item.tree) (is_after from items k) some))),
      ))
