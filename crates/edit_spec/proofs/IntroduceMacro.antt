-- IntroduceMacro: a name that was not in use stands for the text, and every text is unchanged.
use Rattle.edit_spec.proofs.Words.{◌≡◌, ℕ, zero, suc, Bool, true, false, cond, ◌||◌, List, ◌∷◌, ◌++◌, Option, Some, None, unwrap_or, ⊎_elim, refl, sym, ◌∙◌, ap, ap₂, append-nil, bytes_eq, cond-true, cond-false, cond_both, false≢true, both_ways, or_parts, or_cases, cases_Bool, Text, folded, same}
use Rattle.edit_spec.proofs.Words.{Part, Braced, Quoted, Digits, Macro, Tree, DefinitionTree, Item, Macros, updated, part_text, macros_after, macros_at, gathered, entry_in, preamble_in, uses, holds, any_part, changed, leaving, tree_with, from_first, part_introduced, definition_of, introduced}
use Rattle.edit_spec.proofs.Words.{is_reached, same-is, true-eq, eq-true}
use Rattle.std.proofs.Common.{[]}
use Rattle.edit_spec.proofs.Simulation.{InTree, InItems, AgreeOn, names_stay, name_stays, entry_same, preamble_same, gathered_same, at_same}

module _ (name held : Text) where
  abbrev pub IsOther : Text → Type 0
  IsOther defined = same defined name ≡ false

  abbrev pub IsUnused : Part → Type 0
  IsUnused part = uses name part ≡ false

  -- the new table gives the held text to the name, and to every other name what the old one gives
  abbrev pub Agree : Macros → Macros → Type 0
  Agree m n = (n (folded name) ≡ Some held) × AgreeOn IsOther (λ x. x) m n

  -- a part in braces or quotes says the same as the name if its content is the text
  said_alike : (n : Macros) → n (folded name) ≡ Some held → (part : Part) (text : Text) → part_text n part ≡ text →
      part_text n (unwrap_or (cond (bytes_eq text held) (Some (Macro name)) None) part) ≡ text
  said_alike n says part text is = ⊎_elim
      (λ e. ap (λ o. part_text n (unwrap_or o part)) (cond-true (bytes_eq text held) (Some (Macro name)) None e) ∙ ap (λ o. unwrap_or o []) says ∙ sym (eq-true text held e))
      (λ e. ap (λ o. part_text n (unwrap_or o part)) (cond-false (bytes_eq text held) (Some (Macro name)) None e) ∙ is)
      (cases_Bool (bytes_eq text held))

  pub gives : (m n : Macros) → Agree m n → (part : Part) → IsUnused part → part_text n (changed (part_introduced name held) part) ≡ part_text m part
  gives m n agree (Macro x) h = ap (λ o. unwrap_or o []) (agree.1 x h)
  gives m n agree (Digits text) h = refl
  gives m n agree (Braced text) h = said_alike n agree.0 (Braced text) text refl
  gives m n agree (Quoted text) h = said_alike n agree.0 (Quoted text) text refl

  pub stays : (m n : Macros) → Agree m n → (defined : Text) → IsOther defined → (o : Option Text) → Agree (updated m defined o) (updated n defined o)
  stays m n agree defined h o = (
    name_stays n name defined (Some held) o h agree.0,
    names_stay IsOther (λ x. x) m n defined o (λ _ _. refl) agree.1,
  )

  -- after the new definition
  abbrev pub after : Macros → Macros
  after m = macros_after m (DefinitionTree (definition_of name held))

  pub begins : (m : Macros) → Agree m (after m)
  begins m = (
    cond-true (bytes_eq (folded name) (folded name)) (Some (held ++ [])) (m (folded name)) (true-eq (folded name) (folded name) refl) ∙ ap Some (append-nil held),
    (λ x p. cond-false (bytes_eq (folded x) (folded name)) (Some (held ++ [])) (m (folded x)) (sym (same-is x name) ∙ p)),
  )

  abbrev new_tree : Tree → Tree
  new_tree tree = tree_with leaving (part_introduced name held) tree

  abbrev pub macro_introduced : List Item → List Item
  macro_introduced items = from_first (any_part (holds held)) (introduced name held) items

  module _ {X : Type 0} (say : Macros → Tree → List X)
      (says : (m n : Macros) → Agree m n → (tree : Tree) → InTree IsUnused IsOther tree → say n (new_tree tree) ≡ say m tree)
      (quiet : (m : Macros) → say m (DefinitionTree (definition_of name held)) ≡ []) where
    pub gathered_introduced : (m : Macros) (items : List Item) → InItems IsUnused IsOther items → gathered say m (macro_introduced items) ≡ gathered say m items
    gathered_introduced m [] h = refl
    gathered_introduced m (item ∷ items) h =
        let P : List Item → Type 0 = λ new. gathered say m new ≡ gathered say m (item ∷ items) in
        let rest = gathered_introduced (macros_after m item.tree) items h.1 in
        cond_both (any_part (holds held) item.tree) (introduced name held (item ∷ items)) (item ∷ macro_introduced items) P
        (λ e. ap₂ ◌++◌ (quiet m) (gathered_same leaving (part_introduced name held) IsUnused IsOther Agree gives stays say says m (after m) (begins m) (item ∷ items) h))
        (λ e. ap (λ more. say m item.tree ++ more) rest)

  pub entries_introduced : (m : Macros) (items : List Item) → InItems IsUnused IsOther items → gathered entry_in m (macro_introduced items) ≡ gathered entry_in m items
  entries_introduced = gathered_introduced entry_in (entry_same leaving (part_introduced name held) IsUnused IsOther Agree gives stays) (λ _. refl)

  pub preambles_introduced : (m : Macros) (items : List Item) → InItems IsUnused IsOther items → gathered preamble_in m (macro_introduced items) ≡ gathered preamble_in m items
  preambles_introduced = gathered_introduced preamble_in (preamble_same leaving (part_introduced name held) IsUnused IsOther Agree gives stays) (λ _. refl)

  -- up to the first item that holds the text the macros are what they were; from it on they agree, with item numbers one more
  pub at_introduced : (m : Macros) (items : List Item) → InItems IsUnused IsOther items → (k : ℕ) →
      (is_reached (any_part (holds held)) items k ≡ false → macros_at m (macro_introduced items) k ≡ macros_at m items k)
      × (is_reached (any_part (holds held)) items k ≡ true → Agree (macros_at m items k) (macros_at m (macro_introduced items) (suc k)))
  at_introduced m [] h k = ((λ _. refl), (λ e. absurd (false≢true e)))
  at_introduced m (item ∷ items) h zero =
      let t : Bool = any_part (holds held) item.tree in
      let P : List Item → Type 0 = λ new. ((t || false) ≡ false → macros_at m new zero ≡ m) × ((t || false) ≡ true → Agree m (macros_at m new (suc zero))) in
      cond_both (any_part (holds held) item.tree) (introduced name held (item ∷ items)) (item ∷ macro_introduced items) P
      (λ e. ((λ none. absurd (both_ways t (or_parts t false none).0 e)), (λ _. begins m)))
      (λ e. ((λ _. refl), (λ some. absurd (⊎_elim (λ k. both_ways t e k) (λ k. false≢true k) (or_cases t false some)))))
  at_introduced m (item ∷ items) h (suc k) =
      let rest = at_introduced (macros_after m item.tree) items h.1 k in
      let t : Bool = any_part (holds held) item.tree in
      let r : Bool = is_reached (any_part (holds held)) items k in
      let P : List Item → Type 0 = λ new. ((t || r) ≡ false → macros_at m new (suc k) ≡ macros_at (macros_after m item.tree) items k) × ((t || r) ≡ true → Agree (macros_at (macros_after m item.tree) items k) (macros_at m new (suc (suc k)))) in
      cond_both (any_part (holds held) item.tree) (introduced name held (item ∷ items)) (item ∷ macro_introduced items) P
      (λ e. (
        (λ none. absurd (both_ways t (or_parts t r none).0 e)),
        (λ _. at_same leaving (part_introduced name held) IsUnused IsOther Agree gives stays m (after m) (begins m) (item ∷ items) h (suc k)),
      ))
      (λ e. (
        (λ none. rest.0 (or_parts t r none).1),
        (λ some. rest.1 (⊎_elim (λ k. absurd (both_ways t e k)) (λ k. k) (or_cases t r some))),
      ))
