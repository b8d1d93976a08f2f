-- A definition that no use sees is taken out: no raw text becomes too long.
use Rattle.bib_edit.proofs.Words.{◌≡◌, ℕ, zero, suc, ◌+◌, ◌≤◌, Bool, true, false, cond, not, ◌&&◌, ◌||◌, List, [], ◌∷◌, Option, Some, None, slice_get, length, drop, ⊎_elim, refl, sym, ◌∙◌, ap, ap₂, list_any, bytes_eq, cases_Bool, cond-true, cond-false, false≢true, or_parts, or_from, none-some, same_Some, drop_of_length-le}
use Rattle.bib_edit.proofs.Words.{Text, folded, same, Definition, Tree, CommentTree, DefinitionTree, PreambleTree, EntryTree, Item, Macros, updated, parts_of, values_of, raw_text, macros_in, macros_after, raw_texts_in, any_part, have_part, uses, defines, same-true}
use Rattle.bib_spec.proofs.Names.{same-is, same_of}
use Rattle.edit_spec.specs.Edits.{is_used_before_next, without_item}
use Rattle.edit_spec.specs.Laws.{is_use_of}
use Rattle.edit_spec.proofs.AgreeingMacros.{AgreeBut, never, none_too, unused_too, value-alike, after-alike}
use Rattle.bib_edit.proofs.LongTexts.{is_long, any_long}
use Rattle.bib_edit.proofs.PlacedTexts.{is_long_in}
use Rattle.bib_edit.proofs.UnusedValues.{texts-alike, long-alike}

-- no item uses a name of none
none_used : (items : List Item) → have_part (is_use_of []) items ≡ false
none_used items = none_too (λ item. any_part (is_use_of []) item.tree) (λ _. false) (λ item none. of_tree item.tree) items (never items)
  where
    of_tree : (tree : Tree) → any_part (is_use_of []) tree ≡ false
    of_tree tree = none_too (λ v. list_any (is_use_of []) (parts_of v)) (λ _. false) (λ v none. never (parts_of v)) (values_of tree) (never (values_of tree))

module _ (name : Text) where
  abbrev its : List Text
  its = name ∷ []

  -- ---- up to the next definition, on the way through the items

  module _ (items : List Item) (k : ℕ) (whole : Bool) (so_far : whole ≡ is_used_before_next name (drop k items)) where
    abbrev rest : List Item
    rest = drop (k + 1) items

    module _ (item : Item) (next : drop k items ≡ item ∷ drop (k + 1) items) where
      unfolded : whole ≡ (not (defines name item.tree) && (any_part (uses name) item.tree || is_used_before_next name rest))
      unfolded = so_far ∙ ap (is_used_before_next name) next

      pub seen-no_more : defines name item.tree ≡ true → false ≡ whole
      seen-no_more defined = sym (unfolded ∙ ap (λ b. not b && (any_part (uses name) item.tree || is_used_before_next name rest)) defined)

      module _ (other : defines name item.tree ≡ false) where
        further : whole ≡ (any_part (uses name) item.tree || is_used_before_next name rest)
        further = unfolded ∙ ap (λ b. not b && (any_part (uses name) item.tree || is_used_before_next name rest)) other

        pub seen-here : any_part (uses name) item.tree ≡ true → true ≡ whole
        seen-here used = sym (further ∙ ap (λ b. b || is_used_before_next name rest) used)

        pub seen-later : any_part (uses name) item.tree ≡ false → whole ≡ is_used_before_next name rest
        seen-later unused = further ∙ ap (λ b. b || is_used_before_next name rest) unused

    pub seen-nowhere : length items ≤ k → false ≡ whole
    seen-nowhere past = sym (so_far ∙ ap (is_used_before_next name) (drop_of_length-le items past))

  -- ---- tables of macros that agree on all other names

  -- a name that is none of the macro's is none of its definition's
  differs : (defined x : Text) → same defined name ≡ true → same x name ≡ false → bytes_eq (folded x) (folded defined) ≡ false
  differs defined x e h = sym (same-is x defined) ∙ same_of x defined x name refl (same-true defined name e) ∙ h

  -- once the name stands for the same under both, they agree on all names
  agree-on_all : (m n : Macros) → AgreeBut its m n → (defined : Text) (o : Option Text) → same defined name ≡ true → AgreeBut [] (updated m defined o) (updated n defined o)
  agree-on_all m n agree defined o e x none = ⊎_elim
      (λ t. cond-true (bytes_eq (folded x) (folded defined)) o (n (folded x)) t ∙ sym (cond-true (bytes_eq (folded x) (folded defined)) o (m (folded x)) t))
      (λ f.
      let other : same x name ≡ false = sym (same_of x defined x name refl (same-true defined name e)) ∙ same-is x defined ∙ f in
      ap (λ v. cond (bytes_eq (folded x) (folded defined)) o v) (agree x (or_from (same x name) false other refl)))
      (cases_Bool (bytes_eq (folded x) (folded defined)))

  module _ (m n : Macros) (agree : AgreeBut its m n) where
    -- the next definition says the same under both
    next_said : (d : Definition) → same d.assignment.name name ≡ true → raw_text (macros_in n (DefinitionTree d)) d.assignment.value ≡ raw_text (macros_in m (DefinitionTree d)) d.assignment.value
    next_said d e =
        value-alike [] (macros_in m (DefinitionTree d)) (macros_in n (DefinitionTree d)) (agree-on_all m n agree d.assignment.name None e) d.assignment.value (never (parts_of d.assignment.value))

    next_texts : (tree : Tree) → defines name tree ≡ true → raw_texts_in n tree ≡ raw_texts_in m tree
    next_texts (DefinitionTree d) e = ap (λ t. t ∷ []) (next_said d e)
    next_texts (CommentTree c) e = absurd (false≢true e)
    next_texts (PreambleTree p) e = absurd (false≢true e)
    next_texts (EntryTree t) e = absurd (false≢true e)

    next_agree : (tree : Tree) → defines name tree ≡ true → AgreeBut [] (macros_after m tree) (macros_after n tree)
    next_agree (CommentTree c) e x none = absurd (false≢true e)
    next_agree (PreambleTree p) e x none = absurd (false≢true e)
    next_agree (EntryTree t) e x none = absurd (false≢true e)
    next_agree (DefinitionTree d) e x none =
        ap (λ t. cond (bytes_eq (folded x) (folded d.assignment.name)) (Some t) (n (folded x))) (next_said d e)
        ∙ agree-on_all m n agree d.assignment.name (Some (raw_text (macros_in m (DefinitionTree d)) d.assignment.value)) e x none

  -- after a definition, and before it
  around : (m : Macros) (tree : Tree) → defines name tree ≡ true → AgreeBut its (macros_after m tree) m
  around m (CommentTree c) e x none = absurd (false≢true e)
  around m (PreambleTree p) e x none = absurd (false≢true e)
  around m (EntryTree t) e x none = absurd (false≢true e)
  around m (DefinitionTree d) e x none =
      sym (cond-false (bytes_eq (folded x) (folded d.assignment.name)) (Some (raw_text (macros_in m (DefinitionTree d)) d.assignment.value)) (m (folded x))
      (differs d.assignment.name x e (or_parts (same x name) false none).0))

  -- ---- texts

  -- items say the same under both, if none up to the next definition uses the name
  long-upto : (m n : Macros) → AgreeBut its m n → (items : List Item) → is_used_before_next name items ≡ false → any_long n items ≡ any_long m items
  long-upto m n agree [] h = refl
  long-upto m n agree (item ∷ items) h = ⊎_elim
      (λ t. ap₂ ◌||◌ (ap (list_any is_long) (next_texts m n agree item.tree t))
      (long-alike [] (macros_after m item.tree) (macros_after n item.tree) (next_agree m n agree item.tree t) items (none_used items)))
      (λ f.
      let both = or_parts (any_part (uses name) item.tree) (is_used_before_next name items)
      (sym (ap (λ b. not b && (any_part (uses name) item.tree || is_used_before_next name items)) f) ∙ h) in
      let unused = unused_too (is_use_of its) (uses name) (λ part none. or_from (uses name part) false none refl) item.tree both.0 in
      ap₂ ◌||◌ (ap (list_any is_long) (texts-alike its m n agree item.tree unused))
      (long-upto (macros_after m item.tree) (macros_after n item.tree) (after-alike its m n agree item.tree unused) items both.1))
      (cases_Bool (defines name item.tree))

  -- the definition goes
  pub undefined-short : (m : Macros) (n : ℕ) (front : Text) (items : List Item) (item : Item) → slice_get items n ≡ Some item → defines name item.tree ≡ true →
      is_used_before_next name (drop (suc n) items) ≡ false → any_long m items ≡ false → any_long m (without_item n front items).items ≡ false
  undefined-short m n front [] item at e h short = absurd (none-some item at)
  undefined-short m zero front (first ∷ items) item at e h short =
      let both = or_parts (is_long_in m first.tree) (any_long (macros_after m first.tree) items) short in
      long-upto (macros_after m first.tree) m (around m first.tree (ap (λ (i : Item). defines name i.tree) (same_Some first item at) ∙ e)) items h ∙ both.1
  undefined-short m (suc n) front (first ∷ items) item at e h short =
      let both = or_parts (is_long_in m first.tree) (any_long (macros_after m first.tree) items) short in
      or_from (is_long_in m first.tree) (any_long (macros_after m first.tree) (without_item n first.trail items).items) both.0
      (undefined-short (macros_after m first.tree) n first.trail items item at e h both.1)
