-- DefineMacro: the new definition is one of the grammar, and if nothing uses the macro, all says what it said.
use Rattle.edit_spec.proofs.Words.{◌≡◌, ◌≤◌, ℕ, zero, suc, true, false, List, ◌∷◌, ◌++◌, Some, refl, sym, ◌∙◌, ap, ap₂, length, arith, le_of_suc-le-suc, bytes_eq, cond-false, false≢true, or_parts, or_from, and_parts, All-cons, All-head, All-tail, name_limit, Text, folded, same, is_name}
use Rattle.edit_spec.proofs.Words.{Part, Value, Definition, Tree, CommentTree, DefinitionTree, PreambleTree, EntryTree, IsValue, Item, Reading, bytes_of, IsItem, Reads, Macros, months, raw_text, macros_in, macros_after, macros_at, gathered, entry_in, preamble_in}
use Rattle.edit_spec.proofs.Words.{Record, uses, any_part, in_line, definition_as, same-is, DefineMacro, IsAccepted}
use Rattle.std.proofs.Common.{[]}
use Rattle.bib_spec.specs.Tree.{IsDefinition}
use Rattle.part_spec.specs.Parts.{have_part}
use Rattle.edit_spec.specs.Edits.{definitions_end_with, definitions_end, put_after, define_macro}
use Rattle.edit_spec.specs.Laws.{is_use_of, define_macro_keeps}
use Rattle.edit_spec.proofs.Unrefuted.{given_names-are, given_values-are}
use Rattle.edit_spec.proofs.EditedItems.{AreItems, made_reads, in_line-is}
use Rattle.edit_spec.proofs.ChangedParts.{new_definition}
use Rattle.edit_spec.proofs.AgreeingMacros.{AgreeBut, none_too, unused_too, entry-alike, preamble-alike, after-alike}
use Rattle.edit_spec.proofs.MacroLaws.{keeps_entries, keeps_citations}

-- ---- what is made reads

module _ (d : Definition) (is : IsDefinition name_limit d) where
  put-are : (n : ℕ) (items : List Item) → AreItems items → AreItems (put_after n (DefinitionTree d) items)
  put-are zero items are = All-cons (IsItem name_limit) (in_line (DefinitionTree d)) items (in_line-is (DefinitionTree d) is) are
  put-are (suc n) [] are = All-cons (IsItem name_limit) (in_line (DefinitionTree d)) [] (in_line-is (DefinitionTree d) is) are
  put-are (suc zero) (item ∷ items) are =
      let first = All-head (IsItem name_limit) item items are in
      let new : Item = record { tree = DefinitionTree d; trail = item.trail } in
      All-cons (IsItem name_limit) (in_line item.tree) (new ∷ items) (in_line-is item.tree first.tree)
      (All-cons (IsItem name_limit) new items (record { tree = is; trail = record { clean = first.trail.clean; ends_name = λ e. absurd (false≢true e) } })
      (All-tail (IsItem name_limit) item items are))
  put-are (suc (suc n)) (item ∷ items) are =
      All-cons (IsItem name_limit) item (put_after (suc n) (DefinitionTree d) items) (All-head (IsItem name_limit) item items are) (put-are (suc n) items (All-tail (IsItem name_limit) item items are))

pub define_macro-reads : (file : Text) (db : Reading) (name : Text) (value : Value) → Reads file db → is_name name ≡ true → IsValue name_limit value →
    Reads (bytes_of (define_macro name value db)) (define_macro name value db)
define_macro-reads file db name value reads named is =
    made_reads (define_macro name value db) reads.front (put-are (definition_as name value) (new_definition name value named is) (definitions_end db.items) db.items reads.items)

pub defined_macro-reads : (key_base : Record → Text) (file : Text) (db : Reading) (name : Text) (value : Value) → Reads file db → IsAccepted key_base db (DefineMacro name value) →
    Reads (bytes_of (define_macro name value db)) (define_macro name value db)
defined_macro-reads key_base file db name value reads accepted =
    define_macro-reads file db name value reads (and_parts (is_name name) _ (given_names-are key_base db (DefineMacro name value) accepted)).0
    (All-head (IsValue name_limit) value [] (given_values-are key_base db (DefineMacro name value) accepted))

-- ---- the place is one of the file

end_with-within : (tree : Tree) (n count : ℕ) → n ≤ count → definitions_end_with tree n ≤ suc count
end_with-within (EntryTree e) n count h = omega arith
end_with-within (DefinitionTree d) n count h = omega (arith, h)
end_with-within (CommentTree c) zero count h = omega arith
end_with-within (CommentTree c) (suc n) count h = omega (arith, h)
end_with-within (PreambleTree p) zero count h = omega arith
end_with-within (PreambleTree p) (suc n) count h = omega (arith, h)

pub end-within : (items : List Item) → definitions_end items ≤ length items
end-within [] = omega arith
end-within (item ∷ items) = end_with-within item.tree (definitions_end items) (length items) (end-within items)

-- ---- nothing uses the macro

module _ (name : Text) (value : Value) where
  abbrev its_name : List Text
  its_name = name ∷ []

  abbrev new_tree : Tree
  new_tree = DefinitionTree (definition_as name value)

  abbrev AreUnused : List Item → Type 0
  AreUnused items = have_part (is_use_of its_name) items ≡ false

  part_unused : (part : Part) → uses name part ≡ false → is_use_of its_name part ≡ false
  part_unused part h = or_from (uses name part) false h refl

  pub unused : (items : List Item) → have_part (uses name) items ≡ false → AreUnused items
  unused items h =
      none_too (λ item. any_part (is_use_of its_name) item.tree) (λ item. any_part (uses name) item.tree) (λ item none. unused_too (is_use_of its_name) (uses name) part_unused item.tree none) items h

  begins : (m : Macros) → AgreeBut its_name m (macros_after m new_tree)
  begins m x none =
      let o = Some (raw_text (macros_in m new_tree) value) in
      cond-false (bytes_eq (folded x) (folded name)) o (m (folded x)) (sym (same-is x name) ∙ (or_parts (same x name) false none).0)

  -- ---- what is gathered

  module _ {X : Type 0} (say : Macros → Tree → List X)
      (says : (m n : Macros) → AgreeBut its_name m n → (tree : Tree) → any_part (is_use_of its_name) tree ≡ false → say n tree ≡ say m tree)
      (quiet : (m : Macros) → say m new_tree ≡ []) where
    gathered_alike : (m n : Macros) → AgreeBut its_name m n → (items : List Item) → AreUnused items → gathered say n items ≡ gathered say m items
    gathered_alike m n agree [] h = refl
    gathered_alike m n agree (item ∷ items) h =
        let both = or_parts (any_part (is_use_of its_name) item.tree) (have_part (is_use_of its_name) items) h in
        ap₂ ◌++◌ (says m n agree item.tree both.0) (gathered_alike (macros_after m item.tree) (macros_after n item.tree) (after-alike its_name m n agree item.tree both.0) items both.1)

    gathered_behind : (m : Macros) (items : List Item) → AreUnused items → say m new_tree ++ gathered say (macros_after m new_tree) items ≡ gathered say m items
    gathered_behind m items h = ap₂ ◌++◌ (quiet m) (gathered_alike m (macros_after m new_tree) (begins m) items h)

    gathered_put : (m : Macros) (n : ℕ) (items : List Item) → AreUnused items → gathered say m (put_after n new_tree items) ≡ gathered say m items
    gathered_put m zero items h = gathered_behind m items h
    gathered_put m (suc n) [] h = gathered_behind m [] h
    gathered_put m (suc zero) (item ∷ items) h =
        ap (λ more. say m item.tree ++ more) (gathered_behind (macros_after m item.tree) items (or_parts (any_part (is_use_of its_name) item.tree) (have_part (is_use_of its_name) items) h).1)
    gathered_put m (suc (suc n)) (item ∷ items) h =
        ap (λ more. say m item.tree ++ more) (gathered_put (macros_after m item.tree) (suc n) items (or_parts (any_part (is_use_of its_name) item.tree) (have_part (is_use_of its_name) items) h).1)

  entries_put : (m : Macros) (n : ℕ) (items : List Item) → AreUnused items → gathered entry_in m (put_after n new_tree items) ≡ gathered entry_in m items
  entries_put = gathered_put entry_in (entry-alike its_name) (λ _. refl)

  preambles_put : (m : Macros) (n : ℕ) (items : List Item) → AreUnused items → gathered preamble_in m (put_after n new_tree items) ≡ gathered preamble_in m items
  preambles_put = gathered_put preamble_in (preamble-alike its_name) (λ _. refl)

  -- ---- what names stand for

  -- up to the new definition the macros are what they were
  at_before : (m : Macros) (place : ℕ) (items : List Item) (k : ℕ) → place ≤ length items → k ≤ place → macros_at m (put_after place new_tree items) k ≡ macros_at m items k
  at_before m place items zero h low = refl
  at_before m zero items (suc k) h low = absurd (omega (arith, low))
  at_before m (suc place) [] (suc k) h low = absurd (omega (arith, h))
  at_before m (suc zero) (item ∷ items) (suc zero) h low = refl
  at_before m (suc zero) (item ∷ items) (suc (suc k)) h low = absurd (omega (arith, low))
  at_before m (suc (suc place)) (item ∷ items) (suc k) h low = at_before (macros_after m item.tree) (suc place) items k (le_of_suc-le-suc h) (le_of_suc-le-suc low)

  at_alike : (m n : Macros) → AgreeBut its_name m n → (items : List Item) → AreUnused items → (k : ℕ) → AgreeBut its_name (macros_at m items k) (macros_at n items k)
  at_alike m n agree items h zero = agree
  at_alike m n agree [] h (suc k) = agree
  at_alike m n agree (item ∷ items) h (suc k) =
      let both = or_parts (any_part (is_use_of its_name) item.tree) (have_part (is_use_of its_name) items) h in
      at_alike (macros_after m item.tree) (macros_after n item.tree) (after-alike its_name m n agree item.tree both.0) items both.1 k

  -- from there on they agree on all other names, with item numbers one more
  at_after : (m : Macros) (place : ℕ) (items : List Item) (k : ℕ) → AreUnused items → place ≤ length items → place ≤ k → AgreeBut its_name (macros_at m items k) (macros_at m (put_after place new_tree items) (suc k))
  at_after m zero items k h low high = at_alike m (macros_after m new_tree) (begins m) items h k
  at_after m (suc place) [] k h low high = absurd (omega (arith, low))
  at_after m (suc place) (item ∷ items) zero h low high = absurd (omega (arith, high))
  at_after m (suc zero) (item ∷ items) (suc k) h low high =
      let both = or_parts (any_part (is_use_of its_name) item.tree) (have_part (is_use_of its_name) items) h in
      let before = macros_after m item.tree in
      at_alike before (macros_after before new_tree) (begins before) items both.1 k
  at_after m (suc (suc place)) (item ∷ items) (suc k) h low high =
      at_after (macros_after m item.tree) (suc place) items k (or_parts (any_part (is_use_of its_name) item.tree) (have_part (is_use_of its_name) items) h).1 (le_of_suc-le-suc low) (le_of_suc-le-suc high)

-- ---- the law

pub define-macro-keeps : define_macro_keeps
define-macro-keeps key_base db name value accepted none =
    let h = unused name value db.items none in
    let place = definitions_end db.items in
    let is = entries_put name value months place db.items h in (
      keeps_entries db (define_macro name value db) is (preambles_put name value months place db.items h),
      keeps_citations db (define_macro name value db) is,
      record {
        before = λ n other low. ap (λ m. m (folded other)) (at_before name value months place db.items n (end-within db.items) low);
        after = λ n other high p. at_after name value months place db.items n h (end-within db.items) high other (or_from (same other name) false p refl);
      },
    )
