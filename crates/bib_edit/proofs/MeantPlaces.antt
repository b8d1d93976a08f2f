-- How many items are before the entry that is meant, and how many entries are.
use Rattle.bib_edit.proofs.Words.{◌≡◌, ◌<◌, ◌≤◌, ℕ, false, true, refl, Option, Some, None, is_some, if◌then◌else◌, length, sym, ◌∙◌, arith, subst, ⊎_elim, cases_Bool, cond-true, cond-false, Text, Reading, holders, is_entry, IsHolderFault}
use Rattle.std.proofs.Common.{unwrap_or}
use Rattle.edit_spec.specs.Edits.{item_meant}
use Rattle.bib_edit.specs.Numbers.{is_numbered, which_of}
use Rattle.bib_edit.specs.Positions.{items_before, items_before_meant, count_meant, IsCountFault}
use Rattle.bib_edit.specs.declared.fault.EditFault.{EditFault}
use Rattle.bib_edit.proofs.EntryPlaces.{before-within}
use Rattle.bib_edit.proofs.MeantItems.{meant-within}

module _ (key : Text) (db : Reading) where
  abbrev found : Option ℕ
  found = item_meant (which_of key) db.items

  module _ (plain : is_numbered key ≡ false) where
    pub plain-place : items_before_meant key db.items ≡ items_before key db.items
    plain-place = cond-false (is_numbered key) (unwrap_or found (length db.items)) (items_before key db.items) plain

    pub plain-count : count_meant key db ≡ holders key db
    plain-count = cond-false (is_numbered key) (if is_some found then 1 else 0) (holders key db) plain

  module _ (numbered : is_numbered key ≡ true) where
    pub numbered-place : items_before_meant key db.items ≡ unwrap_or found (length db.items)
    numbered-place = cond-true (is_numbered key) (unwrap_or found (length db.items)) (items_before key db.items) numbered

    pub numbered-count : count_meant key db ≡ (if is_some found then 1 else 0)
    numbered-count = cond-true (is_numbered key) (if is_some found then 1 else 0) (holders key db) numbered

  within : (o : Option ℕ) → found ≡ o → unwrap_or o (length db.items) ≤ length db.items
  within (Some n) is = let lt = meant-within (which_of key) db n is in omega (arith, lt)
  within None is = omega arith

  -- no more items are before it than there are
  pub meant-place-within : items_before_meant key db.items ≤ length db.items
  meant-place-within = ⊎_elim
      (λ t. let e = numbered-place t in let rest = within found refl in omega (arith, e, rest))
      (λ f. let e = plain-place f in let rest = before-within (is_entry key) db.items in omega (arith, e, rest))
      (cases_Bool (is_numbered key))

-- a key without a number means the entries that have it
pub plain-fault : (key file : Text) (fault : EditFault) → is_numbered key ≡ false → IsHolderFault file key fault → IsCountFault file key fault
plain-fault key file fault plain (IsHolderFault.none_holds none) = IsCountFault.none_meant (λ db reads. plain-count key db plain ∙ none db reads)
plain-fault key file fault plain (IsHolderFault.many_hold many) = IsCountFault.many_meant (λ db reads. subst (λ (k : ℕ). 1 < k) (sym (plain-count key db plain)) (many db reads))
