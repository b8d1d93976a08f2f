-- The laws of the macro edits.
use Rattle.edit_spec.proofs.Words.{◌≡◌, ℕ, true, false, not, ◌||◌, ◌&&◌, is_some, Option, Some, None, option_map, ⊎_elim, refl, sym, ◌∙◌, ap, length, count_by, list_any, cases_Bool, both_ways, or_parts, and_cases, false_from_ne_true, not-false, Text, folded, same, Part, Braced, Quoted, Digits}
use Rattle.edit_spec.proofs.Words.{Macro, Reading, months, macros_at, seen, Record, entries_of, preambles_of, expanded, parent, listed, unknown, uses, any_part, defines, rename_macro, inline_macro, introduce_macro, text_of_macro, NotFound, Ambiguous, NameInUse, record_with_key, KeepsEntries}
use Rattle.edit_spec.proofs.Words.{is_after, there_once, same-true, true-same}
use Rattle.edit_spec.specs.Edits.{is_in_use}
use Rattle.edit_spec.specs.Laws.{no_new_key, KeepsCitations, SeesRenamed, rename_macro_keeps, inline_macro_keeps, introduce_macro_keeps}
use Rattle.edit_spec.proofs.Simulation.{InItems}
use Rattle.edit_spec.proofs.InUse.{InItems_none, InItems_all}
use Rattle.edit_spec.proofs.InlineMacro.{entries_inlined, preambles_inlined, at_inlined}
use Rattle.edit_spec.proofs.IntroduceMacro.{IsUnused, IsOther, entries_introduced, preambles_introduced, at_introduced}
use Rattle.edit_spec.proofs.RenameMacro.{IsFree, IsFreePart, Agree, renamed, renamed-from, renamed-other, entries_renamed, preambles_renamed, at_renamed}

no_key : (o : Option Record) → o ≡ option_map (record_with_key None) o
no_key None = refl
no_key (Some r) = refl

-- if the entries and the preambles are unchanged, so is all that is read from them
pub keeps_entries : (old new : Reading) → entries_of new ≡ entries_of old → preambles_of new ≡ preambles_of old → KeepsEntries no_new_key old new
keeps_entries old new e p = record {
  count = ap length e;
  records = λ depth n. ap (λ s. expanded depth s n) e ∙ no_key (expanded depth (entries_of old) n);
  parents = λ n. ap (λ s. parent s n) e;
  preambles = p;
}

pub keeps_citations : (old new : Reading) → entries_of new ≡ entries_of old → KeepsCitations old new
keeps_citations old new e = record {
  cited = λ keys min. ap (λ s. listed s keys min) e;
  unknowns = λ keys. ap (λ s. unknown s keys) e;
}

-- ---- renaming a macro

free_part : (from to : Text) (part : Part) → same to from ≡ true → IsFreePart from to part
free_part from to (Macro name) e = λ h. true-same name from (same-true name to h ∙ same-true to from e)
free_part from to (Braced text) e = tt
free_part from to (Quoted text) e = tt
free_part from to (Digits text) e = tt

unused_part : (from to : Text) (part : Part) → uses to part ≡ false → IsFreePart from to part
unused_part from to (Macro name) h = λ e. absurd (both_ways (same name to) h e)
unused_part from to (Braced text) h = tt
unused_part from to (Quoted text) h = tt
unused_part from to (Digits text) h = tt

module _ (from to : Text) (db : Reading) (unused : (not (same to from) && is_in_use to db.items) ≡ false) where
  pub all_free : InItems (IsFreePart from to) (IsFree from to) db.items
  all_free = ⊎_elim
      (λ e. respelled (not-false (same to from) e))
      (λ none. InItems_none (IsFreePart from to) (IsFree from to) (uses to) (unused_part from to) to (λ name h e. absurd (both_ways (same name to) h e)) db.items
      (or_parts (is_some (months (folded to))) (list_any (λ item. defines to item.tree || any_part (uses to) item.tree) db.items) none).1)
      (and_cases (not (same to from)) (is_in_use to db.items) unused)
    where
      respelled : same to from ≡ true → InItems (IsFreePart from to) (IsFree from to) db.items
      respelled e = InItems_all (IsFreePart from to) (IsFree from to) (λ part. free_part from to part e) (λ name h. true-same name from (same-true name to h ∙ same-true to from e)) db.items

  sees_at : (n : ℕ) → (is_after from db.items n ≡ false → (name : Text) → seen (rename_macro from to db) n name ≡ seen db n name)
      × (is_after from db.items n ≡ true → Agree from to (macros_at months db.items n) (macros_at months (rename_macro from to db).items n))
  sees_at n = let both = at_renamed from to months db.items all_free n in ((λ e name. ap (λ m. m (folded name)) (both.0 e)), both.1)

  respelled_folded : same to from ≡ true → (name : Text) → folded (renamed from to name) ≡ folded name
  respelled_folded s name = ⊎_elim
      (λ e. ap folded (renamed-from from to name e) ∙ same-true to from s ∙ sym (same-true name from e))
      (λ e. ap folded (renamed-other from to name e))
      (cases_Bool (same name from))

  sees_renamed : SeesRenamed from to db (rename_macro from to db)
  sees_renamed = record {
    other = λ n name p q. ⊎_elim
        (λ e. ap (λ y. seen (rename_macro from to db) n y) (sym (renamed-other from to name p)) ∙ (sees_at n).1 e name (λ h. absurd (both_ways (same name to) q h)))
        (λ e. (sees_at n).0 e name)
        (cases_Bool (is_after from db.items n));
    before = λ n name e. (sees_at n).0 e name;
    after = λ n e. ap (λ y. seen (rename_macro from to db) n y) (sym (renamed-from from to from (true-same from from refl))) ∙ (sees_at n).1 e from (λ _. true-same from from refl);
    respelled = λ s n name. ⊎_elim
        (λ e. ap (λ y. macros_at months (rename_macro from to db).items n y) (sym (respelled_folded s name)) ∙ (sees_at n).1 e name (λ h. true-same name from (same-true name to h ∙ same-true to from s)))
        (λ e. (sees_at n).0 e name)
        (cases_Bool (is_after from db.items n));
  }

  pub macro_renamed_keeps : KeepsEntries no_new_key db (rename_macro from to db) × KeepsCitations db (rename_macro from to db) × SeesRenamed from to db (rename_macro from to db)
  macro_renamed_keeps =
      let is = entries_renamed from to months db.items all_free in
      (keeps_entries db (rename_macro from to db) is (preambles_renamed from to months db.items all_free), keeps_citations db (rename_macro from to db) is, sees_renamed)

pub rename-macro-keeps : rename_macro_keeps
rename-macro-keeps key_base db from to accepted = macro_renamed_keeps from to db (false_from_ne_true (not (same to from) && is_in_use to db.items) (accepted NameInUse))

-- ---- inlining a macro

pub inline-macro-keeps : inline_macro_keeps
inline-macro-keeps key_base db name accepted =
    let held : Text = text_of_macro name db in
    let once = there_once (count_by (λ item. defines name item.tree) db.items) (accepted NotFound) (accepted Ambiguous) in
    let is = entries_inlined name held months db.front db.items once refl in (
      keeps_entries db (inline_macro name db) is (preambles_inlined name held months db.front db.items once refl),
      keeps_citations db (inline_macro name db) is,
      record {
        before = λ n other e. ap (λ m. m (folded other)) ((at_inlined name held months db.front db.items once refl n).0 e);
        after = λ n other e p. (at_inlined name held months db.front db.items once refl n).1 e other p;
      },
    )

-- ---- introducing a macro

pub introduce-macro-keeps : introduce_macro_keeps
introduce-macro-keeps key_base db name text accepted =
    let unused : is_in_use name db.items ≡ false = false_from_ne_true (is_in_use name db.items) (accepted NameInUse) in
    let fine : InItems (IsUnused name text) (IsOther name text) db.items =
    InItems_none (IsUnused name text) (IsOther name text) (uses name) (λ _ h. h) name (λ _ h. h) db.items
    (or_parts (is_some (months (folded name))) (list_any (λ item. defines name item.tree || any_part (uses name) item.tree) db.items) unused).1 in
    let is = entries_introduced name text months db.items fine in (
      keeps_entries db (introduce_macro name text db) is (preambles_introduced name text months db.items fine),
      keeps_citations db (introduce_macro name text db) is,
      record {
        before = λ n other e. ap (λ m. m (folded other)) ((at_introduced name text months db.items fine n).0 e);
        after = λ n other e p. ((at_introduced name text months db.items fine n).1 e).1 other p;
        introduced = λ n e. ((at_introduced name text months db.items fine n).1 e).0;
      },
    )
