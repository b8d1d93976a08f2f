-- The definition of a macro that is meant by its number among several: its item, and how many definitions there are.
use Rattle.bib_edit.proofs.Words.{◌≡◌, ℕ, zero, suc, ◌<◌, ◌≤◌, Bool, true, List, [], ◌∷◌, Option, Some, None, option_map, slice_get, length, count_by, ⊎_elim, sym, ◌∙◌, ap, arith, cases_Bool, cond-true, cond-false, none-some, slice_get_within, suc_some, count-no, count-yes}
use Rattle.bib_edit.proofs.Words.{Text, same, Definition, DefinitionTree, Item, Reading, defines, definitions, OfReading, IsDefinitionNumber}
use Rattle.std.proofs.Common.{if◌then◌else◌}
use Rattle.edit_spec.specs.Edits.{nth_of, definition_meant}
use Rattle.edit_spec.proofs.MeantMembers.{nth_of-at}
use Rattle.bib_edit.proofs.MeantItems.{item_at}
use Rattle.bib_edit.proofs.DefinedNames.{defining}

-- ---- how many there are

none_later : (o : Option ℕ) → option_map suc o ≡ None → o ≡ None
none_later None none = none
none_later (Some n) none = absurd (none-some (suc n) (sym none))

module _ {X : Type 0} (test : X → Bool) where
  -- if the one with a number is not there, there are not more
  few : (k : ℕ) (xs : List X) → nth_of test k xs ≡ None → count_by test xs ≤ k
  few k [] none = omega arith
  few zero (x ∷ xs) none = ⊎_elim
      (λ t. absurd (none-some zero (sym none ∙ cond-true (test x) (Some zero) (option_map suc (nth_of test zero xs)) t)))
      (λ f.
      let rest = few zero xs (none_later (nth_of test zero xs) (sym (cond-false (test x) (Some zero) (option_map suc (nth_of test zero xs)) f) ∙ none)) in
      let count = count-no test x xs f in omega (arith, count, rest))
      (cases_Bool (test x))
  few (suc k) (x ∷ xs) none = ⊎_elim
      (λ t. let rest = few k xs (sym (ap (λ b. nth_of test (if b then k else suc k) xs) t) ∙ later) in let count = count-yes test x xs t in omega (arith, count, rest))
      (λ f. let rest = few (suc k) xs (sym (ap (λ b. nth_of test (if b then k else suc k) xs) f) ∙ later) in let count = count-no test x xs f in omega (arith, count, rest))
      (cases_Bool (test x))
    where
      later : nth_of test (if test x then k else suc k) xs ≡ None
      later = none_later (nth_of test (if test x then k else suc k) xs) none

  -- if it is there, there are more
  many : (k : ℕ) (xs : List X) (n : ℕ) → nth_of test k xs ≡ Some n → k < count_by test xs
  many k [] n found = absurd (none-some n found)
  many zero (x ∷ xs) n found = ⊎_elim
      (λ t. let count = count-yes test x xs t in omega (arith, count))
      (λ f.
      let later = suc_some (nth_of test zero xs) n (sym (cond-false (test x) (Some zero) (option_map suc (nth_of test zero xs)) f) ∙ found) in
      let rest = many zero xs later.0 later.1 in
      let count = count-no test x xs f in omega (arith, count, rest))
      (cases_Bool (test x))
  many (suc k) (x ∷ xs) n found =
      let later = suc_some (nth_of test (if test x then k else suc k) xs) n found in
      ⊎_elim
      (λ t. let rest = many k xs later.0 (sym (ap (λ b. nth_of test (if b then k else suc k) xs) t) ∙ later.1) in let count = count-yes test x xs t in omega (arith, count, rest))
      (λ f. let rest = many (suc k) xs later.0 (sym (ap (λ b. nth_of test (if b then k else suc k) xs) f) ∙ later.1) in let count = count-no test x xs f in omega (arith, count, rest))
      (cases_Bool (test x))

module _ (name : Text) (k : ℕ) (db : Reading) where
  pub definitions-few : definition_meant name k db.items ≡ None → definitions name db ≤ k
  definitions-few none = few (λ (item : Item). defines name item.tree) k db.items none

  pub definitions-many : (n : ℕ) → definition_meant name k db.items ≡ Some n → definitions name db ≤ k → ⊥
  definitions-many n found low = let some = many (λ (item : Item). defines name item.tree) k db.items n found in omega (arith, low, some)

-- ---- the item

-- item n is a definition of the macro
pub record IsMeantDefinition (name : Text) (db : Reading) (n : ℕ) : Type 0 where
  pub definition : Definition
  pub trail : Text
  pub at : slice_get db.items n ≡ Some (item_at (DefinitionTree definition) trail)
  pub named : same definition.assignment.name name ≡ true

pub meant-definition : (name : Text) (k : ℕ) (db : Reading) (n : ℕ) → definition_meant name k db.items ≡ Some n → IsMeantDefinition name db n
meant-definition name k db n found =
    let it = nth_of-at (λ (item : Item). defines name item.tree) k db.items n found in
    let d = defining name it.0 it.2 in
    record { definition = d.0; trail = it.0.trail; at = it.1 ∙ ap Some d.1; named = d.2 }

pub definition-within : (name : Text) (k : ℕ) (db : Reading) (n : ℕ) → definition_meant name k db.items ≡ Some n → n < length db.items
definition-within name k db n found =
    let it = nth_of-at (λ (item : Item). defines name item.tree) k db.items n found in slice_get_within db.items n it.0 it.1

pub definition-number : (file name : Text) (k n : ℕ) → OfReading file (λ db. definition_meant name k db.items ≡ Some n) → IsDefinitionNumber file n
definition-number file name k n found db reads =
    let it = meant-definition name k db n (found db reads) in (it.definition, (it.trail, it.at))
