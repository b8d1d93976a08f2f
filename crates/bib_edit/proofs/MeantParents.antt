-- Whether the entry that is meant among several is a parent: the first may be, and a later one is not.
use Rattle.bib_edit.proofs.Words.{◌≡◌, ◌↔◌, ◌==◌, ℕ, zero, suc, Bool, false, IsTrue, List, [], ◌∷◌, Option, Some, None, option_map, option_and_then, length, take, refl, sym, ◌∙◌, ap, cases_Bool, cond-true, cond-false, ⊎_elim, false≢true, none-some, same_Some, Text, Tree, Item, Reading, months, gathered, entry_in, EntryTexts, entries_of, keys_of, first_named, entry_named}
use Rattle.bib_edit.proofs.Words.{is_named, target, other_than, parent, is_entry, first_item, IsParent}
use Rattle.std.proofs.Common.{if◌then◌else◌}
use Rattle.edit_spec.specs.Edits.{Which, nth_of, number_of, item_meant, entry_meant, IsParentMeant}
use Rattle.edit_spec.proofs.MeantMembers.{meant-number}
use Rattle.edit_spec.proofs.OneEntry.{later-are-no-targets}

pub first-is-zeroth : (test : Tree → Bool) (items : List Item) → first_item test items ≡ nth_of (λ item. test item.tree) 0 items
first-is-zeroth test [] = refl
first-is-zeroth test (item ∷ items) = ap (λ o. if test item.tree then Some 0 else option_map suc o) (first-is-zeroth test items)

pub named-is-zeroth : (text : Text) (keys : List Text) → first_named text keys ≡ nth_of (is_named text) 0 keys
named-is-zeroth text [] = refl
named-is-zeroth text (key ∷ keys) = ap (λ o. if is_named text key then Some 0 else option_map suc o) (named-is-zeroth text keys)

-- how many entries come before an item
abbrev pub entries_to : Reading → ℕ → ℕ
entries_to db n = length (gathered entry_in months (take n db.items))

-- the number among the entries of the first that the key names
pub first-number : (name : Text) (db : Reading) (n m : ℕ) → first_item (is_entry name) db.items ≡ Some n → entry_named (entries_of db) name ≡ Some m → m ≡ entries_to db n
first-number name db n m first named = same_Some m (entries_to db n)
    (sym named ∙ named-is-zeroth name (keys_of (entries_of db)) ∙ meant-number name 0 months db.items
    ∙ ap (option_map (entries_to db)) (sym (first-is-zeroth (is_entry name) db.items) ∙ first))

parent-target : (entries : List EntryTexts) (n m : ℕ) → parent entries n ≡ Some m → target entries n ≡ Some m
parent-target entries n m e = of_target (target entries n) e
  where
    of_target : (o : Option ℕ) → option_and_then (other_than n) o ≡ Some m → o ≡ Some m
    of_target None e = e
    of_target (Some t) e = ⊎_elim
        (λ is. absurd (none-some m (sym (cond-true (t == n) None (Some t) is) ∙ e)))
        (λ other. sym (cond-false (t == n) None (Some t) other) ∙ e)
        (cases_Bool (t == n))

-- the first entry with its key
pub first-parent : (key : Which) (db : Reading) (n m : ℕ) (b : Bool) → first_item (is_entry key.name) db.items ≡ Some n → entry_named (entries_of db) key.name ≡ Some m →
    entry_meant key (entries_of db) ≡ Some (entries_to db n) → (IsTrue b ↔ IsParent (entries_of db) m) → IsTrue b ↔ IsParentMeant key (entries_of db)
first-parent key db n m b first named meant is =
    let here : entry_meant key (entries_of db) ≡ Some m = meant ∙ ap Some (sym (first-number key.name db n m first named)) in (
      λ t. let found = is.0 t in (found.0, m, here, found.1),
      λ refers. is.1 (refers.0, refers.3 ∙ ap Some (same_Some refers.1 m (sym refers.2 ∙ here))),
    )

-- no crossref names a later one
pub later-no_target : (key : Which) (db : Reading) (n : ℕ) → item_meant key db.items ≡ Some n → (first_item (is_entry key.name) db.items ≡ Some n → ⊥) →
    (m : ℕ) → entry_meant key (entries_of db) ≡ Some m → (j : ℕ) → target (entries_of db) j ≡ Some m → ⊥
later-no_target key db n found later m meant j named = by_number (number_of key) refl
  where
    by_number : (k : ℕ) → number_of key ≡ k → ⊥
    by_number zero is = later (first-is-zeroth (is_entry key.name) db.items ∙ ap (λ k. nth_of (λ (item : Item). is_entry key.name item.tree) k db.items) (sym is) ∙ found)
    by_number (suc k) is = later-are-no-targets (entries_of db) key.name k m (ap (λ k. nth_of (is_named key.name) k (keys_of (entries_of db))) (sym is) ∙ meant) j named

pub later-no_parent : (key : Which) (db : Reading) (n : ℕ) → item_meant key db.items ≡ Some n → (first_item (is_entry key.name) db.items ≡ Some n → ⊥) → IsTrue false ↔ IsParentMeant key (entries_of db)
later-no_parent key db n found later = (
  λ t. absurd (false≢true t),
  λ refers. absurd (later-no_target key db n found later refers.1 refers.2 refers.0 (parent-target (entries_of db) refers.0 refers.1 refers.3)),
)
