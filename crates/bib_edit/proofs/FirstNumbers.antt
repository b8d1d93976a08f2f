-- Whether an item is the first that a key names, told by the number of the entry that the key names.
use Rattle.bib_edit.proofs.Words.{◌≡◌, ℕ, Some, None, option_map, length, take, slice_get, sym, ◌∙◌, ap, none-some, same_Some, Text, Reading, months, gathered, entry_in, entries_of, keys_of, entry_named, is_entry, first_item, entry_numbers}
use Rattle.edit_spec.proofs.MeantMembers.{meant-number}
use Rattle.bib_edit.proofs.NamedEntries.{named-item}
use Rattle.bib_edit.proofs.MeantParents.{first-is-zeroth, named-is-zeroth}

module _ (name : Text) (db : Reading) (n : ℕ) where
  module _ (m k : ℕ) (named : entry_named (entries_of db) name ≡ Some m) (at : slice_get (entry_numbers db.items) m ≡ Some k) where
    pub first-here : k ≡ n → first_item (is_entry name) db.items ≡ Some n
    first-here is = named-item name db m k named at ∙ ap Some is

    pub first-elsewhere : (k ≡ n → ⊥) → first_item (is_entry name) db.items ≡ Some n → ⊥
    first-elsewhere other first = other (same_Some k n (sym (named-item name db m k named at) ∙ first))

  pub first-nowhere : entry_named (entries_of db) name ≡ None → first_item (is_entry name) db.items ≡ Some n → ⊥
  first-nowhere none first =
      let before : ℕ → ℕ = λ n. length (gathered entry_in months (take n db.items)) in
      none-some (before n) (sym none ∙ named-is-zeroth name (keys_of (entries_of db)) ∙ meant-number name 0 months db.items ∙ ap (option_map before) (sym (first-is-zeroth (is_entry name) db.items) ∙ first))
