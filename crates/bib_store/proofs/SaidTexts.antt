-- What an entry says, and which of its texts is too long, by its rows.
use Rattle.bib_store.proofs.Words.{◌≡◌, ℕ, true, List, [], ◌∷◌, ◌++◌, length, map, Option, Some, None, sym, ◌∙◌, ap, subst, append_assoc, name_limit, Text, Tree, EntryTree, Entry, IsTree, opening_bytes, Macros, entry_in, crossref_text, View, view_of, fields_of, ItemFault}
use Rattle.bib_store.proofs.Words.{TooLong, is_entry_tree, first_too_long, placed_texts, row_texts, crossref_in, OfRows}
use Rattle.std.specs.Prelude.{Result, Ok, Err, IfErr}
use Rattle.bib_spec.specs.Reading as reading
use Rattle.bib_scan.specs.View.{Field}
use Rattle.bib_store.proofs.EntryItems.{entry_tree}

pub entry_says : (m : Macros) (v : View) (text : Option Text) → OfRows v.fields (λ before rows. text ≡ crossref_in m rows) → (i : reading.Item) → IsTree name_limit i.tree → is_entry_tree i.tree ≡ true → v ≡ view_of i
    → map crossref_text (entry_in m i.tree) ≡ text ∷ []
entry_says m v text says i is entry seen = there i.tree (entry_tree i.tree entry) is (ap (λ (w : View). w.fields) seen)
  where
    there : (t : Tree) → (e : Entry) × (t ≡ EntryTree e) → IsTree name_limit t → v.fields ≡ fields_of t → map crossref_text (entry_in m t) ≡ text ∷ []
    there t (e, e_is) is_tree fields =
        ap (λ (x : Tree). map crossref_text (entry_in m x)) e_is
        ∙ ap (λ (o : Option Text). o ∷ []) (sym (says (opening_bytes e.opening ++ e.key ++ e.space_after_key) e.rows (subst (IsTree name_limit) e_is is_tree).rows (fields ∙ ap fields_of e_is)))

entry_texts : (m : Macros) (v : View) (o : Option ℕ) → OfRows v.fields (λ before rows. first_too_long (row_texts (length before) m rows) ≡ o) → (i : reading.Item) → IsTree name_limit i.tree → is_entry_tree i.tree ≡ true → v ≡ view_of i
    → first_too_long (placed_texts m i.tree) ≡ o
entry_texts m v o says i is entry seen = there i.tree (entry_tree i.tree entry) is (ap (λ (w : View). w.fields) seen)
  where
    there : (t : Tree) → (e : Entry) × (t ≡ EntryTree e) → IsTree name_limit t → v.fields ≡ fields_of t → first_too_long (placed_texts m t) ≡ o
    there t (e, e_is) is_tree fields =
        ap (λ (x : Tree). first_too_long (placed_texts m x)) e_is
        ∙ ap (λ (k : ℕ). first_too_long (row_texts k m e.rows)) (ap (λ (t : Text). length t) (sym (append_assoc (opening_bytes e.opening) e.key e.space_after_key)))
        ∙ says (opening_bytes e.opening ++ e.key ++ e.space_after_key) e.rows (subst (IsTree name_limit) e_is is_tree).rows (fields ∙ ap fields_of e_is)

pub entry_fits : (m : Macros) (v : View) → OfRows v.fields (λ before rows. first_too_long (row_texts (length before) m rows) ≡ None) → (i : reading.Item) → IsTree name_limit i.tree → is_entry_tree i.tree ≡ true → v ≡ view_of i
    → first_too_long (placed_texts m i.tree) ≡ None
entry_fits m v says i is entry seen = entry_texts m v None says i is entry seen

pub entry_exceeds : (m : Macros) (v : View) (fields : List Field) (r : Result (Option Text) ItemFault) → fields ≡ v.fields
    → IfErr r (λ fault. (n : ℕ) → fault ≡ TooLong n → OfRows fields (λ before rows. first_too_long (row_texts (length before) m rows) ≡ Some n))
    → IfErr r (λ fault. (n : ℕ) → fault ≡ TooLong n → (i : reading.Item) → IsTree name_limit i.tree → is_entry_tree i.tree ≡ true → v ≡ view_of i → first_too_long (placed_texts m i.tree) ≡ Some n)
entry_exceeds m v fields (Ok text) same long = tt
entry_exceeds m v fields (Err fault) same long = λ n is i tree entry seen. entry_texts m v (Some n) (λ before rows are e. long n is before rows are (same ∙ e)) i tree entry seen
