-- New keys make no raw text too long.
use Rattle.bib_edit.proofs.Words.{◌≡◌, ℕ, ◌≤◌, Bool, false, List, [], ◌∷◌, Option, Some, None, is_some, length, map, option_and_then, ⊎_elim, refl, sym, ◌∙◌, ap, arith, append-nil, list_any, cases_Bool, cond-true, cond-false, or_parts, or_from, le-ltb, none-some, name_limit, Text, same, Row, Tree}
use Rattle.bib_edit.proofs.Words.{CommentTree, DefinitionTree, PreambleTree, EntryTree, Item, Reading, Macros, months, raw_text, raw_limit, macros_after, raw_texts_in, too_long_at, EntryTexts, entries_of, crossref, target, in_braces, row_to, with_value, with_crossref, next_number, tree_with_keys}
use Rattle.bib_edit.proofs.Words.{items_with_keys, with_keys}
use Rattle.bib_edit.proofs.LongTexts.{is_long, any_long, too_long-any}

-- each key that is there is short
abbrev pub AreShort : (ℕ → Option Text) → Type 0
AreShort new = (n : ℕ) (key : Text) → new n ≡ Some key → length key ≤ name_limit

module _ (m : Macros) where
  abbrev rows_long : List Row → Bool
  rows_long rows = list_any is_long (map (raw_text m) (map (λ row. row.assignment.value) rows))

  key_short : (key : Text) → length key ≤ name_limit → is_long (raw_text m (in_braces key)) ≡ false
  key_short key short = ap is_long (append-nil key) ∙ le-ltb raw_limit (length key) (omega (arith, short))

  valued_short : (key : Text) → length key ≤ name_limit → (rows : List Row) → rows_long rows ≡ false → rows_long (with_value crossref (in_braces key) rows) ≡ false
  valued_short key s [] short = refl
  valued_short key s (row ∷ rows) short =
      let both = or_parts (is_long (raw_text m row.assignment.value)) (rows_long rows) short in
      ⊎_elim
      (λ t. ap rows_long (cond-true (same row.assignment.name crossref) (row_to (in_braces key) row ∷ rows) (row ∷ with_value crossref (in_braces key) rows) t)
      ∙ or_from (is_long (raw_text m (in_braces key))) (rows_long rows) (key_short key s) both.1)
      (λ t. ap rows_long (cond-false (same row.assignment.name crossref) (row_to (in_braces key) row ∷ rows) (row ∷ with_value crossref (in_braces key) rows) t)
      ∙ or_from (is_long (raw_text m row.assignment.value)) (rows_long (with_value crossref (in_braces key) rows)) both.0 (valued_short key s rows both.1))
      (cases_Bool (same row.assignment.name crossref))

  crossref_short : (o : Option Text) → ((key : Text) → o ≡ Some key → length key ≤ name_limit) → (rows : List Row) → rows_long rows ≡ false → rows_long (with_crossref o rows) ≡ false
  crossref_short None s rows short = short
  crossref_short (Some key) s rows short = valued_short key (s key refl) rows short

module _ (new : ℕ → Option Text) (are_short : AreShort new) (entries : List EntryTexts) where
  target_short : (t : Option ℕ) (key : Text) → option_and_then new t ≡ Some key → length key ≤ name_limit
  target_short None key e = absurd (none-some key e)
  target_short (Some n) key e = are_short n key e

  tree_short : (m : Macros) (n : ℕ) (tree : Tree) → list_any is_long (raw_texts_in m tree) ≡ false → list_any is_long (raw_texts_in m (tree_with_keys new entries n tree)) ≡ false
  tree_short m n (CommentTree h) short = short
  tree_short m n (DefinitionTree d) short = short
  tree_short m n (PreambleTree p) short = short
  tree_short m n (EntryTree e) short = crossref_short m (option_and_then new (target entries n)) (target_short (target entries n)) e.rows short

  macros_kept : (m : Macros) (n : ℕ) (tree : Tree) → macros_after m (tree_with_keys new entries n tree) ≡ macros_after m tree
  macros_kept m n (CommentTree h) = refl
  macros_kept m n (PreambleTree p) = refl
  macros_kept m n (DefinitionTree d) = refl
  macros_kept m n (EntryTree e) = refl

  items_short : (m : Macros) (n : ℕ) (items : List Item) → any_long m items ≡ false → any_long m (items_with_keys new entries n items) ≡ false
  items_short m n [] short = refl
  items_short m n (item ∷ items) short =
      let both = or_parts (list_any is_long (raw_texts_in m item.tree)) (any_long (macros_after m item.tree) items) short in
      or_from (list_any is_long (raw_texts_in m (tree_with_keys new entries n item.tree))) (any_long (macros_after m (tree_with_keys new entries n item.tree)) (items_with_keys new entries (next_number n item.tree) items))
      (tree_short m n item.tree both.0)
      (ap (λ (after : Macros). any_long after (items_with_keys new entries (next_number n item.tree) items)) (macros_kept m n item.tree)
      ∙ items_short (macros_after m item.tree) (next_number n item.tree) items both.1)

pub too_long-rekeyed : (new : ℕ → Option Text) (db : Reading) → AreShort new → too_long_at db ≡ None → is_some (too_long_at (with_keys new db)) ≡ false
too_long-rekeyed new db are_short short =
    too_long-any (with_keys new db) ∙ items_short new are_short (entries_of db) months 0 db.items (sym (too_long-any db) ∙ ap is_some short)
