-- Adding many entries: they stand after the last one, and no old entry's crossref names them.
use Rattle.edit_spec.proofs.Words.{◌≡◌, ℕ, zero, suc, ◌+◌, ◌<◌, ◌==◌, ◌||◌, false, cond, List, ◌∷◌, ◌++◌, Option, Some, None, option_map, option_and_then, slice_get, length, map, ⊎_elim, refl, sym, ◌∙◌, ap, subst, append_assoc, le_of_suc-le-suc, not-suc-le-zero, list_any, AllByRecursion}
use Rattle.edit_spec.proofs.Words.{option_map_or, cases_Bool, cond-true, cond-false, or_parts, false_from_ne_true, none-some, same_Some, Text, folded, same, Item, Macros, months, macros_after, gathered, EntryTexts, Record, RecordField, texts_of, entry_in, preamble_in, entries_of, crossref_text}
use Rattle.edit_spec.proofs.Words.{keys_of, first_named, entry_named, is_named, target_of, target, other_than, parent, own_fields, missing, unvisited, ancestors, ancestors_from, fields_at, with_inherited, record_of, expanded, NewEntry, KeyInUse, entry_of, item_of, add_many, is_awaited, none_at}
use Rattle.edit_spec.proofs.Words.{option_cases}
use Rattle.std.proofs.Common.{[], length-append}
use Rattle.std.proofs.lemmas.List.{map-append}
use Rattle.edit_spec.specs.Edits.{has_same}
use Rattle.edit_spec.specs.OtherLaws.{same_number, add_many_keeps_others}
use Rattle.bib_spec.proofs.Places.{none_from}
use Rattle.bib_spec.proofs.Parents.{parent_within}
use Rattle.edit_spec.proofs.OneMore.{length-keys}
use Rattle.edit_spec.proofs.OtherEntries.{unnamed_new}

pub slice_get-append : {X : Type 0} (xs ys : List X) (n : ℕ) → n < length xs → slice_get (xs ++ ys) n ≡ slice_get xs n
slice_get-append [] ys n h = absurd (not-suc-le-zero h)
slice_get-append (x ∷ xs) ys zero h = refl
slice_get-append (x ∷ xs) ys (suc n) h = slice_get-append xs ys n (le_of_suc-le-suc h)

first_named-append : (text : Text) (keys more : List Text) → ((j : ℕ) (key : Text) → slice_get more j ≡ Some key → is_named text key ≡ false) →
    first_named text (keys ++ more) ≡ first_named text keys
first_named-append text [] more h = none_from text more h
first_named-append text (key ∷ keys) more h = ap (λ r. cond (is_named text key) (Some zero) (option_map suc r)) (first_named-append text keys more h)

-- ---- the old entries

module _ (entries more : List EntryTexts)
    (unnamed : (n : ℕ) (entry : EntryTexts) (text : Text) → slice_get entries n ≡ Some entry → crossref_text entry ≡ Some text → (j : ℕ) (key : Text) → slice_get (keys_of more) j ≡ Some key → is_named text key ≡ false) where
  target_of_before : (n : ℕ) (entry : EntryTexts) → slice_get entries n ≡ Some entry → target_of (entries ++ more) entry ≡ target_of entries entry
  target_of_before n entry at = ⊎_elim
      (λ none. ap (option_and_then (entry_named (entries ++ more))) none ∙ sym (ap (option_and_then (entry_named entries)) none))
      (λ some. ap (option_and_then (entry_named (entries ++ more))) some.1
      ∙ ap (first_named some.0) (map-append (λ entry. entry.key) entries more)
      ∙ first_named-append some.0 (keys_of entries) (keys_of more) (unnamed n entry some.0 at some.1)
      ∙ sym (ap (option_and_then (entry_named entries)) some.1))
      (option_cases (crossref_text entry))

  target_before : (n : ℕ) → n < length entries → target (entries ++ more) n ≡ target entries n
  target_before n h = ap (option_and_then (target_of (entries ++ more))) (slice_get-append entries more n h) ∙ ⊎_elim
      (λ none. ap (option_and_then (target_of (entries ++ more))) none ∙ sym (ap (option_and_then (target_of entries)) none))
      (λ some. ap (option_and_then (target_of (entries ++ more))) some.1 ∙ target_of_before n some.0 some.1 ∙ sym (ap (option_and_then (target_of entries)) some.1))
      (option_cases (slice_get entries n))

  pub parent_before : (n : ℕ) → n < length entries → parent (entries ++ more) n ≡ parent entries n
  parent_before n h = ap (option_and_then (other_than n)) (target_before n h)

  unvisited_is : (visited : List ℕ) (m : ℕ) (o : Option ℕ) → option_and_then (unvisited visited) o ≡ Some m → o ≡ Some m
  unvisited_is visited m None e = absurd (none-some m e)
  unvisited_is visited m (Some p) e = ⊎_elim
      (λ t. absurd (none-some m (sym (cond-true (list_any (λ v. v == p) visited) None (Some p) t) ∙ e)))
      (λ t. sym (cond-false (list_any (λ v. v == p) visited) None (Some p) t) ∙ e)
      (cases_Bool (list_any (λ v. v == p) visited))

  ancestors_before : (depth : ℕ) (visited : List ℕ) (n : ℕ) → n < length entries →
      (ancestors_from (parent (entries ++ more)) depth visited n ≡ ancestors_from (parent entries) depth visited n)
      × AllByRecursion (λ m. m < length entries) (ancestors_from (parent entries) depth visited n)
  ancestors_before zero visited n h = (refl, tt)
  ancestors_before (suc depth) visited n h =
      let rest = λ (m : ℕ) (w : m < length entries). ancestors_before depth (m ∷ visited) m w in
      let F : Option ℕ → List ℕ = λ o. option_map_or (λ m. m ∷ ancestors_from (parent entries) depth (m ∷ visited) m) o [] in
      let G : Option ℕ → List ℕ = λ o. option_map_or (λ m. m ∷ ancestors_from (parent (entries ++ more)) depth (m ∷ visited) m) o [] in
      let W : List ℕ → Type 0 = λ ns. AllByRecursion (λ m. m < length entries) ns in
      let same_parent : option_and_then (unvisited visited) (parent (entries ++ more) n) ≡ option_and_then (unvisited visited) (parent entries n) = ap (option_and_then (unvisited visited)) (parent_before n h) in
      ⊎_elim
      (λ none. (ap G (same_parent ∙ none) ∙ sym (ap F none), subst W (sym (ap F none)) tt))
      (λ some.
      let w : some.0 < length entries = parent_within entries n some.0 (unvisited_is visited some.0 (parent entries n) some.1) in (
        ap G (same_parent ∙ some.1) ∙ ap (λ l. some.0 ∷ l) (rest some.0 w).0 ∙ sym (ap F some.1),
        subst W (sym (ap F some.1)) (w, (rest some.0 w).1),
      ))
      (option_cases (option_and_then (unvisited visited) (parent entries n)))

  inherited_before : (own : List RecordField) (ns : List ℕ) → AllByRecursion (λ m. m < length entries) ns → with_inherited (entries ++ more) own ns ≡ with_inherited entries own ns
  inherited_before own [] h = refl
  inherited_before own (n ∷ ns) h =
      ap (λ o. with_inherited (entries ++ more) (own ++ missing own (option_map_or own_fields o [])) ns) (slice_get-append entries more n h.0)
      ∙ inherited_before (own ++ missing own (fields_at entries n)) ns h.1

  pub expanded_before : (depth n : ℕ) → n < length entries → expanded depth (entries ++ more) n ≡ expanded depth entries n
  expanded_before depth n h = ap (option_map (record_of depth (entries ++ more) n)) (slice_get-append entries more n h) ∙ ⊎_elim
      (λ none. ap (option_map (record_of depth (entries ++ more) n)) none ∙ sym (ap (option_map (record_of depth entries n)) none))
      (λ some. ap (option_map (record_of depth (entries ++ more) n)) some.1
      ∙ ap (λ fields. let it : Record = record { kind_name = folded some.0.kind; key = some.0.key; fields = fields } in Some it)
      (ap (with_inherited (entries ++ more) (own_fields some.0)) (ancestors_before depth (n ∷ []) n h).0 ∙ inherited_before (own_fields some.0) (ancestors entries depth n) (ancestors_before depth (n ∷ []) n h).1)
      ∙ sym (ap (option_map (record_of depth entries n)) some.1))
      (option_cases (slice_get entries n))

-- ---- the new entries

-- the entries with others after the last item
appended : (m : Macros) (items : List Item) (news : List NewEntry) →
    (more : List EntryTexts) × (gathered entry_in m (items ++ map item_of news) ≡ gathered entry_in m items ++ more) × (keys_of more ≡ map (λ new. new.key) news)
appended m [] [] = ([], refl, refl)
appended m [] (new ∷ news) = let rest = appended m [] news in (texts_of m (entry_of new) ∷ rest.0, ap (λ l. texts_of m (entry_of new) ∷ l) rest.1, ap (λ l. new.key ∷ l) rest.2)
appended m (item ∷ items) news =
    let rest = appended (macros_after m item.tree) items news in
    (rest.0, ap (λ l. entry_in m item.tree ++ l) rest.1 ∙ sym (append_assoc (entry_in m item.tree) (gathered entry_in (macros_after m item.tree) items) rest.0), rest.2)

preambles_appended : (m : Macros) (items : List Item) (news : List NewEntry) → gathered preamble_in m (items ++ map item_of news) ≡ gathered preamble_in m items
preambles_appended m [] [] = refl
preambles_appended m [] (new ∷ news) = preambles_appended m [] news
preambles_appended m (item ∷ items) news = ap (λ l. preamble_in m item.tree ++ l) (preambles_appended (macros_after m item.tree) items news)

-- the key of a new entry
new_key_at : (news : List NewEntry) (j : ℕ) (key : Text) → slice_get (map (λ new. new.key) news) j ≡ Some key → (new : NewEntry) × (slice_get news j ≡ Some new) × (new.key ≡ key)
new_key_at [] j key e = absurd (none-some key e)
new_key_at (new ∷ news) zero key e = (new, refl, same_Some new.key key e)
new_key_at (new ∷ news) (suc j) key e = new_key_at news j key e

length-news : (news : List NewEntry) → length (map (λ new. new.key) news) ≡ length news
length-news [] = refl
length-news (new ∷ news) = ap suc (length-news news)

pub add_many-keeps_others : add_many_keeps_others
add_many-keeps_others key_base db news accepted unawaited = record {
  count = ap length all.1 ∙ length-append (entries_of db) all.0 ∙ ap (λ n. length (entries_of db) + n) (sym (length-keys all.0) ∙ ap length all.2 ∙ length-news news);
  records = λ depth n h. ap (λ s. expanded depth s n) all.1 ∙ expanded_before (entries_of db) all.0 unnamed depth n h;
  parents = λ n h. ap (λ s. parent s n) all.1 ∙ parent_before (entries_of db) all.0 unnamed n h ∙ same_option (parent (entries_of db) n);
  preambles = preambles_appended months db.items news;
}
  where
    same_option : (o : Option ℕ) → o ≡ option_map same_number o
    same_option None = refl
    same_option (Some n) = refl

    all : (more : List EntryTexts) × (entries_of (add_many news db) ≡ entries_of db ++ more) × (keys_of more ≡ map (λ new. new.key) news)
    all = appended months db.items news

    unused : list_any (λ new. list_any (same new.key) (keys_of (entries_of db))) news ≡ false
    unused = (or_parts (has_same (map (λ new. new.key) news)) (list_any (λ new. list_any (same new.key) (keys_of (entries_of db))) news)
        (false_from_ne_true (has_same (map (λ new. new.key) news) || list_any (λ new. list_any (same new.key) (keys_of (entries_of db))) news) (accepted KeyInUse))).1

    unnamed : (n : ℕ) (entry : EntryTexts) (text : Text) → slice_get (entries_of db) n ≡ Some entry → crossref_text entry ≡ Some text → (j : ℕ) (key : Text) → slice_get (keys_of all.0) j ≡ Some key → is_named text key ≡ false
    unnamed n entry text at says j key e =
        let stands : slice_get (map (λ new. new.key) news) j ≡ Some key = ap (λ l. slice_get l j) (sym all.2) ∙ e in
        let its = new_key_at news j key stands in
        unnamed_new key db
        (ap (λ k. list_any (same k) (keys_of (entries_of db))) (sym its.2) ∙ none_at (λ new. list_any (same new.key) (keys_of (entries_of db))) news unused j its.0 its.1)
        (none_at (is_awaited db) (map (λ new. new.key) news) unawaited j key stands) n entry text at says
