-- What a change of one entry among several with its key keeps.
use Rattle.edit_spec.proofs.Words.{◌≡◌, ◌≢◌, ◌==◌, ◌<◌, ◌≤◌, ℕ, zero, suc, true, false, not, List, ◌∷◌, ◌++◌, Option, Some, None, unwrap_or, option_map, option_and_then, slice_get, insert, length, take, ⊎_elim, refl, sym, ◌∙◌, ap, ap₂, subst, arith, option_map_or, list_any, suc-le-suc, cases_Bool, cond-true, cond-false, cond_some}
use Rattle.edit_spec.proofs.Words.{false_from_ne_true, false≢true, both_ways, and_parts, and_from, or_parts, not-true, none-some, same_Some, Text, folded, same, is_new_key, Entry, Tree, CommentTree, DefinitionTree, PreambleTree, EntryTree, Item, Reading, is_empty, field_text, Macros, months, macros_after, gathered, EntryTexts, texts_of, entry_in, preamble_in}
use Rattle.edit_spec.proofs.Words.{entries_of, keys_of, crossref, crossref_text, first_named, is_named, entry_named, target_of, parent, expanded, listed, unknown, dangling_texts, KeyInUse, Referred, is_entry, with_keys, key_for, number_with_one_more, IsFirst, first_is, none_at, option_cases, same_comm, dangling_among, keys_with, key_before, same-true, true-same}
use Rattle.std.proofs.Common.{[], ◌||◌, if◌then◌else◌, eqb-true, ne_eqb, zero-le}
use Rattle.std.specs.Prelude.{nat_lt}
use Rattle.std.proofs.lemmas.Bool.{ltb-true, ltb-false, eqb-false}
use Rattle.bib_spec.proofs.Places.{none_is, suc_some}
use Rattle.edit_spec.specs.Edits.{RenamesFields, SetsType, RenamesKey, Removes, ChangeEntry, nth_of, entry_meant, without_item, with_entry_at, entry_changed, change_entry, entry_with_type, entry_renamed}
use Rattle.edit_spec.specs.Laws.{KeepsEntries, KeepsMacros, KeepsCitations, KeepsCitationsByKey, KeepsAllButTypes, KeepsAllButNames, type_for}
use Rattle.edit_spec.specs.OtherLaws.{is_meant, KeepsOthers}
use Rattle.edit_spec.specs.OneLaws.{later_entries_are_no_targets, rename_one_key_keeps, set_one_type_keeps, rename_fields_of_one_keeps, remove_one_keeps_others}
use Rattle.edit_spec.proofs.Unrefuted.{given_keys-are, crossref-is_left}
use Rattle.edit_spec.proofs.Rekeyed.{CanRekey}
use Rattle.edit_spec.proofs.CitedLists.{rekeying_keeps}
use Rattle.edit_spec.proofs.RenameKey.{field_text-key, new_key_parts}
use Rattle.edit_spec.proofs.KeptEntries.{parent-kept, listed-kept, unknown-kept}
use Rattle.edit_spec.proofs.SetType.{typed, typed-one, expanded-kept}
use Rattle.edit_spec.proofs.RenameField as names
use Rattle.edit_spec.proofs.OneMore.{length-keys, slice_get-insert, slice_get-insert_same, keys-insert, first_named-insert, first_named-early, IsCounted, more_other}
use Rattle.edit_spec.proofs.OtherEntries.{IsOneMore, keeps_counted, parent-named}
use Rattle.edit_spec.proofs.MeantMembers.{nth_of-at, accepted-is}
use Rattle.edit_spec.proofs.MeantEntries.{changed_at, entries-at, preambles-at, macros-at, entry-at, keys-at, length-at}

-- ---- a later entry is no target

-- two texts that name one key name the same keys
names_too : (a b key other : Text) → is_named a key ≡ true → is_named b key ≡ true → is_named b other ≡ true → is_named a other ≡ true
names_too a b key other x y z =
    let one = and_parts (not (is_empty key)) (same key a) x in
    let two = and_parts (not (is_empty key)) (same key b) y in
    let three = and_parts (not (is_empty other)) (same other b) z in
    and_from (not (is_empty other)) (same other a) three.0 (true-same other a (same-true other b three.1 ∙ sym (same-true key b two.1) ∙ same-true key a one.1))

first_is_not_later : (text name : Text) (k : ℕ) (keys : List Text) (m : ℕ) → first_named text keys ≡ Some m → nth_of (is_named name) (suc k) keys ≡ Some m → ⊥
first_is_not_later text name k [] m e h = none-some m e
first_is_not_later text name k (key ∷ keys) m e h =
    let later = suc_some (nth_of (is_named name) (if is_named name key then k else suc k) keys) m h in
    ⊎_elim
    (λ t. let at : zero ≡ m = same_Some zero m (sym (cond-true (is_named text key) (Some zero) (option_map suc (first_named text keys)) t) ∙ e) in
    let past = later.2 in absurd (omega (arith, at, past)))
    (λ f.
    let rest = suc_some (first_named text keys) m (sym (cond-false (is_named text key) (Some zero) (option_map suc (first_named text keys)) f) ∙ e) in
    let one = rest.2 in
    let two = later.2 in
    let is : rest.0 ≡ later.0 = omega (arith, one, two) in
    let found : first_named text keys ≡ Some later.0 = rest.1 ∙ ap Some is in
    ⊎_elim
    (λ t.
    let it = nth_of-at (is_named name) k keys later.0 (sym (ap (λ b. nth_of (is_named name) (if b then k else suc k) keys) t) ∙ later.1) in
    let first : IsFirst text keys later.0 = first_is text keys later.0 found in
    let same_key : first.key ≡ it.0 = same_Some first.key it.0 (sym first.stands ∙ it.1) in
    both_ways (is_named text key) f (names_too text name it.0 key (ap (is_named text) (sym same_key) ∙ first.named) it.2 t))
    (λ g. first_is_not_later text name k keys later.0 found (sym (ap (λ b. nth_of (is_named name) (if b then k else suc k) keys) g) ∙ later.1))
    (cases_Bool (is_named name key)))
    (cases_Bool (is_named text key))

pub later-are-no-targets : later_entries_are_no_targets
later-are-no-targets entries name k m meant n targets = by_entry (slice_get entries n) targets
  where
    by_text : (o : Option Text) → option_and_then (entry_named entries) o ≡ Some m → ⊥
    by_text None e = none-some m e
    by_text (Some text) e = first_is_not_later text name k (keys_of entries) m e meant

    by_entry : (o : Option EntryTexts) → option_and_then (target_of entries) o ≡ Some m → ⊥
    by_entry None e = none-some m e
    by_entry (Some entry) e = by_text (crossref_text entry) e

-- ---- a new key

module _ (to : Text) (entries : List EntryTexts) (is_key : is_new_key to ≡ true) (unused : list_any (same to) (keys_of entries) ≡ false)
    (undangled : list_any (same to) (dangling_texts entries) ≡ false) (o : Option ℕ)
  where
    gets : (o : Option ℕ) (n : ℕ) (key : Text) → key_for o to n ≡ Some key → (o ≡ Some n) × (to ≡ key)
    gets None n key e = absurd (none-some key e)
    gets (Some m) n key e = let at = cond_some (m == n) to key e in (ap Some (eqb-true m n at.0), at.1)

    -- every other entry keeps its key
    others_keep : (n m : ℕ) → o ≡ Some n → m ≢ n → key_for o to m ≡ None
    others_keep n m e ne = ap (λ o. key_for o to m) e ∙ cond-false (n == m) (Some to) None (ne_eqb n m (λ is. ne (sym is)))

    apart : (n m : ℕ) (key other : Text) → key_for o to n ≡ Some key → m ≢ n → slice_get (keys_with (key_for o to) 0 (keys_of entries)) m ≡ Some other → same other key ≡ false
    apart n m key other e ne s =
        let at = gets o n key e in
        let was = key_before (key_for o to) (keys_of entries) m other s in
        let is : other ≡ was.0 = was.2 ∙ ap (λ o. unwrap_or o was.0) (others_keep n m at.0 ne) in
        ap₂ same is (sym at.1) ∙ same_comm was.0 to ∙ none_at (same to) (keys_of entries) unused m was.0 was.1

    can_rekey_one : CanRekey (key_for o to) entries
    can_rekey_one = record {
      fresh = record { nonempty = λ n key e. ap is_empty (sym (gets o n key e).1) ∙ (new_key_parts to is_key).0; apart = apart };
      unspaced = λ n key e. ap field_text (sym (gets o n key e).1) ∙ field_text-key to (new_key_parts to is_key).1 ∙ (gets o n key e).1;
      undangled = λ n key e j entry text s dangles says. ap (λ k. same k text) (sym (gets o n key e).1) ∙ dangling_among entries entries j entry text to s dangles says undangled;
    }

pub rename-one-key-keeps : rename_one_key_keeps
rename-one-key-keeps key_base db key to accepted =
    let it = accepted-is key_base db key (RenamesKey to) accepted in
    let new : ℕ → Option Text = key_for (entry_meant key (entries_of db)) to in
    let taken = list_any (same to) (keys_of (entries_of db)) in
    let awaited = list_any (same to) (dangling_texts (entries_of db)) in
    let free = or_parts taken awaited (false_from_ne_true (taken || awaited) (accepted KeyInUse)) in
    let is : change_entry key (RenamesKey to) db ≡ with_keys new db = ap (λ o. option_map_or (λ n. entry_changed key (RenamesKey to) n db) o db) it.found in
    subst (λ (after : Reading). KeepsEntries new db after × KeepsMacros db after × KeepsCitationsByKey db after) (sym is)
    (rekeying_keeps new db (can_rekey_one to (entries_of db) (and_parts (is_new_key to) true (given_keys-are key_base db (ChangeEntry key (RenamesKey to)) accepted)).0 free.0 free.1 (entry_meant key (entries_of db))))

-- ---- another type

module _ (kind_name : Text) (db : Reading) (name : Text) (p : ℕ) (item : Item) (at : slice_get db.items p ≡ Some item) (is_it : is_entry name item.tree ≡ true) where
  abbrev typed_change : Entry → Entry
  typed_change e = entry_with_type kind_name e

  abbrev typed_become : EntryTexts → EntryTexts
  typed_become entry = typed (Some kind_name) entry

  typed_texts : (m : Macros) (e : Entry) → texts_of m (typed_change e) ≡ typed_become (texts_of m e)
  typed_texts m e = refl

  abbrev number : ℕ
  number = length (gathered entry_in months (take p db.items))

  abbrev kinds : ℕ → Option Text
  kinds n = type_for (Some number) kind_name n

  abbrev after : List EntryTexts
  after = changed_at typed_change typed_become typed_texts number (entries_of db)

  abbrev new : Reading
  new = with_entry_at p typed_change db

  is : entries_of new ≡ after
  is = entries-at typed_change typed_become typed_texts name p months db.items item at is_it

  keys : keys_of after ≡ keys_of (entries_of db)
  keys = keys-at typed_change typed_become typed_texts (λ entry. refl) number (entries_of db)

  each : (n : ℕ) → slice_get after n ≡ option_map (typed (kinds n)) (slice_get (entries_of db) n)
  each n = entry-at typed_change typed_become typed_texts number (entries_of db) n ∙ typed-one kind_name (Some number) n (slice_get (entries_of db) n)

  one_typed : KeepsAllButTypes (type_for (Some number) kind_name) db new × KeepsMacros db new × KeepsCitations db new
  one_typed = (
    record {
      count = ap length is ∙ length-at typed_change typed_become typed_texts number (entries_of db);
      records = λ depth n. ap (λ s. expanded depth s n) is ∙ expanded-kept kinds (entries_of db) after keys each depth n;
      parents = λ n. ap (λ s. parent s n) is ∙ parent-kept (λ n. typed (kinds n)) (entries_of db) after keys each (λ n entry. refl) n;
      preambles = preambles-at typed_change typed_become typed_texts p months db.items;
    },
    (λ n name. ap (λ m. m (folded name)) (macros-at typed_change typed_become typed_texts p months db.items n)),
    record {
      cited = λ cited min. ap (λ s. listed s cited min) is
          ∙ listed-kept (λ n. typed (kinds n)) (entries_of db) after keys each (λ n entry. refl) (length-at typed_change typed_become typed_texts number (entries_of db)) cited min;
      unknowns = λ cited. ap (λ s. unknown s cited) is ∙ unknown-kept (λ n. typed (kinds n)) (entries_of db) after keys each (λ n entry. refl) cited;
    },
  )

pub set-one-type-keeps : set_one_type_keeps
set-one-type-keeps key_base db key kind_name accepted =
    let it = accepted-is key_base db key (SetsType kind_name) accepted in
    let is : change_entry key (SetsType kind_name) db ≡ with_entry_at it.n (entry_with_type kind_name) db = ap (λ o. option_map_or (λ n. entry_changed key (SetsType kind_name) n db) o db) it.found in
    let P : Option ℕ → Reading → Type 0 = λ o new. KeepsAllButTypes (type_for o kind_name) db new × KeepsMacros db new × KeepsCitations db new in
    subst (λ o. P o (change_entry key (SetsType kind_name) db)) (sym it.numbered)
    (subst (P (Some (length (gathered entry_in months (take it.n db.items))))) (sym is) (one_typed kind_name db key.name it.n it.item it.at it.is))

-- ---- fields with other names

module _ (from to : Text) (left : (same from crossref ≡ false) × (same to crossref ≡ false)) (db : Reading) (name : Text) (p : ℕ) (item : Item)
    (at : slice_get db.items p ≡ Some item) (is_it : is_entry name item.tree ≡ true)
  where
    abbrev its_number : ℕ
    its_number = length (gathered entry_in months (take p db.items))

    abbrev renamed_db : Reading
    renamed_db = with_entry_at p (entry_renamed from to) db

    renamed_entries : entries_of renamed_db ≡ changed_at (entry_renamed from to) (names.become from to) (names.texts from to) its_number (entries_of db)
    renamed_entries = entries-at (entry_renamed from to) (names.become from to) (names.texts from to) name p months db.items item at is_it

    one_renamed : KeepsAllButNames from to (is_meant (Some its_number)) db renamed_db × KeepsMacros db renamed_db × KeepsCitations db renamed_db
    one_renamed = names.all-kept from to left db renamed_db (is_meant (Some its_number))
        (λ n. ap (λ s. slice_get s n) renamed_entries ∙ entry-at (entry_renamed from to) (names.become from to) (names.texts from to) its_number (entries_of db) n)
        (ap keys_of renamed_entries ∙ keys-at (entry_renamed from to) (names.become from to) (names.texts from to) (λ entry. refl) its_number (entries_of db))
        (ap length renamed_entries ∙ length-at (entry_renamed from to) (names.become from to) (names.texts from to) its_number (entries_of db))
        (preambles-at (entry_renamed from to) (names.become from to) (names.texts from to) p months db.items)
        (macros-at (entry_renamed from to) (names.become from to) (names.texts from to) p months db.items)

pub rename-fields-of-one-keeps : rename_fields_of_one_keeps
rename-fields-of-one-keeps key_base db key from to accepted =
    let it = accepted-is key_base db key (RenamesFields from to) accepted in
    let both = and_parts (not (same from crossref)) (not (same to crossref)) (crossref-is_left key_base db (ChangeEntry key (RenamesFields from to)) accepted) in
    let is : change_entry key (RenamesFields from to) db ≡ with_entry_at it.n (entry_renamed from to) db = ap (λ o. option_map_or (λ n. entry_changed key (RenamesFields from to) n db) o db) it.found in
    let P : Option ℕ → Reading → Type 0 = λ o new. KeepsAllButNames from to (is_meant o) db new × KeepsMacros db new × KeepsCitations db new in
    subst (λ o. P o (change_entry key (RenamesFields from to) db)) (sym it.numbered)
    (subst (P (Some (length (gathered entry_in months (take it.n db.items))))) (sym is)
    (one_renamed from to (not-true (same from crossref) both.0, not-true (same to crossref) both.1) db key.name it.n it.item it.at it.is))

-- ---- an entry removed

module _ (name : Text) where
  abbrev IsOutAt : Macros → Text → List Item → ℕ → Type 0
  IsOutAt m front items p = (found : Text) × (is_named name found ≡ true) × IsOneMore (length (gathered entry_in m (take p items))) found (gathered entry_in m (without_item p front items).items) (gathered entry_in m items)

  abbrev item_of : Tree → Text → Item
  item_of tree trail = record { tree = tree; trail = trail }

  out_first : (m : Macros) (front : Text) (tree : Tree) (trail : Text) (items : List Item) → is_entry name tree ≡ true → IsOutAt m front (item_of tree trail ∷ items) zero
  out_first m front (EntryTree e) trail items h = (e.key, h, record { added = texts_of m e; has_key = refl; within = zero-le; is = refl })
  out_first m front (CommentTree c) trail items h = absurd (false≢true h)
  out_first m front (DefinitionTree d) trail items h = absurd (false≢true h)
  out_first m front (PreambleTree p) trail items h = absurd (false≢true h)

  out_later : (m : Macros) (front : Text) (tree : Tree) (trail : Text) (items : List Item) (p : ℕ) → ((m : Macros) → IsOutAt m trail items p) → IsOutAt m front (item_of tree trail ∷ items) (suc p)
  out_later m front (EntryTree e) trail items p rest =
      let after = rest m in
      (after.0, after.1, record { added = after.2.added; has_key = after.2.has_key; within = suc-le-suc after.2.within; is = ap (λ l. texts_of m e ∷ l) after.2.is })
  out_later m front (CommentTree c) trail items p rest = rest m
  out_later m front (DefinitionTree d) trail items p rest = rest (macros_after m (DefinitionTree d))
  out_later m front (PreambleTree t) trail items p rest = rest m

  out_at : (m : Macros) (p : ℕ) (front : Text) (items : List Item) (item : Item) → slice_get items p ≡ Some item → is_entry name item.tree ≡ true → IsOutAt m front items p
  out_at m p front [] item at e = absurd (none-some item at)
  out_at m zero front (first ∷ items) item at e = out_first m front first.tree first.trail items (ap (λ (i : Item). is_entry name i.tree) (same_Some first item at) ∙ e)
  out_at m (suc p) front (first ∷ items) item at e = out_later m front first.tree first.trail items p (λ m. out_at m p first.trail items item at e)

  preambles_first : (m : Macros) (tree : Tree) (items : List Item) → is_entry name tree ≡ true → gathered preamble_in m items ≡ preamble_in m tree ++ gathered preamble_in (macros_after m tree) items
  preambles_first m (EntryTree e) items h = refl
  preambles_first m (CommentTree c) items h = absurd (false≢true h)
  preambles_first m (DefinitionTree d) items h = absurd (false≢true h)
  preambles_first m (PreambleTree p) items h = absurd (false≢true h)

  preambles_out : (m : Macros) (p : ℕ) (front : Text) (items : List Item) (item : Item) → slice_get items p ≡ Some item → is_entry name item.tree ≡ true →
      gathered preamble_in m (without_item p front items).items ≡ gathered preamble_in m items
  preambles_out m p front [] item at e = absurd (none-some item at)
  preambles_out m zero front (first ∷ items) item at e = preambles_first m first.tree items (ap (λ (i : Item). is_entry name i.tree) (same_Some first item at) ∙ e)
  preambles_out m (suc p) front (first ∷ items) item at e = ap (λ l. preamble_in m first.tree ++ l) (preambles_out (macros_after m first.tree) p first.trail items item at e)

-- Each crossref that is left names the entry that it named: an earlier one, or one that has another key; the removed one is no parent.
counted_without : (i : ℕ) (found : Text) (fewer more : List EntryTexts) → IsOneMore i found fewer more → ((n : ℕ) → parent more n ≡ Some i → ⊥) → IsCounted i found fewer
counted_without i found fewer more one unreferred n entry text at says =
    let keys_are : keys_of more ≡ insert (keys_of fewer) i found = ap keys_of one.is ∙ keys-insert fewer i one.added ∙ ap (insert (keys_of fewer) i) one.has_key in
    let e = length-keys fewer in
    let w = one.within in
    let within : i ≤ length (keys_of fewer) = omega (arith, e, w) in
    let found_at : slice_get (keys_of more) i ≡ Some found = ap (λ l. slice_get l i) keys_are ∙ slice_get-insert_same (keys_of fewer) i found within in
    let entry_at : slice_get more (number_with_one_more i n) ≡ Some entry = ap (λ l. slice_get l (number_with_one_more i n)) one.is ∙ slice_get-insert fewer i one.added one.within n ∙ at in
    let unnamed : is_named text found ≡ false → first_named text (insert (keys_of fewer) i found) ≡ option_map (number_with_one_more i) (first_named text (keys_of fewer)) =
    first_named-insert i text found (keys_of fewer) within in
    ⊎_elim
    (λ none. unnamed (none_is text (keys_of more) none i found found_at))
    (λ some.
    let first : IsFirst text (keys_of more) some.0 = first_is text (keys_of more) some.0 some.1 in
    ⊎_elim
    (λ before. first_named-early i text found (keys_of fewer) some.0 within (sym (ap (first_named text) keys_are) ∙ some.1) (ltb-true some.0 i before))
    (λ not_before. ⊎_elim
    (λ is. absurd (unreferred (number_with_one_more i n)
    (parent-named more (number_with_one_more i n) entry text some.0 i entry_at says some.1 (eqb-true some.0 i is) (λ e. more_other i n (sym e)))))
    (λ is_not.
    let low = ltb-false some.0 i not_before in
    let other : some.0 ≢ i = eqb-false some.0 i is_not in
    unnamed (first.before i found (strictly some.0 i low other) found_at))
    (cases_Bool (some.0 == i)))
    (cases_Bool (nat_lt some.0 i)))
    (option_cases (first_named text (keys_of more)))
  where
    strictly : (m i : ℕ) → i ≤ m → m ≢ i → i < m
    strictly m i low other = ⊎_elim (λ t. ltb-true i m t) (λ f. let high = ltb-false i m f in absurd (other (omega (arith, low, high)))) (cases_Bool (nat_lt i m))

pub remove-one-keeps-others : remove_one_keeps_others
remove-one-keeps-others key_base db key accepted =
    let it = accepted-is key_base db key Removes accepted in
    let i : ℕ = length (gathered entry_in months (take it.n db.items)) in
    let new : Reading = without_item it.n db.front db.items in
    let out = out_at key.name months it.n db.front db.items it.item it.at it.is in
    let is : change_entry key Removes db ≡ new = ap (λ o. option_map_or (λ n. entry_changed key Removes n db) o db) it.found in (
      i,
      it.numbered,
      subst (λ (after : Reading). KeepsOthers (number_with_one_more i) 1 after db) (sym is)
          (keeps_counted i out.0 new db out.2 (counted_without i out.0 (entries_of new) (entries_of db) out.2 (λ n refers. accepted Referred (n, i, it.numbered, refers)))
          (sym (preambles_out key.name months it.n db.front db.items it.item it.at it.is))),
    )
