-- Removing an entry and adding one: the two databases have the same entries except for that one.
use Rattle.edit_spec.proofs.Words.{◌≡◌, ◌≢◌, ℕ, zero, suc, ◌≤◌, ◌==◌, true, false, not, List, ◌∷◌, ◌++◌, Some, None, option_map, option_and_then, slice_get, insert, length, take, ⊎_elim, refl, sym, ◌∙◌, ap, subst, arith, add-one, suc-le-suc, not-suc-le-zero, le_of_suc-le-suc, list_any, cases_Bool}
use Rattle.edit_spec.proofs.Words.{cond-true, cond-false, both_ways, and_parts, and_from, or_parts, false_from_ne_true, none-some, same_Some, Text, folded, same, Tree, Entry, CommentTree, DefinitionTree, PreambleTree, EntryTree, Item, Reading, Macros, months, raw_text, macros_after, is_empty}
use Rattle.edit_spec.proofs.Words.{gathered, EntryTexts, texts_of, entry_in, preamble_in, entries_of, preambles_of, crossref_text, keys_of, first_named, entry_named, is_named, target_of, other_than, parent, expanded, NotFound, Ambiguous, KeyInUse, Referred, BadPosition, holders, without_first}
use Rattle.edit_spec.proofs.Words.{is_entry, remove_entry, add_entry, item_of, entry_of, number_with_one_more, entries_before, is_awaited, same-true, true-same, IsFirst, first_is, none_at, option_cases, there_once, dangling_among}
use Rattle.std.proofs.Common.{[], zero-le, ne_eqb}
use Rattle.std.proofs.lemmas.Bool.{and_right}
use Rattle.edit_spec.specs.OtherLaws.{KeepsOthers, remove_entry_keeps_others, add_entry_keeps_others}
use Rattle.bib_spec.proofs.Places.{none_is, suc_some}
use Rattle.edit_spec.proofs.RenameKey.{only}
use Rattle.edit_spec.proofs.OneMore.{length-keys, slice_get-insert, slice_get-insert_same, length-insert, keys-insert, first_named-insert, IsCounted, more_other, parent_more, expanded_more}

-- the entries of `more` are the entries of `fewer` with one more put in at i
pub record IsOneMore (i : ℕ) (key : Text) (fewer more : List EntryTexts) : Type 0 where
  pub added : EntryTexts
  pub has_key : added.key ≡ key
  pub within : i ≤ length fewer
  pub is : more ≡ insert fewer i added

-- ---- an entry removed

module _ (key : Text) where
  abbrev IsRemovedAt : Macros → Text → List Item → ℕ → Type 0
  IsRemovedAt m front items i =
      (found : Text) × (is_named key found ≡ true) × IsOneMore i found (gathered entry_in m (without_first (is_entry key) front items).items) (gathered entry_in m items)

  abbrev item_at : Tree → Text → Item
  item_at tree trail = record { tree = tree; trail = trail }

  abbrev kept : Entry → Text → Text → List Item → Reading
  kept e front trail items =
      let rest = without_first (is_entry key) trail items in
      record { front = front; items = item_at (EntryTree e) rest.front ∷ rest.items }

  abbrev without : Text → Text → List Item → Reading
  without front trail items = record { front = front ++ trail; items = items }

  moved_to : {found : Text} {a b : ℕ} {xs ys more : List EntryTexts} → a ≡ b → xs ≡ ys → IsOneMore a found xs more → IsOneMore b found ys more
  moved_to {found} {a} {b} {xs} {ys} {more} p q h =
      subst (λ (n : ℕ). IsOneMore n found ys more) p (subst (λ (l : List EntryTexts). IsOneMore a found l more) q h)

  removed_after : (m : Macros) (front : Text) (tree : Tree) (trail : Text) (items : List Item) →
      ((i : ℕ) → first_named key (keys_of (gathered entry_in (macros_after m tree) items)) ≡ Some i → IsRemovedAt (macros_after m tree) trail items i) →
      (i : ℕ) → first_named key (keys_of (gathered entry_in m (item_at tree trail ∷ items))) ≡ Some i → IsRemovedAt m front (item_at tree trail ∷ items) i
  removed_after m front (CommentTree h) trail items rest i e = rest i e
  removed_after m front (DefinitionTree d) trail items rest i e = rest i e
  removed_after m front (PreambleTree p) trail items rest i e = rest i e
  removed_after m front (EntryTree entry) trail items rest i e = ⊎_elim
      (λ t.
      let at : zero ≡ i = same_Some zero i (sym (cond-true (is_named key entry.key) (Some zero) (option_map suc (first_named key (keys_of (gathered entry_in m items)))) t) ∙ e) in
      let it : IsOneMore zero entry.key (gathered entry_in m items) (gathered entry_in m (item_at (EntryTree entry) trail ∷ items)) =
      record { added = texts_of m entry; has_key = refl; within = zero-le; is = refl } in (
        entry.key,
        t,
        moved_to at (sym (ap (λ (db : Reading). gathered entry_in m db.items) (cond-true (is_named key entry.key) (without front trail items) (kept entry front trail items) t))) it,
      ))
      (λ t.
      let later = suc_some (first_named key (keys_of (gathered entry_in m items))) i (sym (cond-false (is_named key entry.key) (Some zero) (option_map suc (first_named key (keys_of (gathered entry_in m items)))) t) ∙ e) in
      let after = rest later.0 later.1 in
      let it : IsOneMore (suc later.0) after.0 (gathered entry_in m (kept entry front trail items).items) (gathered entry_in m (item_at (EntryTree entry) trail ∷ items)) = record {
        added = after.2.added;
        has_key = after.2.has_key;
        within = suc-le-suc after.2.within;
        is = ap (λ l. texts_of m entry ∷ l) after.2.is;
      } in (
        after.0,
        after.1,
        moved_to later.2 (sym (ap (λ (db : Reading). gathered entry_in m db.items) (cond-false (is_named key entry.key) (without front trail items) (kept entry front trail items) t))) it,
      ))
      (cases_Bool (is_named key entry.key))

  removed : (m : Macros) (front : Text) (items : List Item) (i : ℕ) → first_named key (keys_of (gathered entry_in m items)) ≡ Some i → IsRemovedAt m front items i
  removed m front [] i e = absurd (none-some i e)
  removed m front (item ∷ items) i e = removed_after m front item.tree item.trail items (removed (macros_after m item.tree) item.trail items) i e

  preambles_after : (m : Macros) (front : Text) (tree : Tree) (trail : Text) (items : List Item) →
      gathered preamble_in (macros_after m tree) (without_first (is_entry key) trail items).items ≡ gathered preamble_in (macros_after m tree) items →
      gathered preamble_in m (without_first (is_entry key) front (item_at tree trail ∷ items)).items ≡ gathered preamble_in m (item_at tree trail ∷ items)
  preambles_after m front (CommentTree h) trail items rest = rest
  preambles_after m front (DefinitionTree d) trail items rest = rest
  preambles_after m front (PreambleTree p) trail items rest = ap (λ l. raw_text m p.value ∷ l) rest
  preambles_after m front (EntryTree e) trail items rest = ⊎_elim
      (λ t. ap (λ (db : Reading). gathered preamble_in m db.items) (cond-true (is_named key e.key) (without front trail items) (kept e front trail items) t))
      (λ t. ap (λ (db : Reading). gathered preamble_in m db.items) (cond-false (is_named key e.key) (without front trail items) (kept e front trail items) t) ∙ rest)
      (cases_Bool (is_named key e.key))

  preambles_removed : (m : Macros) (front : Text) (items : List Item) → gathered preamble_in m (without_first (is_entry key) front items).items ≡ gathered preamble_in m items
  preambles_removed m front [] = refl
  preambles_removed m front (item ∷ items) = preambles_after m front item.tree item.trail items (preambles_removed (macros_after m item.tree) item.trail items)

-- ---- the others

-- no entry's crossref names the key
abbrev pub IsUnnamed : Text → List EntryTexts → Type 0
IsUnnamed key entries = (n : ℕ) (entry : EntryTexts) (text : Text) → slice_get entries n ≡ Some entry → crossref_text entry ≡ Some text → is_named text key ≡ false

-- if each crossref names the entry that it named, the other entries keep their records and parents
pub keeps_counted : (i : ℕ) (key : Text) (fewer more : Reading) → IsOneMore i key (entries_of fewer) (entries_of more) → IsCounted i key (entries_of fewer) →
    preambles_of more ≡ preambles_of fewer → KeepsOthers (number_with_one_more i) 1 fewer more
keeps_counted i key fewer more one counted same_preambles = record {
  count = ap length one.is ∙ length-insert (entries_of fewer) i one.added ∙ sym (add-one (length (entries_of fewer)));
  records = λ depth n _. ap (λ l. expanded depth l (number_with_one_more i n)) one.is ∙ expanded_more i one.added (entries_of fewer) one.within counted' depth n;
  parents = λ n _. ap (λ l. parent l (number_with_one_more i n)) one.is ∙ parent_more i one.added (entries_of fewer) one.within counted' n;
  preambles = same_preambles;
}
  where
    counted' : IsCounted i one.added.key (entries_of fewer)
    counted' = subst (λ (k : Text). IsCounted i k (entries_of fewer)) (sym one.has_key) counted

-- and so if no crossref names the added entry's key
keeps_others : (i : ℕ) (key : Text) (fewer more : Reading) → IsOneMore i key (entries_of fewer) (entries_of more) → IsUnnamed key (entries_of fewer) →
    preambles_of more ≡ preambles_of fewer → KeepsOthers (number_with_one_more i) 1 fewer more
keeps_others i key fewer more one unnamed same_preambles = keeps_counted i key fewer more one
    (λ n entry text at says.
    let e = length-keys (entries_of fewer) in
    let w = one.within in
    first_named-insert i text key (keys_of (entries_of fewer)) (omega (arith, e, w)) (unnamed n entry text at says))
    same_preambles

-- ---- removing

-- the parent is the entry that the crossref names
pub parent-named : (entries : List EntryTexts) (n : ℕ) (entry : EntryTexts) (text : Text) (m i : ℕ) → slice_get entries n ≡ Some entry → crossref_text entry ≡ Some text →
    entry_named entries text ≡ Some m → m ≡ i → i ≢ n → parent entries n ≡ Some i
parent-named entries n entry text m i at says named is other =
    ap (λ o. option_and_then (other_than n) (option_and_then (target_of entries) o)) at
    ∙ ap (λ o. option_and_then (other_than n) (option_and_then (entry_named entries) o)) says
    ∙ ap (option_and_then (other_than n)) (named ∙ ap Some is)
    ∙ cond-false (i == n) None (Some i) (ne_eqb i n other)

module _ (key : Text) (db : Reading) (once : holders key db ≡ 1) (unreferred : (n m : ℕ) → entry_named (entries_of db) key ≡ Some m → parent (entries_of db) n ≡ Some m → ⊥) where
  the_one : (m : ℕ) × (first_named key (keys_of (entries_of db)) ≡ Some m) × ((j : ℕ) (found : Text) → slice_get (keys_of (entries_of db)) j ≡ Some found → is_named key found ≡ true → j ≡ m)
  the_one = only key (keys_of (entries_of db)) once

  taken : (found : Text) × (is_named key found ≡ true) × IsOneMore the_one.0 found (entries_of (remove_entry key db)) (entries_of db)
  taken = removed key months db.front db.items the_one.0 the_one.1

  unnamed : IsUnnamed taken.0 (entries_of (remove_entry key db))
  unnamed n entry text at says = false_from_ne_true (is_named text taken.0) (λ named.
      let i : ℕ = the_one.0 in
      let found_at : slice_get (keys_of (entries_of db)) i ≡ Some taken.0 =
      ap (λ l. slice_get (keys_of l) i) taken.2.is ∙ ap (λ l. slice_get l i) (keys-insert (entries_of (remove_entry key db)) i taken.2.added)
      ∙ slice_get-insert_same (keys_of (entries_of (remove_entry key db))) i taken.2.added.key (let e = length-keys (entries_of (remove_entry key db)) in let w = taken.2.within in omega (arith, e, w))
      ∙ ap Some taken.2.has_key in
      let entry_at : slice_get (entries_of db) (number_with_one_more i n) ≡ Some entry =
      ap (λ l. slice_get l (number_with_one_more i n)) taken.2.is ∙ slice_get-insert (entries_of (remove_entry key db)) i taken.2.added taken.2.within n ∙ at in
      ⊎_elim
      (λ none. both_ways (is_named text taken.0) (none_is text (keys_of (entries_of db)) none i taken.0 found_at) named)
      (λ some.
      let first : IsFirst text (keys_of (entries_of db)) some.0 = first_is text (keys_of (entries_of db)) some.0 some.1 in
      let names : (not (is_empty first.key) ≡ true) × (same first.key text ≡ true) = and_parts (not (is_empty first.key)) (same first.key text) first.named in
      let alike : folded first.key ≡ folded key = same-true first.key text names.1 ∙ sym (same-true taken.0 text (and_parts (not (is_empty taken.0)) (same taken.0 text) named).1) ∙ same-true taken.0 key (and_parts (not (is_empty taken.0)) (same taken.0 key) taken.1).1 in
      let is : some.0 ≡ i = the_one.2 some.0 first.key first.stands (and_from (not (is_empty first.key)) (same first.key key) names.0 (true-same first.key key alike)) in
      unreferred (number_with_one_more i n) i the_one.1
      (parent-named (entries_of db) (number_with_one_more i n) entry text some.0 i entry_at says some.1 is (λ e. more_other i n (sym e))))
      (option_cases (first_named text (keys_of (entries_of db)))))

  remove_keeps : (i : ℕ) × (entry_named (entries_of db) key ≡ Some i) × KeepsOthers (number_with_one_more i) 1 (remove_entry key db) db
  remove_keeps = (the_one.0, the_one.1, keeps_others the_one.0 taken.0 (remove_entry key db) db taken.2 unnamed (sym (preambles_removed key months db.front db.items)))

pub remove_entry-keeps_others : remove_entry_keeps_others
remove_entry-keeps_others key_base db key accepted =
    remove_keeps key db (there_once (holders key db) (accepted NotFound) (accepted Ambiguous)) (λ n m named refers. accepted Referred (n, m, named, refers))

-- ---- adding

-- an entry put in before an item
added_after : (m : Macros) (place : ℕ) (item : Item) (e : Entry) (tree : Tree) (items : List Item) → item.tree ≡ EntryTree e →
    IsOneMore (length (gathered entry_in (macros_after m tree) (take place items))) e.key (gathered entry_in (macros_after m tree) items) (gathered entry_in (macros_after m tree) (insert items place item)) →
    (trail : Text) → let first : Item = record { tree = tree; trail = trail } in
    IsOneMore (length (gathered entry_in m (first ∷ take place items))) e.key (gathered entry_in m (first ∷ items)) (gathered entry_in m (first ∷ insert items place item))
added_after m place item e (CommentTree h) items is rest trail = rest
added_after m place item e (DefinitionTree d) items is rest trail = rest
added_after m place item e (PreambleTree p) items is rest trail = rest
added_after m place item e (EntryTree other) items is rest trail =
    record { added = rest.added; has_key = rest.has_key; within = suc-le-suc rest.within; is = ap (λ l. texts_of m other ∷ l) rest.is }

added_at : (m : Macros) (place : ℕ) (item : Item) (e : Entry) (items : List Item) → item.tree ≡ EntryTree e → place ≤ length items →
    IsOneMore (length (gathered entry_in m (take place items))) e.key (gathered entry_in m items) (gathered entry_in m (insert items place item))
added_at m zero item e items is h = record {
  added = texts_of m e;
  has_key = refl;
  within = zero-le;
  is = ap (λ t. entry_in m t ++ gathered entry_in (macros_after m t) items) is;
}
added_at m (suc place) item e [] is h = absurd (not-suc-le-zero h)
added_at m (suc place) item e (first ∷ items) is h =
    added_after m place item e first.tree items is (added_at (macros_after m first.tree) place item e items is (le_of_suc-le-suc h)) first.trail

preambles_added : (m : Macros) (place : ℕ) (item : Item) (e : Entry) (items : List Item) → item.tree ≡ EntryTree e →
    gathered preamble_in m (insert items place item) ≡ gathered preamble_in m items
preambles_added m zero item e items is = ap (λ t. preamble_in m t ++ gathered preamble_in (macros_after m t) items) is
preambles_added m (suc place) item e [] is = ap (λ t. preamble_in m t ++ []) is
preambles_added m (suc place) item e (first ∷ items) is = ap (λ l. preamble_in m first.tree ++ l) (preambles_added (macros_after m first.tree) place item e items is)

-- a new key that no dangling crossref waits for is named by no crossref
pub unnamed_new : (key : Text) (db : Reading) → list_any (same key) (keys_of (entries_of db)) ≡ false → is_awaited db key ≡ false → IsUnnamed key (entries_of db)
unnamed_new key db unused unawaited n entry text at says = ⊎_elim
    (λ none.
    let no_target : target_of (entries_of db) entry ≡ None = ap (option_and_then (entry_named (entries_of db))) says ∙ none in
    and_right (not (is_empty key)) (same key text)
    (dangling_among (entries_of db) (entries_of db) n entry text key at no_target says unawaited))
    (λ some.
    let first : IsFirst text (keys_of (entries_of db)) some.0 = first_is text (keys_of (entries_of db)) some.0 some.1 in
    let unlike : same key first.key ≡ false = none_at (same key) (keys_of (entries_of db)) unused some.0 first.key first.stands in
    and_right (not (is_empty key)) (same key text) (false_from_ne_true (same key text) (λ t. both_ways (same key first.key) unlike
    (true-same key first.key (same-true key text t ∙ sym (same-true first.key text (and_parts (not (is_empty first.key)) (same first.key text) first.named).1))))))
    (option_cases (first_named text (keys_of (entries_of db))))

pub add_entry-keeps_others : add_entry_keeps_others
add_entry-keeps_others key_base db place new accepted unawaited =
    let unused : list_any (same new.key) (keys_of (entries_of db)) ≡ false = false_from_ne_true (list_any (same new.key) (keys_of (entries_of db))) (accepted KeyInUse) in
    let high = accepted BadPosition in
    let within : place ≤ length db.items = omega (arith, high) in
    keeps_others (entries_before place db) new.key db (add_entry place new db) (added_at months place (item_of new) (entry_of new) db.items refl within)
    (unnamed_new new.key db unused (or_parts (is_awaited db new.key) false unawaited).0) (preambles_added months place (item_of new) (entry_of new) db.items refl)
