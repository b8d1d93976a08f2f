-- The extract of an extract, for the same keys, is that extract.
use Rattle.std.proofs.Common.{◌≡◌, ℕ, zero, suc, ◌+◌, ◌-◌, ◌<◌, ◌≤◌, ◌==◌, ◌||◌, ◌++◌, Bool, true, List, [], ◌∷◌, map, filter_map, length, ⊎_elim, refl, sym, ◌∙◌, ap, ap₂, subst, arith, add-zero, zero-add, not-suc-le-zero, le_of_suc-le-suc}
use Rattle.std.specs.List.{list_any, AllByRecursion, range_with_len}
use Rattle.std.proofs.lemmas.Bool.{cases_Bool, cond-true, cond-false, eqb-false}
use Rattle.bib_spec.specs.Text.{Text, same}
use Rattle.bib_spec.specs.Tree.{Tree, CommentTree, DefinitionTree, PreambleTree, EntryTree}
use Rattle.bib_spec.specs.Reading.{Item, Reading}
use Rattle.bib_spec.specs.Texts.{Macros, months, macros_after, gathered}
use Rattle.bib_spec.specs.Records.{EntryTexts, entry_in, entries_of, entry_named, parent, ancestors, numbers_of, cites_all}
use Rattle.bib_spec.proofs.Parents.{parent_within}
use Rattle.extract_spec.specs.Extract.{used_by, names_before, awaited, found, is_kept_entry, picked, number_in, extract_from, on_its_line, keeps_for, extract_of}
use Rattle.extract_spec.specs.Laws.{IsClosed, extract_once}
use Rattle.extract_spec.proofs.ExtractReads.{extract_from-kept, extract_from-left, extract-closed}
use Rattle.extract_spec.proofs.ExtractSays.{entries-picked}
use Rattle.extract_spec.proofs.ExtractMeans.{ancestors_alike}
use Rattle.extract_spec.proofs.Chains.{settled, there, kept-closed}
use Rattle.extract_spec.proofs.CitedLists.{same_number, has_alike, found_alike, found_kept, keys_kept, found_is_kept}

-- ---- an extract of which all entries are kept

abbrev IsWhole : (ℕ → Bool) → ℕ → List Item → Type 0
IsWhole keeps n items = (awaited keeps n items ≡ awaited (λ k. true) n items) × (extract_from keeps n items ≡ extract_from (λ k. true) n items)

abbrev KeepsAll : (ℕ → Bool) → ℕ → ℕ → Type 0
KeepsAll keeps n count = (k : ℕ) → k < count → keeps (n + k) ≡ true

whole_step : (keeps : ℕ → Bool) (m : Macros) (tree : Tree) (trail : Text) (items : List Item) (n : ℕ) →
    ((m : Macros) (n : ℕ) → KeepsAll keeps n (length (gathered entry_in m items)) → IsWhole keeps n items) →
    KeepsAll keeps n (length (gathered entry_in m (record { tree = tree; trail = trail } ∷ items))) → IsWhole keeps n (record { tree = tree; trail = trail } ∷ items)
whole_step keeps m (CommentTree h) trail items n rest each = rest m n each
whole_step keeps m (PreambleTree p) trail items n rest each =
    let item : Item = record { tree = PreambleTree p; trail = trail } in
    let whole = rest m n each in (ap (λ names. used_by (PreambleTree p) ++ names) whole.0, ap (λ l. on_its_line item ∷ l) whole.1)
whole_step keeps m (DefinitionTree d) trail items n rest each =
    let item : Item = record { tree = DefinitionTree d; trail = trail } in
    let whole = rest (macros_after m (DefinitionTree d)) n each in
    let stays = λ (names : List Text). list_any (same d.assignment.name) names in
    let names = awaited (λ k. true) n items in (
      ap (λ names. names_before (list_any (same d.assignment.name) names) (DefinitionTree d) names) whole.0,
      ⊎_elim
          (λ h. extract_from-kept keeps n item items (ap stays whole.0 ∙ h) ∙ ap (λ l. on_its_line item ∷ l) whole.1 ∙ sym (extract_from-kept (λ k. true) n item items h))
          (λ h. extract_from-left keeps n item items (ap stays whole.0 ∙ h) ∙ whole.1 ∙ sym (extract_from-left (λ k. true) n item items h))
          (cases_Bool (list_any (same d.assignment.name) names)),
    )
whole_step keeps m (EntryTree e) trail items n rest each =
    let item : Item = record { tree = EntryTree e; trail = trail } in
    let here : keeps n ≡ true = subst (λ a. keeps a ≡ true) (add-zero n) (each 0 (first (length (gathered entry_in m items)))) in
    let whole = rest m (suc n) (λ k lt. subst (λ a. keeps a ≡ true) (shift k) (each (suc k) (later k (length (gathered entry_in m items)) lt))) in (
      ap₂ (λ b names. names_before b (EntryTree e) names) here whole.0,
      extract_from-kept keeps n item items here ∙ ap (λ l. on_its_line item ∷ l) whole.1,
    )
  where
    first : (a : ℕ) → 0 < suc a
    first a = omega arith

    shift : (k : ℕ) → n + suc k ≡ suc n + k
    shift k = omega arith

    later : (k a : ℕ) → k < a → suc k < suc a
    later k a = omega arith

whole : (keeps : ℕ → Bool) (items : List Item) (m : Macros) (n : ℕ) → KeepsAll keeps n (length (gathered entry_in m items)) → IsWhole keeps n items
whole keeps [] m n each = (refl, refl)
whole keeps (item ∷ items) m n each = whole_step keeps m item.tree item.trail items n (whole keeps items) each

-- ---- each entry of the extract is kept in the extract

length-picked : (keeps : ℕ → Bool) (s : ℕ) (entries : List EntryTexts) → length (picked keeps s entries) ≤ length entries
length-picked keeps s [] = omega arith
length-picked keeps s (entry ∷ entries) =
    let rest = picked keeps (suc s) entries in
    let le = length-picked keeps (suc s) entries in ⊎_elim
    (λ e. subst (λ l. length l ≤ suc (length entries)) (sym (cond-true (keeps s) (entry ∷ rest) rest e)) (more (length rest) (length entries) le))
    (λ e. subst (λ l. length l ≤ suc (length entries)) (sym (cond-false (keeps s) (entry ∷ rest) rest e)) (wider (length rest) (length entries) le))
    (cases_Bool (keeps s))
  where
    more : (a b : ℕ) → a ≤ b → suc a ≤ suc b
    more a b = omega arith

    wider : (a b : ℕ) → a ≤ b → a ≤ suc b
    wider a b = omega arith

in_range : (count a k : ℕ) → a ≤ k → k < a + count → list_any (λ v. v == k) (range_with_len a count) ≡ true
in_range zero a k low high = absurd (omega (arith, low, high))
in_range (suc count) a k low high = ⊎_elim
    (λ is. ap (λ b. b || list_any (λ v. v == k) (range_with_len (a + 1) count)) is)
    (λ other.
    let differ = eqb-false a k other in
    ap (λ b. b || list_any (λ v. v == k) (range_with_len (a + 1) count)) other ∙ in_range count (a + 1) k (omega (arith, low, differ)) (omega (arith, high)))
    (cases_Bool (a == k))

-- each number of the extract is the new number of an entry that is kept
old_number : (keeps : ℕ → Bool) (s : ℕ) (entries : List EntryTexts) (k : ℕ) → k < length (picked keeps s entries) → (n : ℕ) × (keeps (s + n) ≡ true) × (number_in keeps s n ≡ k)
old_number keeps s [] k lt = absurd (not-suc-le-zero lt)
old_number keeps s (entry ∷ entries) k lt =
    let rest = picked keeps (suc s) entries in ⊎_elim
    (λ e. first e (old_number keeps (suc s) entries) k (subst (λ l. k < length l) (cond-true (keeps s) (entry ∷ rest) rest e) lt))
    (λ e.
    let it = old_number keeps (suc s) entries k (subst (λ l. k < length l) (cond-false (keeps s) (entry ∷ rest) rest e) lt) in
    (suc it.0, subst (λ a. keeps a ≡ true) (shift it.0) it.1, cond-false (keeps s) (suc (number_in keeps (suc s) it.0)) (number_in keeps (suc s) it.0) e ∙ it.2))
    (cases_Bool (keeps s))
  where
    shift : (n : ℕ) → suc s + n ≡ s + suc n
    shift n = omega arith

    first : keeps s ≡ true → ((k : ℕ) → k < length (picked keeps (suc s) entries) → (n : ℕ) × (keeps (suc s + n) ≡ true) × (number_in keeps (suc s) n ≡ k)) → (k : ℕ) → k < suc (length (picked keeps (suc s) entries)) → (n : ℕ) × (keeps (s + n) ≡ true) × (number_in keeps s n ≡ k)
    first e others zero lt = (0, subst (λ a. keeps a ≡ true) (sym (add-zero s)) e, refl)
    first e others (suc k) lt =
        let it = others k (le_of_suc-le-suc lt) in
        (suc it.0, subst (λ a. keeps a ≡ true) (shift it.0) it.1, cond-true (keeps s) (suc (number_in keeps (suc s) it.0)) (number_in keeps (suc s) it.0) e ∙ ap suc it.2)

module _ (keeps : ℕ → Bool) (entries : List EntryTexts) (closed : IsClosed keeps entries) where
  chain_alike : (c : ℕ) → keeps c ≡ true →
      (ancestors (picked keeps 0 entries) (length (picked keeps 0 entries)) (number_in keeps 0 c) ≡ map (number_in keeps 0) (ancestors entries (length entries) c))
      × AllByRecursion (λ m. keeps m ≡ true) (ancestors entries (length entries) c)
  chain_alike c h =
      let few = picked keeps 0 entries in
      let number = number_in keeps 0 in
      let above = ancestors_alike keeps entries closed (length entries) (c ∷ []) c (h, tt) h in (
        sym (settled (parent few) (length few) (parent_within few) (there few) (length entries - length few) (number c))
            ∙ ap (λ d. ancestors few d (number c)) (refill (length entries) (length few) (length-picked keeps 0 entries))
            ∙ above.0,
        above.1,
      )
    where
      refill : (a b : ℕ) → b ≤ a → (a - b) + b ≡ a
      refill a b = omega arith

  kept_again : (n : ℕ) → keeps n ≡ true → (list : List ℕ) → AllByRecursion (λ m. keeps m ≡ true) list →
      is_kept_entry (picked keeps 0 entries) (map (number_in keeps 0) list) (number_in keeps 0 n) ≡ is_kept_entry entries list n
  kept_again n h [] each = refl
  kept_again n h (c ∷ list) each =
      let few = picked keeps 0 entries in
      let number = number_in keeps 0 in
      let chain = chain_alike c each.0 in
      ap₂ ◌||◌
      (ap₂ ◌||◌ (same_number keeps c n each.0 h)
      (ap (list_any (λ a. a == number n)) chain.0 ∙ has_alike keeps n (ancestors entries (length entries) c) h chain.1))
      (kept_again n h list each.1)

pub all_kept_again : (db : Reading) (keys : List Text) (k : ℕ) → k < length (picked (keeps_for db keys) 0 (entries_of db)) →
    is_kept_entry (picked (keeps_for db keys) 0 (entries_of db)) (found (picked (keeps_for db keys) 0 (entries_of db)) keys) k ≡ true
all_kept_again db keys k lt =
    let keeps = keeps_for db keys in
    let entries = entries_of db in
    let few = picked (keeps_for db keys) 0 (entries_of db) in
    let number = number_in (keeps_for db keys) 0 in
    let closed = kept-closed db keys in ⊎_elim
    (λ star.
    ap (λ list. is_kept_entry few list k) (cond-true (cites_all keys) (numbers_of few) (filter_map (entry_named few) keys) star)
    ∙ found_is_kept few (numbers_of few) k
    (in_range (length few) 0 k (omega arith) (low (length few) lt)))
    (λ some.
    let are = keys_kept db keys some in
    let list = filter_map (entry_named entries) keys in
    let old = old_number (keeps_for db keys) 0 (entries_of db) k lt in
    let h : keeps_for db keys old.0 ≡ true = subst (λ a. keeps_for db keys a ≡ true) (zero-add old.0) old.1 in
    ap (λ list. is_kept_entry few list k) (cond-false (cites_all keys) (numbers_of few) (filter_map (entry_named few) keys) some ∙ found_alike keeps entries closed keys are)
    ∙ ap (is_kept_entry few (map number list)) (sym old.2)
    ∙ kept_again keeps entries closed old.0 h list (found_kept keeps entries closed keys are)
    ∙ ap (λ l. is_kept_entry entries l old.0) (sym (cond-false (cites_all keys) (numbers_of entries) list some))
    ∙ h)
    (cases_Bool (cites_all keys))
  where
    low : (a : ℕ) → k < a → k < 0 + a
    low a = omega arith

pub extract-once : extract_once
extract-once db keys =
    let sub = extract_of db keys in
    let few = picked (keeps_for db keys) 0 (entries_of db) in
    let is : entries_of sub ≡ few = entries-picked db keys in
    let each : KeepsAll (keeps_for sub keys) 0 (length (entries_of sub)) = λ k lt.
    ap (λ a. keeps_for sub keys a) (zero-add k)
    ∙ ap (λ s. is_kept_entry s (found s keys) k) is
    ∙ all_kept_again db keys k (subst (λ s. k < length s) is lt) in
    ap (λ items. let it : Reading = record { front = []; items = items } in it)
    ((whole (keeps_for sub keys) sub.items months 0 each).1 ∙ extract-closed (keeps_for db keys) 0 0 db.items)
