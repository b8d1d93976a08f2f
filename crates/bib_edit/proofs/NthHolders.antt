-- The entry with a number among those that have a key, as an item.
use Rattle.bib_edit.proofs.Words.{◌≡◌, ℕ, zero, suc, ◌+◌, ◌<◌, Bool, List, [], ◌∷◌, Option, Some, None, option_map, slice_get, length, take, ⊎_elim, refl, sym, ◌∙◌, ap, subst, zero-add, add-zero, cases_Bool, cond-true, cond-false, none-some, same_Some, slice_get_within}
use Rattle.bib_edit.proofs.Words.{Text, Entry, Tree, CommentTree, DefinitionTree, PreambleTree, EntryTree, Item, Reading, Macros, months, macros_after, gathered, entry_in, entries_of, keys_of, is_named, is_entry, is_entry_tree, entry_numbers, length-entry_numbers, numbers_from, numbered_first, numbered_later}
use Rattle.std.proofs.Common.{if◌then◌else◌}
use Rattle.edit_spec.specs.Edits.{Which, nth_of}
use Rattle.edit_spec.proofs.MeantMembers.{meant-number}
use Rattle.bib_edit.proofs.NthWalks.{after, from_start, one_later}
use Rattle.bib_edit.proofs.Referrers.{one-later}
use Rattle.bib_edit.proofs.MeantItems.{item_at}
use Rattle.bib_edit.proofs.MeantTexts.{IsMeantEntry, meant-entry}
use Rattle.bib_edit.proofs.MeantParents.{entries_to}

-- the one with a number among those that pass has that place among their numbers
module _ {X : Type 0} (test : X → Bool) where
  nth-number : (b k : ℕ) (xs : List X) → slice_get (numbers_from test b xs) k ≡ after b (nth_of test k xs)
  nth-number b k [] = refl
  nth-number b zero (x ∷ xs) = ⊎_elim
      (λ t. ap (λ (l : List ℕ). slice_get l 0) (numbered_first test b x xs t) ∙ ap Some (sym (add-zero b)) ∙ sym (ap (after b) (cond-true (test x) (Some 0) (option_map suc (nth_of test 0 xs)) t)))
      (λ f. ap (λ (l : List ℕ). slice_get l 0) (numbered_later test b x xs f) ∙ nth-number (b + 1) 0 xs ∙ sym (one_later b (nth_of test 0 xs))
      ∙ sym (ap (after b) (cond-false (test x) (Some 0) (option_map suc (nth_of test 0 xs)) f)))
      (cases_Bool (test x))
  nth-number b (suc k) (x ∷ xs) = ⊎_elim
      (λ t. ap (λ (l : List ℕ). slice_get l (suc k)) (numbered_first test b x xs t) ∙ nth-number (b + 1) k xs ∙ sym (one_later b (nth_of test k xs))
      ∙ ap (λ (c : Bool). after b (option_map suc (nth_of test (if c then k else suc k) xs))) (sym t))
      (λ f. ap (λ (l : List ℕ). slice_get l (suc k)) (numbered_later test b x xs f) ∙ nth-number (b + 1) (suc k) xs ∙ sym (one_later b (nth_of test (suc k) xs))
      ∙ ap (λ (c : Bool). after b (option_map suc (nth_of test (if c then k else suc k) xs))) (sym f))
      (cases_Bool (test x))

-- ---- the number of an entry's item

abbrev numbers : ℕ → List Item → List ℕ
numbers b items = numbers_from (λ (item : Item). is_entry_tree item.tree) b items

number-after : (b : ℕ) (m : Macros) (tree : Tree) (trail : Text) (items : List Item) (n : ℕ) (o : Option ℕ) →
    slice_get (numbers (b + 1) items) (length (gathered entry_in (macros_after m tree) (take n items))) ≡ o →
    slice_get (numbers b (item_at tree trail ∷ items)) (length (gathered entry_in m (item_at tree trail ∷ take n items))) ≡ o
number-after b m (EntryTree e) trail items n o h = h
number-after b m (CommentTree c) trail items n o h = h
number-after b m (DefinitionTree d) trail items n o h = h
number-after b m (PreambleTree p) trail items n o h = h

-- the entry that is item n has the place, among the numbers of the entries, of as many as come before it
number-at : (b : ℕ) (m : Macros) (n : ℕ) (items : List Item) (e : Entry) (trail : Text) → slice_get items n ≡ Some (item_at (EntryTree e) trail) →
    slice_get (numbers b items) (length (gathered entry_in m (take n items))) ≡ Some (b + n)
number-at b m n [] e trail at = absurd (none-some (item_at (EntryTree e) trail) at)
number-at b m zero (first ∷ items) e trail at = ap (λ (i : Item). slice_get (numbers b (i ∷ items)) 0) (same_Some first (item_at (EntryTree e) trail) at) ∙ ap Some (sym (add-zero b))
number-at b m (suc n) (first ∷ items) e trail at =
    number-after b m first.tree first.trail items n (Some (b + suc n)) (number-at (b + 1) (macros_after m first.tree) n items e trail at ∙ ap Some (one-later b n))

-- ---- the holders of a key

module _ (name : Text) (k : ℕ) (db : Reading) where
  abbrev meant : Option ℕ
  meant = nth_of (λ (item : Item). is_entry name item.tree) k db.items

  abbrev holder : Option ℕ
  holder = slice_get (numbers_from (is_named name) 0 (keys_of (entries_of db))) k

  -- the number among the entries: how many come before it
  holder-number : holder ≡ option_map (entries_to db) meant
  holder-number =
      nth-number (is_named name) 0 k (keys_of (entries_of db)) ∙ sym (from_start (nth_of (is_named name) k (keys_of (entries_of db)))) ∙ meant-number name k months db.items

  pub no-holder : None ≡ holder → None ≡ meant
  no-holder none = of_none meant (none ∙ holder-number)
    where
      of_none : (o : Option ℕ) → None ≡ option_map (entries_to db) o → None ≡ o
      of_none None e = refl
      of_none (Some n) e = absurd (none-some (entries_to db n) e)

  module _ (m : ℕ) (held : Some m ≡ holder) where
    -- it is an item
    held-at : (n : ℕ) × (meant ≡ Some n) × (slice_get (entry_numbers db.items) m ≡ Some n)
    held-at = of_meant meant refl
      where
        of_meant : (o : Option ℕ) → meant ≡ o → (n : ℕ) × (meant ≡ Some n) × (slice_get (entry_numbers db.items) m ≡ Some n)
        of_meant None e = absurd (none-some m (sym (held ∙ holder-number ∙ ap (option_map (entries_to db)) e)))
        of_meant (Some n) e =
            let key : Which = record { name = name; number = Some k } in
            let it : IsMeantEntry key db n = meant-entry key db n e in
            let place = same_Some m (entries_to db n) (held ∙ holder-number ∙ ap (option_map (entries_to db)) e) in
            (n, e, ap (slice_get (entry_numbers db.items)) place ∙ number-at 0 months n db.items it.entry it.trail it.at ∙ ap Some (zero-add n))

    pub holder-within : m < length (entries_of db)
    holder-within = subst (λ (count : ℕ). m < count) (length-entry_numbers db) (slice_get_within (entry_numbers db.items) m held-at.0 held-at.2)

    pub holder-item : (n : ℕ) → slice_get (entry_numbers db.items) m ≡ Some n → Some n ≡ meant
    holder-item n at = sym at ∙ held-at.2 ∙ sym held-at.1
