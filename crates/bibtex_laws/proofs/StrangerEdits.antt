-- Removing an entry takes out, and adding entries puts in, entries with keys of their own that no other entry names.
use Rattle.std.proofs.Common.{◌≡◌, ◌≢◌, ◌∙◌, ℕ, zero, suc, ◌+◌, ◌≤◌, ◌==◌, Bool, true, false, cond, not, ◌&&◌, ◌||◌, List, [], ◌∷◌, ◌++◌, Some, None, option_and_then, slice_get, length, take, map, insert, refl, sym, ap, ap₂, arith, append_assoc, append-nil, ne_eqb, le_of_suc-le-suc, not-suc-le-zero}
use Rattle.std.specs.List.{list_any, list_all}
use Rattle.std.proofs.lemmas.Bool.{cond-false, and_parts, or_parts, false_from_ne_true, false≢true}
use Rattle.std.proofs.lemmas.Option.{none-some, same_Some}
use Rattle.bib_spec.specs.Text.{Text, folded, same, is_new_key}
use Rattle.bib_spec.specs.Tree.{Entry, Tree, CommentTree, DefinitionTree, PreambleTree, EntryTree}
use Rattle.bib_spec.specs.Reading.{Item, Reading}
use Rattle.bib_spec.specs.Texts.{Macros, months, macros_after, gathered, is_empty}
use Rattle.bib_spec.specs.Records.{Record, EntryTexts, texts_of, entry_in, entries_of, keys_of, crossref_text, is_named, first_named, entry_named, target_of, other_than}
use Rattle.bib_spec.proofs.Accepted.{there_once}
use Rattle.bib_spec.proofs.Names.{same-true, same_comm}
use Rattle.bib_spec.proofs.Places.{first_is, first_named_same}
use Rattle.edit_spec.specs.Edits.{NewEntry, AddEntry, RemoveEntry, AddMany, NotFound, Ambiguous, KeyInUse, BadPosition, Referred, holders, is_entry, without_first, item_of, entry_of, remove_entry, add_entry, add_many, given_keys, has_same, edited, IsAccepted}
use Rattle.edit_spec.specs.OtherLaws.{entries_before, is_awaited, NoneAwaited}
use Rattle.edit_spec.proofs.OtherEntries.{unnamed_new}
use Rattle.edit_spec.proofs.RenameKey.{only, new_key_parts}
use Rattle.edit_spec.proofs.Unrefuted.{given_keys-are}
use Rattle.bibtex_laws.specs.StarLists.{AreStrangers}
use Rattle.bibtex_laws.proofs.StarPlaces.{past, get_past, skipped}
use Rattle.bibtex_laws.proofs.NewKeys.{named_too}
use Rattle.bibtex_laws.proofs.DialectRecords.{key_get}

-- ---- the entries with others put in

-- the second list is the first with entries of these keys put in at this number
pub record HasMore (at : ℕ) (keys : List Text) (fewer more : List EntryTexts) : Type 0 where
  pub first : List EntryTexts
  pub added : List EntryTexts
  pub last : List EntryTexts
  pub place : length first ≡ at
  pub fewer_are : fewer ≡ first ++ last
  pub more_are : more ≡ first ++ (added ++ last)
  pub keys_are : keys_of added ≡ keys

-- the same after one more entry
after_entry : (at : ℕ) (entry : EntryTexts) (keys : List Text) (fewer more : List EntryTexts) → HasMore at keys fewer more → HasMore (suc at) keys (entry ∷ fewer) (entry ∷ more)
after_entry at entry keys fewer more has = record {
  first = entry ∷ has.first;
  added = has.added;
  last = has.last;
  place = ap suc has.place;
  fewer_are = ap (λ (l : List EntryTexts). entry ∷ l) has.fewer_are;
  more_are = ap (λ (l : List EntryTexts). entry ∷ l) has.more_are;
  keys_are = has.keys_are;
}

-- the entries that are put in have keys of their own, and no other entry names them
abbrev pub HasStrangers : ℕ → List Text → List EntryTexts → List EntryTexts → Type 0
HasStrangers at keys fewer more = (has : HasMore at keys fewer more) × AreStrangers has.added (has.first ++ has.last)

-- ---- adding

-- an entry put in before an item
put_in : (m : Macros) (position : ℕ) (new : NewEntry) (items : List Item) → position ≤ length items
    → HasMore (length (gathered entry_in m (take position items))) (new.key ∷ []) (gathered entry_in m items) (gathered entry_in m (insert items position (item_of new)))
put_in m zero new items within = record { first = []; added = texts_of m (entry_of new) ∷ []; last = gathered entry_in m items; place = refl; fewer_are = refl; more_are = refl; keys_are = refl }
put_in m (suc position) new [] within = absurd (not-suc-le-zero within)
put_in m (suc position) new (item ∷ items) within = after item.tree (put_in (macros_after m item.tree) position new items (le_of_suc-le-suc within))
  where
    after : (tree : Tree)
        → HasMore (length (gathered entry_in (macros_after m tree) (take position items))) (new.key ∷ []) (gathered entry_in (macros_after m tree) items)
        (gathered entry_in (macros_after m tree) (insert items position (item_of new)))
        → HasMore (length (entry_in m tree ++ gathered entry_in (macros_after m tree) (take position items))) (new.key ∷ []) (entry_in m tree ++ gathered entry_in (macros_after m tree) items)
        (entry_in m tree ++ gathered entry_in (macros_after m tree) (insert items position (item_of new)))
    after (CommentTree h) rest = rest
    after (DefinitionTree d) rest = rest
    after (PreambleTree p) rest = rest
    after (EntryTree e) rest =
        after_entry (length (gathered entry_in m (take position items))) (texts_of m e) (new.key ∷ []) (gathered entry_in m items) (gathered entry_in m (insert items position (item_of new))) rest

-- entries put in after the last item
appended : (m : Macros) (items : List Item) (news : List NewEntry)
    → (added : List EntryTexts) × (gathered entry_in m (items ++ map item_of news) ≡ gathered entry_in m items ++ added) × (keys_of added ≡ map (λ new. new.key) news)
appended m [] [] = ([], refl, refl)
appended m [] (new ∷ news) = let rest = appended m [] news in (texts_of m (entry_of new) ∷ rest.0, ap (λ l. texts_of m (entry_of new) ∷ l) rest.1, ap (λ l. new.key ∷ l) rest.2)
appended m (item ∷ items) news =
    let rest = appended (macros_after m item.tree) items news in
    (rest.0, ap (λ l. entry_in m item.tree ++ l) rest.1 ∙ sym (append_assoc (entry_in m item.tree) (gathered entry_in (macros_after m item.tree) items) rest.0), rest.2)

put_last : (m : Macros) (items : List Item) (news : List NewEntry) → HasMore (length (gathered entry_in m items)) (map (λ new. new.key) news) (gathered entry_in m items) (gathered entry_in m (items ++ map item_of news))
put_last m items news =
    let one = appended m items news in
    record {
      first = gathered entry_in m items;
      added = one.0;
      last = [];
      place = refl;
      fewer_are = sym (append-nil (gathered entry_in m items));
      more_are = one.1 ∙ ap (λ (l : List EntryTexts). gathered entry_in m items ++ l) (sym (append-nil one.0));
      keys_are = one.2;
    }

-- no entry has one of the keys, and no crossref is one of them
record AreUnnamed (names : List Text) (entries : List EntryTexts) : Type 0 where
  pub keys : (n : ℕ) (entry : EntryTexts) → slice_get entries n ≡ Some entry → list_any (same entry.key) names ≡ false
  pub crossrefs : (n : ℕ) (entry : EntryTexts) (text : Text) → slice_get entries n ≡ Some entry → crossref_text entry ≡ Some text → list_any (same text) names ≡ false

strangers : (at : ℕ) (keys : List Text) (fewer more : List EntryTexts) (has : HasMore at keys fewer more) → has_same keys ≡ false → AreUnnamed keys fewer → AreStrangers has.added (has.first ++ has.last)
strangers place keys fewer more has differ unnamed = record {
  differ = ap has_same has.keys_are ∙ differ;
  keys = λ n entry at. ap (list_any (same entry.key)) has.keys_are ∙ unnamed.keys n entry (ap (λ (l : List EntryTexts). slice_get l n) has.fewer_are ∙ at);
  crossrefs = λ n entry text at says. ap (list_any (same text)) has.keys_are ∙ unnamed.crossrefs n entry text (ap (λ (l : List EntryTexts). slice_get l n) has.fewer_are ∙ at) says;
}

-- a key that no entry has
none_has : (key : Text) (entries : List EntryTexts) → list_any (same key) (keys_of entries) ≡ false → (n : ℕ) (entry : EntryTexts) → slice_get entries n ≡ Some entry → same entry.key key ≡ false
none_has key [] unused n entry at = absurd (none-some entry at)
none_has key (first ∷ entries) unused zero entry at =
    same_comm entry.key key ∙ ap (λ (e : EntryTexts). same key e.key) (sym (same_Some first entry at)) ∙ (or_parts (same key first.key) (list_any (same key) (keys_of entries)) unused).0
none_has key (first ∷ entries) unused (suc n) entry at = none_has key entries (or_parts (same key first.key) (list_any (same key) (keys_of entries)) unused).1 n entry at

none_says : (key : Text) (db : Reading) → is_new_key key ≡ true → list_any (same key) (keys_of (entries_of db)) ≡ false → is_awaited db key ≡ false
    → (n : ℕ) (entry : EntryTexts) (text : Text) → slice_get (entries_of db) n ≡ Some entry → crossref_text entry ≡ Some text → same text key ≡ false
none_says key db new_ unused unawaited n entry text at says =
    same_comm text key
    ∙ sym (ap (λ (b : Bool). not b && same key text) (new_key_parts key new_).0)
    ∙ unnamed_new key db unused unawaited n entry text at says

-- new keys that no entry has and no crossref waits for
unnamed : (db : Reading) (keys : List Text) → list_all is_new_key keys ≡ true → list_any (λ key. list_any (same key) (keys_of (entries_of db))) keys ≡ false → list_any (is_awaited db) keys ≡ false
    → AreUnnamed keys (entries_of db)
unnamed db [] new_ unused unawaited = record { keys = λ n entry at. refl; crossrefs = λ n entry text at says. refl }
unnamed db (key ∷ keys) new_ unused unawaited =
    let fine = and_parts (is_new_key key) (list_all is_new_key keys) new_ in
    let free = or_parts (list_any (same key) (keys_of (entries_of db))) (list_any (λ key. list_any (same key) (keys_of (entries_of db))) keys) unused in
    let quiet = or_parts (is_awaited db key) (list_any (is_awaited db) keys) unawaited in
    let rest : AreUnnamed keys (entries_of db) = unnamed db keys fine.1 free.1 quiet.1 in
    record {
      keys = λ n entry at. ap₂ (λ (b c : Bool). b || c) (none_has key (entries_of db) free.0 n entry at) (rest.keys n entry at);
      crossrefs = λ n entry text at says. ap₂ (λ (b c : Bool). b || c) (none_says key db fine.0 free.0 quiet.0 n entry text at says) (rest.crossrefs n entry text at says);
    }

pub add_entry_has : (key_base : Record → Text) (db : Reading) (position : ℕ) (new : NewEntry) → IsAccepted key_base db (AddEntry position new) → NoneAwaited db (AddEntry position new)
    → HasStrangers (entries_before position db) (given_keys (AddEntry position new)) (entries_of db) (entries_of (edited key_base db (AddEntry position new)))
add_entry_has key_base db position new accepted unawaited =
    let high = accepted BadPosition in
    let within : position ≤ length db.items = omega (arith, high) in
    let unused : list_any (same new.key) (keys_of (entries_of db)) ≡ false = false_from_ne_true (list_any (same new.key) (keys_of (entries_of db))) (accepted KeyInUse) in
    let has : HasMore (entries_before position db) (new.key ∷ []) (entries_of db) (entries_of (add_entry position new db)) = put_in months position new db.items within in (
      has,
      strangers (entries_before position db) (new.key ∷ []) (entries_of db) (entries_of (add_entry position new db)) has refl
          (unnamed db (new.key ∷ []) (given_keys-are key_base db (AddEntry position new) accepted) (ap (λ (b : Bool). b || false) unused) unawaited),
    )

pub add_many_has : (key_base : Record → Text) (db : Reading) (news : List NewEntry) → IsAccepted key_base db (AddMany news) → NoneAwaited db (AddMany news)
    → HasStrangers (length (entries_of db)) (given_keys (AddMany news)) (entries_of db) (entries_of (edited key_base db (AddMany news)))
add_many_has key_base db news accepted unawaited =
    let free = or_parts (has_same (map (λ new. new.key) news)) (list_any (λ new. list_any (same new.key) (keys_of (entries_of db))) news)
    (false_from_ne_true (has_same (map (λ new. new.key) news) || list_any (λ new. list_any (same new.key) (keys_of (entries_of db))) news) (accepted KeyInUse)) in
    let has : HasMore (length (entries_of db)) (map (λ new. new.key) news) (entries_of db) (entries_of (add_many news db)) = put_last months db.items news in (
      has,
      strangers (length (entries_of db)) (map (λ new. new.key) news) (entries_of db) (entries_of (add_many news db)) has free.0
          (unnamed db (map (λ new. new.key) news) (given_keys-are key_base db (AddMany news) accepted) (by_key news ∙ free.1) unawaited),
    )
  where
    by_key : (news : List NewEntry) → list_any (λ key. list_any (same key) (keys_of (entries_of db))) (map (λ (new : NewEntry). new.key) news) ≡ list_any (λ (new : NewEntry). list_any (same new.key) (keys_of (entries_of db))) news
    by_key [] = refl
    by_key (new ∷ news) = ap (λ (b : Bool). list_any (same new.key) (keys_of (entries_of db)) || b) (by_key news)

-- ---- removing

module _ (key : Text) where
  -- an entry that the key names was taken out
  pub record IsTaken (fewer more : List EntryTexts) : Type 0 where
    pub first : List EntryTexts
    pub gone : EntryTexts
    pub last : List EntryTexts
    pub named : is_named key gone.key ≡ true
    pub fewer_are : fewer ≡ first ++ last
    pub more_are : more ≡ first ++ gone ∷ last

  later_taken : (entry : EntryTexts) (fewer more : List EntryTexts) → IsTaken fewer more → IsTaken (entry ∷ fewer) (entry ∷ more)
  later_taken entry fewer more one = record {
    first = entry ∷ one.first;
    gone = one.gone;
    last = one.last;
    named = one.named;
    fewer_are = ap (λ (l : List EntryTexts). entry ∷ l) one.fewer_are;
    more_are = ap (λ (l : List EntryTexts). entry ∷ l) one.more_are;
  }

  abbrev item_at : Tree → Text → Item
  item_at tree trail = record { tree = tree; trail = trail }

  abbrev without : Macros → Text → List Item → List EntryTexts
  without m front items = gathered entry_in m (without_first (is_entry key) front items).items

  taken_out : (m : Macros) (front : Text) (items : List Item) → list_any (is_named key) (keys_of (gathered entry_in m items)) ≡ true → IsTaken (without m front items) (gathered entry_in m items)
  taken_out m front [] some_ = absurd (false≢true some_)
  taken_out m front (item ∷ items) some_ = at item.tree item.trail (taken_out (macros_after m item.tree) item.trail items) some_
    where
      split : (e : Entry) (trail : Text) → (list_any (is_named key) (keys_of (gathered entry_in m items)) ≡ true → IsTaken (without m trail items) (gathered entry_in m items))
          → (b : Bool) → is_named key e.key ≡ b → (b || list_any (is_named key) (keys_of (gathered entry_in m items))) ≡ true
          → IsTaken (gathered entry_in m (cond {A = Reading} b (record { front = front ++ trail; items = items })
          (record { front = front; items = item_at (EntryTree e) (without_first (is_entry key) trail items).front ∷ (without_first (is_entry key) trail items).items })).items)
          (texts_of m e ∷ gathered entry_in m items)
      split e trail rest true is there = record { first = []; gone = texts_of m e; last = gathered entry_in m items; named = is; fewer_are = refl; more_are = refl }
      split e trail rest false is there = later_taken (texts_of m e) (without m trail items) (gathered entry_in m items) (rest there)

      at : (tree : Tree) (trail : Text)
          → (list_any (is_named key) (keys_of (gathered entry_in (macros_after m tree) items)) ≡ true → IsTaken (without (macros_after m tree) trail items) (gathered entry_in (macros_after m tree) items))
          → list_any (is_named key) (keys_of (gathered entry_in m (item_at tree trail ∷ items))) ≡ true
          → IsTaken (without m front (item_at tree trail ∷ items)) (gathered entry_in m (item_at tree trail ∷ items))
      at (CommentTree h) trail rest there = rest there
      at (DefinitionTree d) trail rest there = rest there
      at (PreambleTree p) trail rest there = rest there
      at (EntryTree e) trail rest there = split e trail rest (is_named key e.key) refl there

any_at : {X : Type 0} (p : X → Bool) (xs : List X) (n : ℕ) (x : X) → slice_get xs n ≡ Some x → p x ≡ true → list_any p xs ≡ true
any_at p [] n x at is = absurd (none-some x at)
any_at p (y ∷ xs) zero x at is = ap (λ (b : Bool). b || list_any p xs) (ap p (same_Some y x at) ∙ is)
any_at p (y ∷ xs) (suc n) x at is = either (p y) (any_at p xs n x at is)
  where
    either : (b : Bool) → list_any p xs ≡ true → (b || list_any p xs) ≡ true
    either true there = refl
    either false there = there

past_other : (b m n : ℕ) → past b (suc m) n ≢ b
past_other zero m n is = absurd (omega (arith, is))
past_other (suc b) m zero is = absurd (omega (arith, is))
past_other (suc b) m (suc n) is = past_other b m n (let same_ : past b (suc m) n ≡ b = omega (arith, is) in same_)

module _ (key_base : Record → Text) (db : Reading) (key : Text) (accepted : IsAccepted key_base db (RemoveEntry key)) where
  pub the_one : (m : ℕ) × (first_named key (keys_of (entries_of db)) ≡ Some m) × ((j : ℕ) (found : Text) → slice_get (keys_of (entries_of db)) j ≡ Some found → is_named key found ≡ true → j ≡ m)
  the_one = only key (keys_of (entries_of db)) (there_once (holders key db) (accepted NotFound) (accepted Ambiguous))

  pub taken : IsTaken key (entries_of (remove_entry key db)) (entries_of db)
  taken =
      let first = first_is key (keys_of (entries_of db)) the_one.0 the_one.1 in
      taken_out key months db.front db.items (any_at (is_named key) (keys_of (entries_of db)) the_one.0 first.key first.stands first.named)

  -- the other entries, in the file before
  old_at : (n : ℕ) (entry : EntryTexts) → slice_get (entries_of (remove_entry key db)) n ≡ Some entry → slice_get (entries_of db) (past (length taken.first) 1 n) ≡ Some entry
  old_at n entry at =
      ap (λ (l : List EntryTexts). slice_get l (past (length taken.first) 1 n)) taken.more_are
      ∙ get_past taken.first (taken.gone ∷ []) taken.last n
      ∙ sym (ap (λ (l : List EntryTexts). slice_get l n) taken.fewer_are) ∙ at

  is_one : length taken.first ≡ the_one.0
  is_one =
      let at : slice_get (entries_of db) (length taken.first) ≡ Some taken.gone =
      ap (λ (l : List EntryTexts). slice_get l (length taken.first)) taken.more_are
      ∙ (let is : length taken.first ≡ length taken.first + 0 = omega arith in ap (slice_get (taken.first ++ taken.gone ∷ taken.last)) is)
      ∙ skipped taken.first (taken.gone ∷ taken.last) 0 in
      the_one.2 (length taken.first) taken.gone.key (key_get (entries_of db) (length taken.first) taken.gone at) taken.named

  has : HasMore the_one.0 (taken.gone.key ∷ []) (entries_of (remove_entry key db)) (entries_of db)
  has = record { first = taken.first; added = taken.gone ∷ []; last = taken.last; place = is_one; fewer_are = taken.fewer_are; more_are = taken.more_are; keys_are = refl }

  other : (n : ℕ) → past (length taken.first) 1 n ≢ the_one.0
  other n is = past_other (length taken.first) 0 n (is ∙ sym is_one)

  no_key : (n : ℕ) (entry : EntryTexts) → slice_get (entries_of (remove_entry key db)) n ≡ Some entry → same entry.key taken.gone.key ≡ false
  no_key n entry at = false_from_ne_true (same entry.key taken.gone.key) (λ is.
      other n (the_one.2 (past (length taken.first) 1 n) entry.key (key_get (entries_of db) (past (length taken.first) 1 n) entry (old_at n entry at))
      (named_too key taken.gone.key entry.key taken.named (same_comm taken.gone.key entry.key ∙ is))))

  no_crossref : (n : ℕ) (entry : EntryTexts) (text : Text) → slice_get (entries_of (remove_entry key db)) n ≡ Some entry → crossref_text entry ≡ Some text → same text taken.gone.key ≡ false
  no_crossref n entry text at says = false_from_ne_true (same text taken.gone.key) (λ is.
      let alike : folded text ≡ folded key = same-true text taken.gone.key is ∙ same-true taken.gone.key key (and_parts (not (is_empty taken.gone.key)) (same taken.gone.key key) taken.named).1 in
      accepted Referred (
        past (length taken.first) 1 n,
        the_one.0,
        the_one.1,
        ap (λ o. option_and_then (other_than (past (length taken.first) 1 n)) (option_and_then (target_of (entries_of db)) o)) (old_at n entry at)
            ∙ ap (λ o. option_and_then (other_than (past (length taken.first) 1 n)) (option_and_then (entry_named (entries_of db)) o)) says
            ∙ ap (option_and_then (other_than (past (length taken.first) 1 n))) (first_named_same text key (keys_of (entries_of db)) alike ∙ the_one.1)
            ∙ cond-false (the_one.0 == past (length taken.first) 1 n) None (Some the_one.0) (ne_eqb the_one.0 (past (length taken.first) 1 n) (λ same_. other n (sym same_))),
      ))

  pub remove_has : HasStrangers the_one.0 (taken.gone.key ∷ []) (entries_of (remove_entry key db)) (entries_of db)
  remove_has = (
    has,
    strangers the_one.0 (taken.gone.key ∷ []) (entries_of (remove_entry key db)) (entries_of db) has refl (record {
      keys = λ n entry at. ap (λ (b : Bool). b || false) (no_key n entry at);
      crossrefs = λ n entry text at says. ap (λ (b : Bool). b || false) (no_crossref n entry text at says);
    }),
  )
