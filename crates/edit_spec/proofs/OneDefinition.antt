-- What a change of one definition among several of a macro keeps.
use Rattle.edit_spec.proofs.Words.{◌≡◌, ◌≤◌, ◌+◌, ◌||◌, ℕ, zero, suc, Bool, true, false, not, cond, List, ◌∷◌, ◌++◌, Option, Some, None, option_map, slice_get, count_by, flat_map, list_any, bytes_eq, ⊎_elim, refl, sym, ◌∙◌, ap, ap₂, subst, arith, append_assoc, le_of_suc-le-suc, option_map_or, cases_Bool, cond-true, cond-false, false_from_ne_true}
use Rattle.edit_spec.proofs.Words.{false≢true, or_parts, or_from, none-some, same_Some, Text, folded, same, Part, Value, Definition, Tree, CommentTree, DefinitionTree, PreambleTree, EntryTree, value_bytes, close_byte, tree_bytes, Item, item_bytes, Reading, Macros, months, updated, parts_of, raw_text, macros_in, macros_after, macros_at, gathered, entry_in, preamble_in}
use Rattle.edit_spec.proofs.Words.{entries_of, uses, any_part, defines, NotFound, Referred, is_after, option_cases, count-no, count-yes, same-is}
use Rattle.std.proofs.Common.{[], ◌&&◌, if◌then◌else◌, drop}
use Rattle.bib_spec.proofs.Names.{same_of, same-true}
use Rattle.bib_spec.specs.Bytes.{equals_sign}
use Rattle.bib_spec.specs.Texts.{values_of, bytes_before_value}
use Rattle.bib_spec.specs.Tree.{opening_bytes}
use Rattle.edit_spec.specs.Edits.{SetsValue, Undefines, nth_of, definition_meant, with_tree_at, without_item, definition_changed, change_definition, definition_to, is_used_before_next, is_seen_from}
use Rattle.edit_spec.specs.Laws.{is_use_of, with_dependent, dependents, is_user, no_new_key, KeepsEntries, KeepsCitations, KeepsAllButUsers}
use Rattle.edit_spec.specs.OneLaws.{ReplacesValueOf, SeesWithout, set_one_definition_keeps, set_one_definition_replaces_a_value, undefine_one_keeps}
use Rattle.edit_spec.proofs.AgreeingMacros.{AgreeBut, never, none_too, unused_too, unused_of_all, value-alike, entry-alike, preamble-alike, after-alike, after-apart}
use Rattle.edit_spec.proofs.MacroLaws.{keeps_entries, keeps_citations}
use Rattle.edit_spec.proofs.SetMacro.{KeepTexts, keys-kept, texts-kept, item-kept, set-kept, preamble-kept, preamble-set, users_of, HasName, has_with, after-set, entries_rest, no_preamble, preambles_rest, at_rest, records-same}
use Rattle.edit_spec.proofs.MeantMembers.{nth_of-at}

-- ---- the definition that is meant

none_before : (o : Option ℕ) → option_map suc o ≡ None → o ≡ None
none_before None e = refl
none_before (Some n) e = absurd (none-some (suc n) (sym e))

-- if none is meant, there are not so many
few : {X : Type 0} (test : X → Bool) (k : ℕ) (xs : List X) → nth_of test k xs ≡ None → count_by test xs ≤ k
few test k [] e = omega arith
few test zero (x ∷ xs) e = ⊎_elim
    (λ t. absurd (none-some zero (sym e ∙ cond-true (test x) (Some zero) (option_map suc (nth_of test zero xs)) t)))
    (λ f.
    let rest = few test zero xs (none_before (nth_of test zero xs) (sym (cond-false (test x) (Some zero) (option_map suc (nth_of test zero xs)) f) ∙ e)) in
    let c = count-no test x xs f in
    omega (arith, c, rest))
    (cases_Bool (test x))
few test (suc k) (x ∷ xs) e = ⊎_elim
    (λ t.
    let rest = few test k xs (sym (ap (λ b. nth_of test (if b then k else suc k) xs) t) ∙ none_before (nth_of test (if test x then k else suc k) xs) e) in
    let c = count-yes test x xs t in
    omega (arith, c, rest))
    (λ f.
    let rest = few test (suc k) xs (sym (ap (λ b. nth_of test (if b then k else suc k) xs) f) ∙ none_before (nth_of test (if test x then k else suc k) xs) e) in
    let c = count-no test x xs f in
    omega (arith, c, rest))
    (cases_Bool (test x))

-- the definition that is meant: the number of its item, and the item
record IsDefinedIn (name : Text) (k : ℕ) (db : Reading) : Type 0 where
  n : ℕ
  found : definition_meant name k db.items ≡ Some n
  item : Item
  at : slice_get db.items n ≡ Some item
  is : defines name item.tree ≡ true

defined_in : (name : Text) (k : ℕ) (db : Reading) → (count_by (λ item. defines name item.tree) db.items ≤ k → ⊥) → IsDefinedIn name k db
defined_in name k db many = ⊎_elim
    (λ none. absurd (many (few (λ (item : Item). defines name item.tree) k db.items none)))
    (λ some.
    let it = nth_of-at (λ (item : Item). defines name item.tree) k db.items some.0 some.1 in
    record { n = some.0; found = some.1; item = it.0; at = it.1; is = it.2 })
    (option_cases (definition_meant name k db.items))

-- ---- another value

module _ (name : Text) (value : Value) where
  -- item `p` defines the macro
  abbrev DefinesAt : ℕ → List Item → Type 0
  DefinesAt p items = (item : Item) → slice_get items p ≡ Some item → defines name item.tree ≡ true

  abbrev set_at : ℕ → List Item → List Item
  set_at p items = with_tree_at p (definition_to value) items

  entries_set_at : (p : ℕ) (names : List Text) (m n : Macros) → AgreeBut names m n → HasName name value names → (items : List Item) → DefinesAt p items →
      KeepTexts (users_of (dependents names items) items) (gathered entry_in m items) (gathered entry_in n (set_at p items))
  entries_set_at p names m n agree has [] d = tt
  entries_set_at zero names m n agree has (item ∷ items) d =
      let names' = with_dependent names item.tree in
      let all = dependents names (item ∷ items) in
      set-kept value names m n agree all (λ tree unused. unused_of_all names (item ∷ items) tree unused)
      (users_of all items) (gathered entry_in (macros_after m item.tree) items) (gathered entry_in (macros_after n (definition_to value item.tree)) items)
      (entries_rest name value names' (macros_after m item.tree) (macros_after n (definition_to value item.tree)) (after-set name value names m n agree has item.tree (d item refl)) items) item.tree
  entries_set_at (suc p) names m n agree has (item ∷ items) d =
      let names' = with_dependent names item.tree in
      let all = dependents names (item ∷ items) in
      item-kept value names m n agree all (λ tree unused. unused_of_all names (item ∷ items) tree unused)
      (users_of all items) (gathered entry_in (macros_after m item.tree) items) (gathered entry_in (macros_after n item.tree) (set_at p items))
      (entries_set_at p names' (macros_after m item.tree) (macros_after n item.tree) (after-apart names m n agree item.tree) (has_with name value names has item.tree) items d) item.tree

  preambles_set_at : (p : ℕ) (names : List Text) (m n : Macros) → AgreeBut names m n → HasName name value names → (items : List Item) → DefinesAt p items →
      no_preamble name value (dependents names items) items ≡ false → gathered preamble_in n (set_at p items) ≡ gathered preamble_in m items
  preambles_set_at p names m n agree has [] d h = refl
  preambles_set_at zero names m n agree has (item ∷ items) d h =
      let names' = with_dependent names item.tree in
      let all = dependents names (item ∷ items) in
      let both = or_parts _ (no_preamble name value all items) h in
      ap₂ ◌++◌ (preamble-set value names m n agree all (λ tree unused. unused_of_all names (item ∷ items) tree unused) item.tree both.0)
      (preambles_rest name value names' (macros_after m item.tree) (macros_after n (definition_to value item.tree)) (after-set name value names m n agree has item.tree (d item refl)) items both.1)
  preambles_set_at (suc p) names m n agree has (item ∷ items) d h =
      let names' = with_dependent names item.tree in
      let all = dependents names (item ∷ items) in
      let both = or_parts _ (no_preamble name value all items) h in
      ap₂ ◌++◌ (preamble-kept value names m n agree all (λ tree unused. unused_of_all names (item ∷ items) tree unused) item.tree both.0)
      (preambles_set_at p names' (macros_after m item.tree) (macros_after n item.tree) (after-apart names m n agree item.tree) (has_with name value names has item.tree) items d both.1)

  macros_set_at : (p : ℕ) (names : List Text) (m n : Macros) → AgreeBut names m n → HasName name value names → (items : List Item) → DefinesAt p items → (k : ℕ) →
      AgreeBut (dependents names items) (macros_at m items k) (macros_at n (set_at p items) k)
  macros_set_at p names m n agree has [] d k x none = at_rest name value names m n agree [] k x none
  macros_set_at zero names m n agree has (item ∷ items) d zero x none = at_rest name value names m n agree (item ∷ items) zero x none
  macros_set_at (suc p) names m n agree has (item ∷ items) d zero x none = at_rest name value names m n agree (item ∷ items) zero x none
  macros_set_at zero names m n agree has (item ∷ items) d (suc k) x none =
      at_rest name value (with_dependent names item.tree) (macros_after m item.tree) (macros_after n (definition_to value item.tree)) (after-set name value names m n agree has item.tree (d item refl)) items k x none
  macros_set_at (suc p) names m n agree has (item ∷ items) d (suc k) x none =
      macros_set_at p (with_dependent names item.tree) (macros_after m item.tree) (macros_after n item.tree) (after-apart names m n agree item.tree) (has_with name value names has item.tree) items d k x none

  -- ---- the one value

  abbrev file : Text → List Item → Reading
  file front items = record { front = front; items = items }

  regroup : (f o n x y v s c t r : Text) → f ++ (((o ++ (n ++ x ++ y ++ v ++ s) ++ c) ++ t) ++ r) ≡ (f ++ (o ++ (n ++ (x ++ y)))) ++ (v ++ (s ++ (c ++ (t ++ r))))
  regroup f o n x y v s c t r = simp append_assoc

  file_is : (front : Text) (items : List Item) (d : Definition) (trail : Text) (v : Value) →
      front ++ ((tree_bytes (DefinitionTree (record d { assignment = record d.assignment { value = v } })) ++ trail) ++ flat_map item_bytes items)
      ≡ (front ++ (opening_bytes d.opening ++ bytes_before_value d.assignment)) ++ (value_bytes v ++ (d.assignment.space_after ++ ((close_byte d.opening.delimiter ∷ []) ++ (trail ++ flat_map item_bytes items))))
  file_is front items d trail v =
      regroup front (opening_bytes d.opening) d.assignment.name d.assignment.space_before_equals (equals_sign ∷ d.assignment.space_before_value) (value_bytes v) d.assignment.space_after
      (close_byte d.opening.delimiter ∷ []) trail (flat_map item_bytes items)

  replaced_first : (front : Text) (items : List Item) (it : Item) (tree : Tree) → it.tree ≡ tree → defines name tree ≡ true → ReplacesValueOf zero value (file front (it ∷ items)) (file front (set_at zero (it ∷ items)))
  replaced_first front items it (CommentTree c) is e = absurd (false≢true e)
  replaced_first front items it (PreambleTree p) is e = absurd (false≢true e)
  replaced_first front items it (EntryTree t) is e = absurd (false≢true e)
  replaced_first front items it (DefinitionTree d) is e = record {
    item = it;
    at = refl;
    definition = d;
    is = is;
    bytes_before = front ++ (opening_bytes d.opening ++ bytes_before_value d.assignment);
    bytes_after = d.assignment.space_after ++ ((close_byte d.opening.delimiter ∷ []) ++ (it.trail ++ flat_map item_bytes items));
    old_file = ap (λ tree. front ++ ((tree_bytes tree ++ it.trail) ++ flat_map item_bytes items)) is ∙ file_is front items d it.trail d.assignment.value;
    new_file = ap (λ tree. front ++ ((tree_bytes (definition_to value tree) ++ it.trail) ++ flat_map item_bytes items)) is ∙ file_is front items d it.trail value;
  }

  replaced_at : (front : Text) (p : ℕ) (items : List Item) (item : Item) → slice_get items p ≡ Some item → defines name item.tree ≡ true → ReplacesValueOf p value (file front items) (file front (set_at p items))
  replaced_at front p [] item at e = absurd (none-some item at)
  replaced_at front zero (first ∷ items) item at e = replaced_first front items first first.tree refl (ap (λ (i : Item). defines name i.tree) (same_Some first item at) ∙ e)
  replaced_at front (suc p) (first ∷ items) item at e =
      let rest = replaced_at (front ++ item_bytes first) p items item at e in
      record {
        item = rest.item;
        at = rest.at;
        definition = rest.definition;
        is = rest.is;
        bytes_before = rest.bytes_before;
        bytes_after = rest.bytes_after;
        old_file = sym (append_assoc front (item_bytes first) (flat_map item_bytes items)) ∙ rest.old_file;
        new_file = sym (append_assoc front (item_bytes first) (flat_map item_bytes (set_at p items))) ∙ rest.new_file;
      }

pub set-one-definition-keeps : set_one_definition_keeps
set-one-definition-keeps key_base db name k value accepted =
    let it = defined_in name k db (accepted NotFound) in
    let names = name ∷ [] in
    let has : HasName name value names = λ x none. (or_parts (same x name) false none).0 in
    let d : DefinesAt name value it.n db.items = λ other at. ap (λ (i : Item). defines name i.tree) (same_Some other it.item (sym at ∙ it.at)) ∙ it.is in
    let made : Reading = record db { items = with_tree_at it.n (definition_to value) db.items } in
    let kept = entries_set_at name value it.n names months months (λ _ _. refl) has db.items d in
    let users = users_of (dependents names db.items) db.items in
    let keys = keys-kept users (entries_of db) (entries_of made) kept in
    let texts = texts-kept users (entries_of db) (entries_of made) kept in
    let is : change_definition name k (SetsValue value) db ≡ made = ap (λ o. option_map_or (λ n. definition_changed (SetsValue value) n db) o db) it.found in
    subst (KeepsAllButUsers (dependents names db.items) db) (sym is) (record {
      keys = keys;
      texts = texts;
      records = λ depth n h. records-same (is_user (dependents names db.items) db) (entries_of db) (entries_of made) keys texts depth n h;
      preambles = λ h. preambles_set_at name value it.n names months months (λ _ _. refl) has db.items d h;
      macros = λ n other none. macros_set_at name value it.n names months months (λ _ _. refl) has db.items d n other none;
    })

pub set-one-definition-replaces : set_one_definition_replaces_a_value
set-one-definition-replaces key_base db name k value accepted =
    let it = defined_in name k db (accepted NotFound) in
    let is : change_definition name k (SetsValue value) db ≡ record db { items = with_tree_at it.n (definition_to value) db.items } =
    ap (λ o. option_map_or (λ n. definition_changed (SetsValue value) n db) o db) it.found in
    (it.n, it.found, subst (ReplacesValueOf it.n value db) (sym is) (replaced_at name value db.front it.n db.items it.item it.at it.is))

-- ---- no definition

-- no item uses a name of none
no_parts : (parts : List Part) → list_any (is_use_of []) parts ≡ false
no_parts parts = none_too (is_use_of []) (λ _. false) (λ part none. refl) parts (never parts)

none_used : (tree : Tree) → any_part (is_use_of []) tree ≡ false
none_used tree = none_too (λ v. list_any (is_use_of []) (parts_of v)) (λ _. false) (λ v none. no_parts (parts_of v)) (values_of tree) (never (values_of tree))

-- tables that agree on all names do so after each item
all_after : (m n : Macros) → AgreeBut [] m n → (tree : Tree) → AgreeBut [] (macros_after m tree) (macros_after n tree)
all_after m n agree tree = after-alike [] m n agree tree (none_used tree)

all_at : (m n : Macros) → AgreeBut [] m n → (items : List Item) (k : ℕ) → AgreeBut [] (macros_at m items k) (macros_at n items k)
all_at m n agree items zero = agree
all_at m n agree [] (suc k) = agree
all_at m n agree (item ∷ items) (suc k) = all_at (macros_after m item.tree) (macros_after n item.tree) (all_after m n agree item.tree) items k

module _ (name : Text) where
  abbrev its : List Text
  its = name ∷ []

  part_unused : (part : Part) → uses name part ≡ false → is_use_of its part ≡ false
  part_unused part h = or_from (uses name part) false h refl

  tree_unused : (tree : Tree) → any_part (uses name) tree ≡ false → any_part (is_use_of its) tree ≡ false
  tree_unused tree h = unused_too (is_use_of its) (uses name) part_unused tree h

  -- what is said before the next definition, and that it is no use
  upto : (tree : Tree) (items : List Item) → defines name tree ≡ false → (not (defines name tree) && (any_part (uses name) tree || is_used_before_next name items)) ≡ false →
      (any_part (uses name) tree ≡ false) × (is_used_before_next name items ≡ false)
  upto tree items f h = or_parts (any_part (uses name) tree) (is_used_before_next name items) (sym (ap (λ b. not b && (any_part (uses name) tree || is_used_before_next name items)) f) ∙ h)

  -- another name than that of the definition
  differs : (defined x : Text) → same defined name ≡ true → same x name ≡ false → bytes_eq (folded x) (folded defined) ≡ false
  differs defined x e h = sym (same-is x defined) ∙ same_of x defined x name refl (same-true defined name e) ∙ h

  -- tables that agree on all other names agree on all, once the name stands for the same
  updated-all : (m n : Macros) → AgreeBut its m n → (defined : Text) (o : Option Text) → same defined name ≡ true → AgreeBut [] (updated m defined o) (updated n defined o)
  updated-all m n agree defined o e x none = ⊎_elim
      (λ t. cond-true (bytes_eq (folded x) (folded defined)) o (n (folded x)) t ∙ sym (cond-true (bytes_eq (folded x) (folded defined)) o (m (folded x)) t))
      (λ f.
      let other : same x name ≡ false = sym (same_of x defined x name refl (same-true defined name e)) ∙ same-is x defined ∙ f in
      ap (λ v. cond (bytes_eq (folded x) (folded defined)) o v) (agree x (or_from (same x name) false other refl)))
      (cases_Bool (bytes_eq (folded x) (folded defined)))

  -- the next definition says the same under both
  all_from : (m n : Macros) → AgreeBut its m n → (tree : Tree) → defines name tree ≡ true → AgreeBut [] (macros_after m tree) (macros_after n tree)
  all_from m n agree (CommentTree c) e x none = absurd (false≢true e)
  all_from m n agree (PreambleTree p) e x none = absurd (false≢true e)
  all_from m n agree (EntryTree t) e x none = absurd (false≢true e)
  all_from m n agree (DefinitionTree d) e x none =
      let said = value-alike [] (macros_in m (DefinitionTree d)) (macros_in n (DefinitionTree d)) (updated-all m n agree d.assignment.name None e) d.assignment.value (no_parts (parts_of d.assignment.value)) in
      ap (λ t. cond (bytes_eq (folded x) (folded d.assignment.name)) (Some t) (n (folded x))) said
      ∙ updated-all m n agree d.assignment.name (Some (raw_text (macros_in m (DefinitionTree d)) d.assignment.value)) e x none

  -- with the definition and without it
  begins : (m : Macros) (tree : Tree) → defines name tree ≡ true → AgreeBut its (macros_after m tree) m
  begins m (CommentTree c) e x none = absurd (false≢true e)
  begins m (PreambleTree p) e x none = absurd (false≢true e)
  begins m (EntryTree t) e x none = absurd (false≢true e)
  begins m (DefinitionTree d) e x none =
      sym (cond-false (bytes_eq (folded x) (folded d.assignment.name)) (Some (raw_text (macros_in m (DefinitionTree d)) d.assignment.value)) (m (folded x))
      (differs d.assignment.name x e (or_parts (same x name) false none).0))

  -- ---- what is gathered

  module _ {X : Type 0} (say : Macros → Tree → List X)
      (says : (names : List Text) (m n : Macros) → AgreeBut names m n → (tree : Tree) → any_part (is_use_of names) tree ≡ false → say n tree ≡ say m tree)
      (quiet : (m : Macros) (tree : Tree) → defines name tree ≡ true → say m tree ≡ [])
    where
      gathered_all : (m n : Macros) → AgreeBut [] m n → (items : List Item) → gathered say n items ≡ gathered say m items
      gathered_all m n agree [] = refl
      gathered_all m n agree (item ∷ items) =
          ap₂ ◌++◌ (says [] m n agree item.tree (none_used item.tree)) (gathered_all (macros_after m item.tree) (macros_after n item.tree) (all_after m n agree item.tree) items)

      gathered_upto : (m n : Macros) → AgreeBut its m n → (items : List Item) → is_used_before_next name items ≡ false → gathered say n items ≡ gathered say m items
      gathered_upto m n agree [] h = refl
      gathered_upto m n agree (item ∷ items) h = ⊎_elim
          (λ t. ap₂ ◌++◌ (quiet n item.tree t ∙ sym (quiet m item.tree t)) (gathered_all (macros_after m item.tree) (macros_after n item.tree) (all_from m n agree item.tree t) items))
          (λ f.
          let both = upto item.tree items f h in
          let unused = tree_unused item.tree both.0 in
          ap₂ ◌++◌ (says its m n agree item.tree unused) (gathered_upto (macros_after m item.tree) (macros_after n item.tree) (after-alike its m n agree item.tree unused) items both.1))
          (cases_Bool (defines name item.tree))

      gathered_out : (m : Macros) (p : ℕ) (front : Text) (items : List Item) (item : Item) → slice_get items p ≡ Some item → defines name item.tree ≡ true →
          is_used_before_next name (drop (suc p) items) ≡ false → gathered say m (without_item p front items).items ≡ gathered say m items
      gathered_out m p front [] item at e h = absurd (none-some item at)
      gathered_out m zero front (first ∷ items) item at e h =
          let defined = ap (λ (i : Item). defines name i.tree) (same_Some first item at) ∙ e in
          gathered_upto (macros_after m first.tree) m (begins m first.tree defined) items h
          ∙ sym (ap (λ l. l ++ gathered say (macros_after m first.tree) items) (quiet m first.tree defined))
      gathered_out m (suc p) front (first ∷ items) item at e h = ap (λ l. say m first.tree ++ l) (gathered_out (macros_after m first.tree) p first.trail items item at e h)

  no_entry : (m : Macros) (tree : Tree) → defines name tree ≡ true → entry_in m tree ≡ []
  no_entry m (DefinitionTree d) e = refl
  no_entry m (CommentTree c) e = refl
  no_entry m (PreambleTree p) e = refl
  no_entry m (EntryTree t) e = absurd (false≢true e)

  no_preamble_there : (m : Macros) (tree : Tree) → defines name tree ≡ true → preamble_in m tree ≡ []
  no_preamble_there m (DefinitionTree d) e = refl
  no_preamble_there m (CommentTree c) e = refl
  no_preamble_there m (EntryTree t) e = refl
  no_preamble_there m (PreambleTree p) e = absurd (false≢true e)

  -- ---- what names stand for

  at_upto : (m n : Macros) → AgreeBut its m n → (items : List Item) → is_used_before_next name items ≡ false → (k : ℕ) → AgreeBut its (macros_at m items k) (macros_at n items k)
  at_upto m n agree items h zero x none = agree x none
  at_upto m n agree [] h (suc k) x none = agree x none
  at_upto m n agree (item ∷ items) h (suc k) x none = ⊎_elim
      (λ t. all_at (macros_after m item.tree) (macros_after n item.tree) (all_from m n agree item.tree t) items k x refl)
      (λ f.
      let both = upto item.tree items f h in
      at_upto (macros_after m item.tree) (macros_after n item.tree) (after-alike its m n agree item.tree (tree_unused item.tree both.0)) items both.1 k x none)
      (cases_Bool (defines name item.tree))

  at_again : (m n : Macros) → AgreeBut its m n → (items : List Item) → is_used_before_next name items ≡ false → (k : ℕ) → is_after name items k ≡ true →
      macros_at n items k (folded name) ≡ macros_at m items k (folded name)
  at_again m n agree items h zero e = absurd (false≢true e)
  at_again m n agree [] h (suc k) e = absurd (false≢true e)
  at_again m n agree (item ∷ items) h (suc k) e = ⊎_elim
      (λ t. all_at (macros_after m item.tree) (macros_after n item.tree) (all_from m n agree item.tree t) items k name refl)
      (λ f.
      let both = upto item.tree items f h in
      at_again (macros_after m item.tree) (macros_after n item.tree) (after-alike its m n agree item.tree (tree_unused item.tree both.0)) items both.1 k
      (sym (ap (λ b. b || is_after name items k) f) ∙ e))
      (cases_Bool (defines name item.tree))

  before_out : (m : Macros) (p : ℕ) (front : Text) (items : List Item) (k : ℕ) → k ≤ p → macros_at m (without_item p front items).items k ≡ macros_at m items k
  before_out m p front items zero low = refl
  before_out m p front [] (suc k) low = refl
  before_out m zero front (first ∷ items) (suc k) low = absurd (omega (arith, low))
  before_out m (suc p) front (first ∷ items) (suc k) low = before_out (macros_after m first.tree) p first.trail items k (le_of_suc-le-suc low)

  after_out : (m : Macros) (p : ℕ) (front : Text) (items : List Item) (item : Item) → slice_get items p ≡ Some item → defines name item.tree ≡ true →
      is_used_before_next name (drop (suc p) items) ≡ false → (k : ℕ) → p ≤ k → AgreeBut its (macros_at m items (suc k)) (macros_at m (without_item p front items).items k)
  after_out m p front [] item at e h k low = absurd (none-some item at)
  after_out m zero front (first ∷ items) item at e h k low =
      at_upto (macros_after m first.tree) m (begins m first.tree (ap (λ (i : Item). defines name i.tree) (same_Some first item at) ∙ e)) items h k
  after_out m (suc p) front (first ∷ items) item at e h zero low = absurd (omega (arith, low))
  after_out m (suc p) front (first ∷ items) item at e h (suc k) low = after_out (macros_after m first.tree) p first.trail items item at e h k (le_of_suc-le-suc low)

  again_out : (m : Macros) (p : ℕ) (front : Text) (items : List Item) (item : Item) → slice_get items p ≡ Some item → defines name item.tree ≡ true →
      is_used_before_next name (drop (suc p) items) ≡ false → (i : ℕ) → is_after name (drop (suc p) items) i ≡ true → (k : ℕ) → k ≡ p + i →
      macros_at m (without_item p front items).items k (folded name) ≡ macros_at m items (suc k) (folded name)
  again_out m p front [] item at e h i again k is = absurd (none-some item at)
  again_out m zero front (first ∷ items) item at e h i again k is =
      let here : k ≡ i = omega (arith, is) in
      subst (λ (j : ℕ). macros_at m items j (folded name) ≡ macros_at (macros_after m first.tree) items j (folded name)) (sym here)
      (at_again (macros_after m first.tree) m (begins m first.tree (ap (λ (i : Item). defines name i.tree) (same_Some first item at) ∙ e)) items h i again)
  again_out m (suc p) front (first ∷ items) item at e h i again zero is = absurd (omega (arith, is))
  again_out m (suc p) front (first ∷ items) item at e h i again (suc k) is = again_out (macros_after m first.tree) p first.trail items item at e h i again k (omega (arith, is))

pub undefine-one-keeps : undefine_one_keeps
undefine-one-keeps key_base db name k accepted =
    let it = defined_in name k db (accepted NotFound) in
    let new : Reading = without_item it.n db.front db.items in
    let is : change_definition name k Undefines db ≡ new = ap (λ o. option_map_or (λ n. definition_changed Undefines n db) o db) it.found in
    let unseen : is_used_before_next name (drop (suc it.n) db.items) ≡ false =
    sym (ap (λ o. option_map_or (λ n. is_seen_from name n db.items) o false) it.found)
    ∙ false_from_ne_true (option_map_or (λ n. is_seen_from name n db.items) (definition_meant name k db.items) false) (accepted Referred) in
    let entries = gathered_out name entry_in entry-alike (no_entry name) months it.n db.front db.items it.item it.at it.is unseen in
    let preambles = gathered_out name preamble_in preamble-alike (no_preamble_there name) months it.n db.front db.items it.item it.at it.is unseen in (
      it.n,
      it.found,
      subst (λ (made : Reading). KeepsEntries no_new_key db made × KeepsCitations db made × SeesWithout name it.n db made) (sym is) (
        keeps_entries db new entries preambles,
        keeps_citations db new entries,
        record {
          before = λ i other low. ap (λ m. m (folded other)) (before_out name months it.n db.front db.items i low);
          after = λ i other low p. after_out name months it.n db.front db.items it.item it.at it.is unseen i low other (or_from (same other name) false p refl);
          again = λ i after. again_out name months it.n db.front db.items it.item it.at it.is unseen i after (it.n + i) refl;
        },
      ),
    )
