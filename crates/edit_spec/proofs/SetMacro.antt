-- SetMacro: a definition with another value is one, and all entries that use neither the macro nor a dependent one say what they said.
use Rattle.edit_spec.proofs.Words.{◌≡◌, ℕ, zero, suc, Bool, true, false, List, ◌∷◌, ◌++◌, Option, Some, None, unwrap_or, option_map, option_and_then, slice_get, find, refl, sym, ◌∙◌, ap, ap₂, flat_map, list_any, option_map_or, count_by, append_assoc, cond-true, cond-false, cond_both, false≢true}
use Rattle.edit_spec.proofs.Words.{or_parts, ⊎_elim, cases_Bool, All-cons, All-head, All-tail, name_limit, Text, folded, same, Value, Definition, Tree, CommentTree, DefinitionTree, PreambleTree, EntryTree, value_bytes, close_byte, tree_bytes, is_comment, IsValue, IsTree, Item, item_bytes, Reading, bytes_of, IsItem, Reads, Macros, months}
use Rattle.edit_spec.proofs.Words.{raw_text, macros_in, macros_after, macros_at, gathered, EntryTexts, Record, RecordField, entry_in, preamble_in, entries_of, keys_of, first_named, crossref_text, other_than, parent, unvisited, ancestors, ancestors_from, fields_at, own_fields, missing, with_inherited, record_of, expanded, any_part, defines, from_first, with_first_tree}
use Rattle.edit_spec.proofs.Words.{count-no, SetMacro, NotFound, IsAccepted}
use Rattle.std.proofs.Common.{[]}
use Rattle.bib_spec.proofs.Names.{same_of, same-true}
use Rattle.bib_spec.specs.Bytes.{equals_sign}
use Rattle.bib_spec.specs.Texts.{bytes_before_value}
use Rattle.bib_spec.specs.Tree.{opening_bytes}
use Rattle.edit_spec.specs.Edits.{definition_to, set_macro}
use Rattle.edit_spec.specs.Laws.{is_use_of, with_dependent, dependents, entry_uses, is_user, preamble_uses, ReplacesValue, set_macro_keeps, set_macro_replaces_a_value}
use Rattle.edit_spec.proofs.Unrefuted.{given_values-are}
use Rattle.edit_spec.proofs.EditedItems.{made_reads, item_as, from_first-are}
use Rattle.edit_spec.proofs.AgreeingMacros.{IsNone, AgreeBut, none_of_with, none_of_all, unused_of_all, defined-agree, entry-alike, preamble-alike, after-apart}

-- ---- what is made reads

module _ (value : Value) where
  pub definition_to-is : IsValue name_limit value → (tree : Tree) → IsTree name_limit tree → IsTree name_limit (definition_to value tree)
  definition_to-is valued (DefinitionTree d) is = record {
    opening = is.opening;
    type_name = is.type_name;
    assignment = record {
      name = is.assignment.name;
      space_before_equals = is.assignment.space_before_equals;
      space_before_value = is.assignment.space_before_value;
      value = valued;
      space_after = is.assignment.space_after;
    };
  }
  definition_to-is valued (CommentTree c) is = is
  definition_to-is valued (PreambleTree p) is = is
  definition_to-is valued (EntryTree e) is = is

  pub comment-definition_to : (tree : Tree) → is_comment (definition_to value tree) ≡ is_comment tree
  comment-definition_to (CommentTree c) = refl
  comment-definition_to (DefinitionTree d) = refl
  comment-definition_to (PreambleTree p) = refl
  comment-definition_to (EntryTree e) = refl

pub set_macro-reads : (file : Text) (db : Reading) (name : Text) (value : Value) → Reads file db → IsValue name_limit value →
    Reads (bytes_of (set_macro name value db)) (set_macro name value db)
set_macro-reads file db name value reads valued =
    made_reads (set_macro name value db) reads.front
    (from_first-are (defines name) (IsItem name_limit) (with_first_tree (definition_to value))
    (λ item items defined are.
    let is = All-head (IsItem name_limit) item items are in
    All-cons (IsItem name_limit) (record item { tree = definition_to value item.tree }) items
    (item_as item (definition_to value item.tree) is (definition_to-is value valued item.tree is.tree) (comment-definition_to value item.tree))
    (All-tail (IsItem name_limit) item items are)) db.items reads.items)

pub macro_set-reads : (key_base : Record → Text) (file : Text) (db : Reading) (name : Text) (value : Value) → Reads file db → IsAccepted key_base db (SetMacro name value) →
    Reads (bytes_of (set_macro name value db)) (set_macro name value db)
macro_set-reads key_base file db name value reads accepted =
    set_macro-reads file db name value reads (All-head (IsValue name_limit) value [] (given_values-are key_base db (SetMacro name value) accepted))

-- ---- what entries say, given which of them use the names

-- each entry has its key, and all its texts if it uses none of the names
abbrev pub KeepTexts : List Bool → List EntryTexts → List EntryTexts → Type 0
KeepTexts [] [] [] = Unit {0}
KeepTexts [] [] (new ∷ news) = ⊥
KeepTexts [] (old ∷ olds) news = ⊥
KeepTexts (user ∷ users) [] news = ⊥
KeepTexts (user ∷ users) (old ∷ olds) [] = ⊥
KeepTexts (user ∷ users) (old ∷ olds) (new ∷ news) = (new.key ≡ old.key) × (user ≡ false → new ≡ old) × KeepTexts users olds news

pub keys-kept : (users : List Bool) (olds news : List EntryTexts) → KeepTexts users olds news → keys_of news ≡ keys_of olds
keys-kept [] [] [] h = refl
keys-kept [] [] (new ∷ news) h = absurd h
keys-kept [] (old ∷ olds) news h = absurd h
keys-kept (user ∷ users) [] news h = absurd h
keys-kept (user ∷ users) (old ∷ olds) [] h = absurd h
keys-kept (user ∷ users) (old ∷ olds) (new ∷ news) h = ap₂ ◌∷◌ h.0 (keys-kept users olds news h.2)

pub texts-kept : (users : List Bool) (olds news : List EntryTexts) → KeepTexts users olds news → (n : ℕ) → unwrap_or (slice_get users n) false ≡ false → slice_get news n ≡ slice_get olds n
texts-kept [] [] [] h n unused = refl
texts-kept [] [] (new ∷ news) h n unused = absurd h
texts-kept [] (old ∷ olds) news h n unused = absurd h
texts-kept (user ∷ users) [] news h n unused = absurd h
texts-kept (user ∷ users) (old ∷ olds) [] h n unused = absurd h
texts-kept (user ∷ users) (old ∷ olds) (new ∷ news) h zero unused = ap Some (h.1 unused)
texts-kept (user ∷ users) (old ∷ olds) (new ∷ news) h (suc n) unused = texts-kept users olds news h.2 n unused

module _ (value : Value) (names : List Text) (m n : Macros) (agree : AgreeBut names m n) (all : List Text)
    (fewer : (tree : Tree) → any_part (is_use_of all) tree ≡ false → any_part (is_use_of names) tree ≡ false)
  where
    -- an item more, whose definition may have got the value
    pub item-kept : (users : List Bool) (olds news : List EntryTexts) → KeepTexts users olds news → (tree : Tree) → KeepTexts (entry_uses all tree ++ users) (entry_in m tree ++ olds) (entry_in n tree ++ news)
    item-kept users olds news h (CommentTree c) = h
    item-kept users olds news h (DefinitionTree d) = h
    item-kept users olds news h (PreambleTree p) = h
    item-kept users olds news h (EntryTree e) = (refl, (λ unused. one (entry-alike names m n agree (EntryTree e) (fewer (EntryTree e) unused))), h)
      where
        one : {a b : EntryTexts} → a ∷ [] ≡ b ∷ [] → a ≡ b
        one e = cc

    pub set-kept : (users : List Bool) (olds news : List EntryTexts) → KeepTexts users olds news → (tree : Tree) →
        KeepTexts (entry_uses all tree ++ users) (entry_in m tree ++ olds) (entry_in n (definition_to value tree) ++ news)
    set-kept users olds news h (CommentTree c) = h
    set-kept users olds news h (DefinitionTree d) = h
    set-kept users olds news h (PreambleTree p) = h
    set-kept users olds news h (EntryTree e) = item-kept users olds news h (EntryTree e)

    pub preamble-kept : (tree : Tree) → preamble_uses all tree ≡ false → preamble_in n tree ≡ preamble_in m tree
    preamble-kept (CommentTree c) h = refl
    preamble-kept (DefinitionTree d) h = refl
    preamble-kept (PreambleTree p) h = preamble-alike names m n agree (PreambleTree p) (fewer (PreambleTree p) h)
    preamble-kept (EntryTree e) h = refl

    pub preamble-set : (tree : Tree) → preamble_uses all tree ≡ false → preamble_in n (definition_to value tree) ≡ preamble_in m tree
    preamble-set (CommentTree c) h = refl
    preamble-set (DefinitionTree d) h = refl
    preamble-set (PreambleTree p) h = preamble-kept (PreambleTree p) h
    preamble-set (EntryTree e) h = refl

-- ---- along the items

abbrev pub users_of : List Text → List Item → List Bool
users_of names items = flat_map (λ item. entry_uses names item.tree) items

module _ (name : Text) (value : Value) where
  -- the name is one of these
  abbrev pub HasName : List Text → Type 0
  HasName names = (x : Text) → IsNone names x → same x name ≡ false

  pub has_with : (names : List Text) → HasName names → (tree : Tree) → HasName (with_dependent names tree)
  has_with names has tree x none = has x (none_of_with names tree x none)

  -- after the definition, and after it with its new value
  pub after-set : (names : List Text) (m n : Macros) → AgreeBut names m n → HasName names → (tree : Tree) → defines name tree ≡ true → AgreeBut (with_dependent names tree) (macros_after m tree) (macros_after n (definition_to value tree))
  after-set names m n agree has (CommentTree c) e x none = absurd (false≢true e)
  after-set names m n agree has (PreambleTree p) e x none = absurd (false≢true e)
  after-set names m n agree has (EntryTree t) e x none = absurd (false≢true e)
  after-set names m n agree has (DefinitionTree d) e x none =
      defined-agree names m n d.assignment.name
      (Some (raw_text (macros_in m (DefinitionTree d)) d.assignment.value)) (Some (raw_text (macros_in n (DefinitionTree d)) value))
      (λ y other. same_of y d.assignment.name y name refl (same-true d.assignment.name name e) ∙ has y other) agree x (none_of_with names (DefinitionTree d) x none)

  abbrev set_items : List Item → List Item
  set_items items = from_first (defines name) (with_first_tree (definition_to value)) items

  abbrev set_item : Item → Item
  set_item item = record item { tree = definition_to value item.tree }

  -- the items after the definition
  pub entries_rest : (names : List Text) (m n : Macros) → AgreeBut names m n → (items : List Item) →
      KeepTexts (users_of (dependents names items) items) (gathered entry_in m items) (gathered entry_in n items)
  entries_rest names m n agree [] = tt
  entries_rest names m n agree (item ∷ items) =
      let names' = with_dependent names item.tree in
      item-kept value names m n agree (dependents names (item ∷ items)) (λ tree unused. unused_of_all names (item ∷ items) tree unused)
      (users_of (dependents names' items) items) (gathered entry_in (macros_after m item.tree) items) (gathered entry_in (macros_after n item.tree) items)
      (entries_rest names' (macros_after m item.tree) (macros_after n item.tree) (after-apart names m n agree item.tree) items) item.tree

  entries_set : (names : List Text) (m n : Macros) → AgreeBut names m n → HasName names → (items : List Item) →
      KeepTexts (users_of (dependents names items) items) (gathered entry_in m items) (gathered entry_in n (set_items items))
  entries_set names m n agree has [] = tt
  entries_set names m n agree has (item ∷ items) =
      let names' = with_dependent names item.tree in
      let all = dependents names (item ∷ items) in
      let fewer = λ (tree : Tree) (unused : any_part (is_use_of all) tree ≡ false). unused_of_all names (item ∷ items) tree unused in
      let P : List Item → Type 0 = λ new. KeepTexts (users_of all (item ∷ items)) (gathered entry_in m (item ∷ items)) (gathered entry_in n new) in
      cond_both (defines name item.tree) (set_item item ∷ items) (item ∷ set_items items) P
      (λ e. set-kept value names m n agree all fewer
      (users_of all items) (gathered entry_in (macros_after m item.tree) items) (gathered entry_in (macros_after n (definition_to value item.tree)) items)
      (entries_rest names' (macros_after m item.tree) (macros_after n (definition_to value item.tree)) (after-set names m n agree has item.tree e) items) item.tree)
      (λ e. item-kept value names m n agree all fewer
      (users_of all items) (gathered entry_in (macros_after m item.tree) items) (gathered entry_in (macros_after n item.tree) (set_items items))
      (entries_set names' (macros_after m item.tree) (macros_after n item.tree) (after-apart names m n agree item.tree) (has_with names has item.tree) items) item.tree)

  -- ---- preambles

  abbrev pub no_preamble : List Text → List Item → Bool
  no_preamble names items = list_any (λ item. preamble_uses names item.tree) items

  pub preambles_rest : (names : List Text) (m n : Macros) → AgreeBut names m n → (items : List Item) → no_preamble (dependents names items) items ≡ false →
      gathered preamble_in n items ≡ gathered preamble_in m items
  preambles_rest names m n agree [] h = refl
  preambles_rest names m n agree (item ∷ items) h =
      let names' = with_dependent names item.tree in
      let all = dependents names (item ∷ items) in
      let both = or_parts (preamble_uses all item.tree) (no_preamble all items) h in
      ap₂ ◌++◌ (preamble-kept value names m n agree all (λ tree unused. unused_of_all names (item ∷ items) tree unused) item.tree both.0)
      (preambles_rest names' (macros_after m item.tree) (macros_after n item.tree) (after-apart names m n agree item.tree) items both.1)

  preambles_set : (names : List Text) (m n : Macros) → AgreeBut names m n → HasName names → (items : List Item) → no_preamble (dependents names items) items ≡ false →
      gathered preamble_in n (set_items items) ≡ gathered preamble_in m items
  preambles_set names m n agree has [] h = refl
  preambles_set names m n agree has (item ∷ items) h =
      let names' = with_dependent names item.tree in
      let all = dependents names (item ∷ items) in
      let both = or_parts (preamble_uses all item.tree) (no_preamble all items) h in
      let fewer = λ (tree : Tree) (unused : any_part (is_use_of all) tree ≡ false). unused_of_all names (item ∷ items) tree unused in
      let P : List Item → Type 0 = λ new. gathered preamble_in n new ≡ gathered preamble_in m (item ∷ items) in
      cond_both (defines name item.tree) (set_item item ∷ items) (item ∷ set_items items) P
      (λ e. ap₂ ◌++◌ (preamble-set value names m n agree all fewer item.tree both.0)
      (preambles_rest names' (macros_after m item.tree) (macros_after n (definition_to value item.tree)) (after-set names m n agree has item.tree e) items both.1))
      (λ e. ap₂ ◌++◌ (preamble-kept value names m n agree all fewer item.tree both.0)
      (preambles_set names' (macros_after m item.tree) (macros_after n item.tree) (after-apart names m n agree item.tree) (has_with names has item.tree) items both.1))

  -- ---- what names stand for

  pub at_rest : (names : List Text) (m n : Macros) → AgreeBut names m n → (items : List Item) (k : ℕ) → AgreeBut (dependents names items) (macros_at m items k) (macros_at n items k)
  at_rest names m n agree items zero x none = agree x (none_of_all names items x none)
  at_rest names m n agree [] (suc k) x none = agree x none
  at_rest names m n agree (item ∷ items) (suc k) x none =
      at_rest (with_dependent names item.tree) (macros_after m item.tree) (macros_after n item.tree) (after-apart names m n agree item.tree) items k x none

  at_set : (names : List Text) (m n : Macros) → AgreeBut names m n → HasName names → (items : List Item) (k : ℕ) →
      AgreeBut (dependents names items) (macros_at m items k) (macros_at n (set_items items) k)
  at_set names m n agree has items zero x none = agree x (none_of_all names items x none)
  at_set names m n agree has [] (suc k) x none = agree x none
  at_set names m n agree has (item ∷ items) (suc k) x none =
      let names' = with_dependent names item.tree in
      let P : List Item → Type 0 = λ new. macros_at n new (suc k) (folded x) ≡ macros_at m (item ∷ items) (suc k) (folded x) in
      cond_both (defines name item.tree) (set_item item ∷ items) (item ∷ set_items items) P
      (λ e. at_rest names' (macros_after m item.tree) (macros_after n (definition_to value item.tree)) (after-set names m n agree has item.tree e) items k x none)
      (λ e. at_set names' (macros_after m item.tree) (macros_after n item.tree) (after-apart names m n agree item.tree) (has_with names has item.tree) items k x none)

  -- ---- the one value

  abbrev NotNone : List Item → Type 0
  NotNone items = count_by (λ item. defines name item.tree) items ≡ 0 → ⊥

  abbrev file : Text → List Item → Reading
  file front items = record { front = front; items = items }

  replaced_in : (front : Text) (item : Item) (items : List Item) → defines name item.tree ≡ true → ReplacesValue name value (file front (item ∷ items)) (file front (set_items (item ∷ items)))
  replaced_in front item items e = at_tree item.tree item refl e
    where
      regroup : (f o n x y v s c t r : Text) → f ++ (((o ++ (n ++ x ++ y ++ v ++ s) ++ c) ++ t) ++ r) ≡ (f ++ (o ++ (n ++ (x ++ y)))) ++ (v ++ (s ++ (c ++ (t ++ r))))
      regroup f o n x y v s c t r = simp append_assoc

      file_is : (d : Definition) (trail : Text) (v : Value) →
          front ++ ((tree_bytes (DefinitionTree (record d { assignment = record d.assignment { value = v } })) ++ trail) ++ flat_map item_bytes items)
          ≡ (front ++ (opening_bytes d.opening ++ bytes_before_value d.assignment)) ++ (value_bytes v ++ (d.assignment.space_after ++ ((close_byte d.opening.delimiter ∷ []) ++ (trail ++ flat_map item_bytes items))))
      file_is d trail v =
          regroup front (opening_bytes d.opening) d.assignment.name d.assignment.space_before_equals (equals_sign ∷ d.assignment.space_before_value) (value_bytes v) d.assignment.space_after
          (close_byte d.opening.delimiter ∷ []) trail (flat_map item_bytes items)

      at_tree : (tree : Tree) (it : Item) → it.tree ≡ tree → defines name it.tree ≡ true → ReplacesValue name value (file front (it ∷ items)) (file front (set_items (it ∷ items)))
      at_tree (CommentTree c) it is e = absurd (false≢true (sym (ap (defines name) is) ∙ e))
      at_tree (PreambleTree p) it is e = absurd (false≢true (sym (ap (defines name) is) ∙ e))
      at_tree (EntryTree t) it is e = absurd (false≢true (sym (ap (defines name) is) ∙ e))
      at_tree (DefinitionTree d) it is e = record {
        item = it;
        found = cond-true (defines name it.tree) (Some it) (find (λ item. defines name item.tree) items) e;
        definition = d;
        is = is;
        bytes_before = front ++ (opening_bytes d.opening ++ bytes_before_value d.assignment);
        bytes_after = d.assignment.space_after ++ ((close_byte d.opening.delimiter ∷ []) ++ (it.trail ++ flat_map item_bytes items));
        old_file = ap (λ tree. front ++ ((tree_bytes tree ++ it.trail) ++ flat_map item_bytes items)) is ∙ file_is d it.trail d.assignment.value;
        new_file = ap (λ new. bytes_of (file front new)) (cond-true (defines name it.tree) (set_item it ∷ items) (it ∷ set_items items) e)
            ∙ ap (λ tree. front ++ ((tree_bytes (definition_to value tree) ++ it.trail) ++ flat_map item_bytes items)) is ∙ file_is d it.trail value;
      }

  replaced : (front : Text) (items : List Item) → NotNone items → ReplacesValue name value (file front items) (file front (set_items items))
  replaced front [] some = absurd (some refl)
  replaced front (item ∷ items) some = ⊎_elim
      (λ e. replaced_in front item items e)
      (λ e.
      let rest = replaced (front ++ item_bytes item) items (λ none. some (count-no (λ item. defines name item.tree) item items e ∙ none)) in
      record {
        item = rest.item;
        found = cond-false (defines name item.tree) (Some item) (find (λ item. defines name item.tree) items) e ∙ rest.found;
        definition = rest.definition;
        is = rest.is;
        bytes_before = rest.bytes_before;
        bytes_after = rest.bytes_after;
        old_file = sym (append_assoc front (item_bytes item) (flat_map item_bytes items)) ∙ rest.old_file;
        new_file = ap (λ new. bytes_of (file front new)) (cond-false (defines name item.tree) (set_item item ∷ items) (item ∷ set_items items) e)
            ∙ sym (append_assoc front (item_bytes item) (flat_map item_bytes (set_items items))) ∙ rest.new_file;
      })
      (cases_Bool (defines name item.tree))

pub set-macro-replaces : set_macro_replaces_a_value
set-macro-replaces key_base db name value accepted = replaced name value db.front db.items (accepted NotFound)

-- ---- records of entries that use none of the names

module _ (user : ℕ → Bool) (entries new : List EntryTexts) (keys : keys_of new ≡ keys_of entries) (at : (n : ℕ) → user n ≡ false → slice_get new n ≡ slice_get entries n) where
  parent-same : (n : ℕ) → user n ≡ false → parent new n ≡ parent entries n
  parent-same n h = ap₂ (λ keys o. option_and_then (other_than n) (option_and_then (λ (entry : EntryTexts). option_and_then (λ t. first_named t keys) (crossref_text entry)) o)) keys (at n h)

  -- the rest of a chain of parents, from the next entry, if there is one
  abbrev chain : List EntryTexts → ℕ → List ℕ → Option ℕ → List ℕ
  chain entries depth visited o = option_map_or (λ m. m ∷ ancestors_from (parent entries) depth (m ∷ visited) m) o []

  chain-same : (depth : ℕ) (visited : List ℕ) →
      ((m : ℕ) → list_any user (m ∷ ancestors_from (parent entries) depth (m ∷ visited) m) ≡ false → ancestors_from (parent new) depth (m ∷ visited) m ≡ ancestors_from (parent entries) depth (m ∷ visited) m) →
      (o : Option ℕ) → list_any user (chain entries depth visited o) ≡ false → chain new depth visited o ≡ chain entries depth visited o
  chain-same depth visited rest None h = refl
  chain-same depth visited rest (Some m) h = ap (λ l. m ∷ l) (rest m h)

  ancestors-same : (depth : ℕ) (visited : List ℕ) (n : ℕ) → list_any user (n ∷ ancestors_from (parent entries) depth visited n) ≡ false →
      ancestors_from (parent new) depth visited n ≡ ancestors_from (parent entries) depth visited n
  ancestors-same zero visited n h = refl
  ancestors-same (suc depth) visited n h =
      let both = or_parts (user n) (list_any user (ancestors_from (parent entries) (suc depth) visited n)) h in
      ap (λ o. option_map_or (λ m. m ∷ ancestors_from (parent new) depth (m ∷ visited) m) (option_and_then (unvisited visited) o) []) (parent-same n both.0)
      ∙ chain-same depth visited (λ m rest. ancestors-same depth (m ∷ visited) m rest) (option_and_then (unvisited visited) (parent entries n)) both.1

  inherited-same : (own : List RecordField) (ns : List ℕ) → list_any user ns ≡ false → with_inherited new own ns ≡ with_inherited entries own ns
  inherited-same own [] h = refl
  inherited-same own (n ∷ ns) h =
      let both = or_parts (user n) (list_any user ns) h in
      ap (λ o. with_inherited new (own ++ missing own (option_map_or own_fields o [])) ns) (at n both.0) ∙ inherited-same (own ++ missing own (fields_at entries n)) ns both.1

  pub records-same : (depth n : ℕ) → list_any user (n ∷ ancestors entries depth n) ≡ false → expanded depth new n ≡ expanded depth entries n
  records-same depth n h =
      let both = or_parts (user n) (list_any user (ancestors entries depth n)) h in
      ap (option_map (record_of depth new n)) (at n both.0) ∙ each (slice_get entries n) both.1
    where
      each : (o : Option EntryTexts) → list_any user (ancestors entries depth n) ≡ false → option_map (record_of depth new n) o ≡ option_map (record_of depth entries n) o
      each None rest = refl
      each (Some entry) rest =
          ap (λ fields. let it : Record = record { kind_name = folded entry.kind; key = entry.key; fields = fields } in Some it)
          (ap (with_inherited new (own_fields entry)) (ancestors-same depth (n ∷ []) n h) ∙ inherited-same (own_fields entry) (ancestors entries depth n) rest)

-- ---- the law

pub set-macro-keeps : set_macro_keeps
set-macro-keeps key_base db name value accepted =
    let names = name ∷ [] in
    let has : HasName name value names = λ x none. (or_parts (same x name) false none).0 in
    let kept = entries_set name value names months months (λ _ _. refl) has db.items in
    let new = entries_of (set_macro name value db) in
    let users = users_of (dependents names db.items) db.items in
    let keys = keys-kept users (entries_of db) new kept in
    let texts = texts-kept users (entries_of db) new kept in
    record {
      keys = keys;
      texts = texts;
      records = λ depth n h. records-same (is_user (dependents names db.items) db) (entries_of db) new keys texts depth n h;
      preambles = λ h. preambles_set name value names months months (λ _ _. refl) has db.items h;
      macros = λ n other none. at_set name value names months months (λ _ _. refl) has db.items n other none;
    }
