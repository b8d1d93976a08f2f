-- Items that each replace one of their kind: what the tables say then.
use Rattle.bib_store.proofs.Words.{◌≡◌, ℕ, zero, suc, ◌+◌, ◌<◌, ◌≤◌, Bool, true, false, List, [], ◌∷◌, ◌++◌, length, map, take, drop, Option, Some, None, refl, sym, ◌∙◌, ap, ap₂, subst, arith, append_assoc, length-append, none-some, same_Some, slice_get_within, drop_all, All-append, All-take}
use Rattle.bib_store.proofs.Words.{All-drop, name_limit, Text, Tree, Entry, CommentTree, DefinitionTree, PreambleTree, EntryTree, IsTree, tree_bytes, IsItem, Macros, months, macros_after, macros_at, gathered, raw_texts_from, EntryTexts, texts_of, entry_in, keys_of, crossref_text, View, view_of}
use Rattle.bib_store.proofs.Words.{key_of, kind_of, tree_unique, IsTableOf, texts_at, is_definition_tree, defined_by, definitions_in, AreDefinitionsOf, definitions_alike, macros_in_front, gathered-append, Bounds, Tables, AreTablesOf, OfView, item_with, IsSettled, Admits, AreItemsOf, TakePlaces}
use Rattle.bib_store.proofs.Words.{with_bounds, first_too_long, placed_texts, is_entry_tree, is_preamble_tree}
use Rattle.std.proofs.Common.{slice_get, take_all, length-take-le, All}
use Rattle.bib_spec.specs.Reading.{Item}
use Rattle.bib_scan.specs.declared.view.Kind.TheVariants as kind
use Rattle.bib_store.specs.TablesOf.{AreSeen, TakesPlace}
use Rattle.bib_store.specs.Bounds.{IsSettledEntry}
use Rattle.bib_store.specs.InPlace.{HaveOneKey}
use Rattle.bib_store.proofs.Placed.{placed_tables, numbers_same, macros_same, still_fits}
use Rattle.bib_store.proofs.Appended.{trees, trees_between, tables_alike, fit_alike}
use Rattle.bib_store.proofs.BoundedItems.{bounded_with, bounded_without, settled_preamble, settled_comment}
use Rattle.bib_store.proofs.EntryItems.{entry_tree}
use Rattle.bib_store.proofs.Followed.{IsNext, next_of, counted_items}
use Rattle.bib_store.proofs.KeptItems.{item_in}
use Rattle.bib_store.proofs.KeptRuns.{good_first, good_last}
use Rattle.bib_store.proofs.RowTexts.{cons_parts}
use Rattle.bib_store.proofs.TableSteps.{other_kind}

-- ---- the same bytes

-- what macros stand for before item n
seen_by : (n : ℕ) (before rest : List Item) (t : Tables) → length before ≡ n → AreDefinitionsOf (before ++ rest) t.definitions → texts_at t.definitions n ≡ macros_at months before (length before)
seen_by n before rest t count are =
    let low : n ≤ length before = omega (arith, count) in
    are.texts n ∙ macros_in_front months before rest n low ∙ ap (macros_at months before) (sym count)

-- an item with the same bytes is the same except for its trail
pub same_in_place : (n : ℕ) (old new : View) (t : Tables) → old.body ≡ new.body → TakesPlace n old new t t
same_in_place n old new t same = record {
  tables = λ before after x y seen are. tables_alike (before ++ x ∷ after) (before ++ y ∷ after) t (same_trees before after x y seen) are;
  texts = λ before after x y seen are good fits. fit_alike 0 0 months (before ++ x ∷ after) (before ++ y ∷ after) (same_trees before after x y seen) fits;
}
  where
    same_trees : (before after : List Item) (x y : Item) → AreSeen n old new before x y → trees (before ++ x ∷ after) ≡ trees (before ++ y ∷ after)
    same_trees before after x y seen =
        let bytes : tree_bytes x.tree ≡ tree_bytes y.tree = sym (ap (λ (v : View). v.body) seen.old_seen) ∙ same ∙ ap (λ (v : View). v.body) seen.new_seen in
        let one = tree_unique name_limit x.tree y.tree [] [] seen.old_tree seen.new_tree (λ c. refl) (λ c. refl) (ap (λ (b : Text). b ++ []) bytes) in
        trees_between before (x ∷ []) (y ∷ []) after (ap (λ (tree : Tree). tree ∷ []) one.0)

-- ---- an entry

module _ (n : ℕ) (old new : View) (t : Tables) (bounds : Bounds) (was said : Option Text) (settled : Bool)
    (one : (i j : Item) → old ≡ view_of i → new ≡ view_of j → HaveOneKey i.tree j.tree)
    (old_says : (i : Item) → IsTree name_limit i.tree → is_entry_tree i.tree ≡ true → old ≡ view_of i → map crossref_text (entry_in (texts_at t.definitions n) i.tree) ≡ was ∷ [])
    (new_says : (i : Item) → IsTree name_limit i.tree → is_entry_tree i.tree ≡ true → new ≡ view_of i → map crossref_text (entry_in (texts_at t.definitions n) i.tree) ≡ said ∷ [])
    (is_settled : settled ≡ true → IsSettledEntry new said)
    (short : (i : Item) → IsTree name_limit i.tree → is_entry_tree i.tree ≡ true → new ≡ view_of i → first_too_long (placed_texts (texts_at t.definitions n) i.tree) ≡ None)
    (same : was ≡ said) (admits : Admits (length new.body) settled t.bounds bounds) where
  module _ (before after : List Item) (x y : Item) (seen : AreSeen n old new before x y) (are : AreTablesOf (before ++ x ∷ after) t) where
    abbrev seen_here : Macros
    seen_here = texts_at t.definitions n

    both : HaveOneKey x.tree y.tree
    both = one (item_with x.tree []) (item_with y.tree []) seen.old_seen seen.new_seen

    old_entry : (e : Entry) × (x.tree ≡ EntryTree e)
    old_entry = entry_tree x.tree both.old_is

    new_entry : (e : Entry) × (y.tree ≡ EntryTree e)
    new_entry = entry_tree y.tree both.new_is

    told : map crossref_text (entry_in seen_here y.tree) ≡ said ∷ []
    told = new_says (item_with y.tree []) seen.new_tree both.new_is seen.new_seen

    -- the one crossref of an entry
    crossref_told : (tree : Tree) (e : Entry) (text : Option Text) → tree ≡ EntryTree e → map crossref_text (entry_in seen_here tree) ≡ text ∷ [] → crossref_text (texts_of seen_here e) ≡ text
    crossref_told tree e text is says =
        (cons_parts (crossref_text (texts_of seen_here e)) text [] [] (ap (λ (u : Tree). map crossref_text (entry_in seen_here u)) (sym is) ∙ says)).0

    sees : seen_here ≡ macros_at months before (length before)
    sees = let count = seen.count in seen_by n before (x ∷ after) t count are.definitions

    entry_tables : AreTablesOf (before ++ y ∷ after) (with_bounds bounds t)
    entry_tables =
        let e = old_entry.0 in
        let f = new_entry.0 in
        let says : crossref_text (texts_of seen_here e) ≡ crossref_text (texts_of seen_here f)
        = crossref_told x.tree e was old_entry.1 (old_says (item_with x.tree []) seen.old_tree both.old_is seen.old_seen) ∙ same ∙ sym (crossref_told y.tree f said new_entry.1 told) in
        placed_tables before after x y e f old_entry.1 new_entry.1 t bounds (sym (ap key_of old_entry.1) ∙ both.key ∙ ap key_of new_entry.1)
        (subst (λ (m : Macros). crossref_text (texts_of m e) ≡ crossref_text (texts_of m f)) sees says) are admits.all
        (admits.one y.tree (sym (ap (λ (v : View). length v.body) seen.new_seen)) (λ s. is_settled s seen_here (item_with y.tree []) seen.new_tree both.new_is seen.new_seen told))

    entry_fits : first_too_long (raw_texts_from 0 months (before ++ x ∷ after)) ≡ None → first_too_long (raw_texts_from 0 months (before ++ y ∷ after)) ≡ None
    entry_fits fits =
        still_fits before after x y (λ m. ap (macros_after m) old_entry.1 ∙ sym (ap (macros_after m) new_entry.1)) 0 0 fits
        (ap (λ (m : Macros). first_too_long (placed_texts m y.tree)) (sym sees) ∙ short (item_with y.tree []) seen.new_tree both.new_is seen.new_seen)

  pub entry_in_place : TakesPlace n old new t (with_bounds bounds t)
  entry_in_place = record {
    tables = λ before after x y seen are. entry_tables before after x y seen are;
    texts = λ before after x y seen are good fits. entry_fits before after x y seen are fits;
  }

-- ---- a preamble or a comment

-- an item that is no entry and no definition
record IsOther (tree : Tree) : Type 0 where
  entry : is_entry_tree tree ≡ false
  definition : is_definition_tree tree ≡ false
  told : (m : Macros) → entry_in m tree ≡ []
  defined : (m : Macros) → defined_by m tree ≡ []
  after : (m : Macros) → macros_after m tree ≡ m
  settled : IsSettled tree

-- it is seen as a preamble
seen_preamble : (v : View) (tree : Tree) → v.kind ≡ kind.Preamble → v ≡ view_of (item_with tree []) → IsOther tree × (is_preamble_tree tree ≡ true)
seen_preamble v (PreambleTree p) is seen = (record { entry = refl; definition = refl; told = λ m. refl; defined = λ m. refl; after = λ m. refl; settled = settled_preamble p }, refl)
seen_preamble v (DefinitionTree d) is seen = other_kind kind.Macro kind.Preamble (sym (sym is ∙ ap (λ (w : View). w.kind) seen)) (omega arith)
seen_preamble v (EntryTree e) is seen = other_kind kind.Entry kind.Preamble (sym (sym is ∙ ap (λ (w : View). w.kind) seen)) (omega arith)
seen_preamble v (CommentTree h) is seen = other_kind kind.Preamble kind.Comment (sym is ∙ ap (λ (w : View). w.kind) seen) (omega arith)

-- it is seen as a comment
seen_comment : (v : View) (tree : Tree) → v.kind ≡ kind.Comment → v ≡ view_of (item_with tree []) → IsOther tree × (is_preamble_tree tree ≡ false)
seen_comment v (CommentTree h) is seen = (record { entry = refl; definition = refl; told = λ m. refl; defined = λ m. refl; after = λ m. refl; settled = settled_comment h }, refl)
seen_comment v (DefinitionTree d) is seen = other_kind kind.Macro kind.Comment (sym (sym is ∙ ap (λ (w : View). w.kind) seen)) (omega arith)
seen_comment v (EntryTree e) is seen = other_kind kind.Entry kind.Comment (sym (sym is ∙ ap (λ (w : View). w.kind) seen)) (omega arith)
seen_comment v (PreambleTree p) is seen = other_kind kind.Preamble kind.Comment (sym (sym is ∙ ap (λ (w : View). w.kind) seen)) (omega arith)

-- nothing is told of it
passed : {X : Type 0} (say : Macros → Tree → List X) (before after : List Item) (x : Item) → ((m : Macros) → say m x.tree ≡ []) → ((m : Macros) → macros_after m x.tree ≡ m)
    → gathered say months (before ++ x ∷ after) ≡ gathered say months before ++ gathered say (macros_at months before (length before)) after
passed {X} say before after x none stays =
    let here = macros_at months before (length before) in
    gathered-append say months before (x ∷ after)
    ∙ ap₂ (λ (told : List X) (macros : Macros). gathered say months before ++ (told ++ gathered say macros after)) (none here) (stays here)

module _ (n : ℕ) (old new : View) (t : Tables) (bounds : Bounds) (admits : Admits (length new.body) true t.bounds bounds) (before after : List Item) (x y : Item) (x_is : IsOther x.tree) (y_is : IsOther y.tree)
    (one_kind : is_preamble_tree x.tree ≡ is_preamble_tree y.tree) (y_seen : new ≡ view_of (item_with y.tree [])) where
  after_both : (m : Macros) → macros_after m x.tree ≡ macros_after m y.tree
  after_both m = x_is.after m ∙ sym (y_is.after m)

  other_tables : AreTablesOf (before ++ x ∷ after) t → AreTablesOf (before ++ y ∷ after) (with_bounds bounds t)
  other_tables are =
      let all : gathered entry_in months (before ++ x ∷ after) ≡ gathered entry_in months (before ++ y ∷ after)
      = passed entry_in before after x x_is.told x_is.after ∙ sym (passed entry_in before after y y_is.told y_is.after) in
      let defined : definitions_in (before ++ x ∷ after) ≡ definitions_in (before ++ y ∷ after)
      = passed defined_by before after x x_is.defined x_is.after ∙ sym (passed defined_by before after y y_is.defined y_is.after) in
      record {
        entries = are.entries ∙ numbers_same is_entry_tree 0 before after x y (x_is.entry ∙ sym y_is.entry);
        preambles = are.preambles ∙ numbers_same is_preamble_tree 0 before after x y one_kind;
        named = subst (λ (es : List EntryTexts). IsTableOf (keys_of es) (map crossref_text es) t.named) all are.named;
        definitions = definitions_alike (before ++ x ∷ after) (before ++ y ∷ after) t.definitions (numbers_same is_definition_tree 0 before after x y (x_is.definition ∙ sym y_is.definition)) defined
            (λ k. macros_same months before after x y after_both k) are.definitions;
        bounds = bounded_with bounds before after y (admits.all (before ++ after) (bounded_without t.bounds before after x are.bounds))
            (admits.one y.tree (sym (ap (λ (v : View). length v.body) y_seen)) (λ e. y_is.settled));
      }

  other_fits : first_too_long (raw_texts_from 0 months (before ++ x ∷ after)) ≡ None → first_too_long (placed_texts (macros_at months before (length before)) y.tree) ≡ None
      → first_too_long (raw_texts_from 0 months (before ++ y ∷ after)) ≡ None
  other_fits fits short = still_fits before after x y after_both 0 0 fits short

pub preamble_in_place : (n : ℕ) (old new : View) (t : Tables) (bounds : Bounds) → old.kind ≡ kind.Preamble → new.kind ≡ kind.Preamble → Admits (length new.body) true t.bounds bounds
    → OfView kind.Preamble new (λ tree. first_too_long (placed_texts (texts_at t.definitions n) tree) ≡ None) → TakesPlace n old new t (with_bounds bounds t)
preamble_in_place n old new t bounds was is admits short = record {
  tables = λ before after x y seen are.
      let a = seen_preamble old x.tree was seen.old_seen in
      let b = seen_preamble new y.tree is seen.new_seen in
      other_tables n old new t bounds admits before after x y a.0 b.0 (a.1 ∙ sym b.1) seen.new_seen are;
  texts = λ before after x y seen are good fits.
      let a = seen_preamble old x.tree was seen.old_seen in
      let b = seen_preamble new y.tree is seen.new_seen in
      let kind : kind_of y.tree ≡ kind.Preamble = ap (λ (v : View). v.kind) (sym seen.new_seen) ∙ is in
      other_fits n old new t bounds admits before after x y a.0 b.0 (a.1 ∙ sym b.1) seen.new_seen fits
      (ap (λ (m : Macros). first_too_long (placed_texts m y.tree)) (sym (seen_by n before (x ∷ after) t seen.count are.definitions)) ∙ short y.tree seen.new_tree kind seen.new_seen);
}

-- a comment has no texts
comment_short : (m : Macros) (v : View) (tree : Tree) → v.kind ≡ kind.Comment → v ≡ view_of (item_with tree []) → first_too_long (placed_texts m tree) ≡ None
comment_short m v (CommentTree h) is seen = refl
comment_short m v (DefinitionTree d) is seen = other_kind kind.Macro kind.Comment (sym (sym is ∙ ap (λ (w : View). w.kind) seen)) (omega arith)
comment_short m v (EntryTree e) is seen = other_kind kind.Entry kind.Comment (sym (sym is ∙ ap (λ (w : View). w.kind) seen)) (omega arith)
comment_short m v (PreambleTree p) is seen = other_kind kind.Preamble kind.Comment (sym (sym is ∙ ap (λ (w : View). w.kind) seen)) (omega arith)

pub comment_in_place : (n : ℕ) (old new : View) (t : Tables) (bounds : Bounds) → old.kind ≡ kind.Comment → new.kind ≡ kind.Comment → Admits (length new.body) true t.bounds bounds → TakesPlace n old new t (with_bounds bounds t)
comment_in_place n old new t bounds was is admits = record {
  tables = λ before after x y seen are.
      let a = seen_comment old x.tree was seen.old_seen in
      let b = seen_comment new y.tree is seen.new_seen in
      other_tables n old new t bounds admits before after x y a.0 b.0 (a.1 ∙ sym b.1) seen.new_seen are;
  texts = λ before after x y seen are good fits.
      let a = seen_comment old x.tree was seen.old_seen in
      let b = seen_comment new y.tree is seen.new_seen in
      other_fits n old new t bounds admits before after x y a.0 b.0 (a.1 ∙ sym b.1) seen.new_seen fits (comment_short (macros_at months before (length before)) new y.tree is seen.new_seen);
}

-- ---- several

-- the first k took their places
pub record PlacedSoFar (k n : ℕ) (bodies : List Text) (new : List Item) (t now : Tables) : Type 0 where
  pub tables : (before old after : List Item) → length before ≡ n → AreItemsOf bodies old → AreTablesOf (before ++ (old ++ after)) t → AreTablesOf (before ++ (take k new ++ (drop k old ++ after))) now
  pub texts : (before old after : List Item) → length before ≡ n → AreItemsOf bodies old → AreTablesOf (before ++ (old ++ after)) t → All (IsItem name_limit) (before ++ (old ++ after))
      → first_too_long (raw_texts_from 0 months (before ++ (old ++ after))) ≡ None → first_too_long (raw_texts_from 0 months (before ++ (take k new ++ (drop k old ++ after)))) ≡ None

pub placed_none : (n : ℕ) (bodies : List Text) (new : List Item) (t : Tables) → PlacedSoFar 0 n bodies new t t
placed_none n bodies new t = record { tables = λ before old after count are tables. tables; texts = λ before old after count are tables good fits. fits }

pub element_at : {X : Type 0} (xs : List X) (k : ℕ) → k < length xs → (x : X) × (slice_get xs k ≡ Some x)
element_at [] k low = absurd (omega (arith, low))
element_at (x ∷ xs) zero low = (x, refl)
element_at (x ∷ xs) (suc k) low = element_at xs k (omega (arith, low))

taken_more : {X : Type 0} (k : ℕ) (xs : List X) (x : X) → slice_get xs k ≡ Some x → take (suc k) xs ≡ take k xs ++ x ∷ []
taken_more k [] x at = absurd (none-some x at)
taken_more {X} zero (y ∷ xs) x at = ap (λ (z : X). z ∷ []) (same_Some y x at)
taken_more {X} (suc k) (y ∷ xs) x at = ap (λ (l : List X). y ∷ l) (taken_more k xs x at)

module _ (k n : ℕ) (bodies : List Text) (body : Text) (new : List Item) (y : Item) (old_view new_view : View) (t now next : Tables) (old_at : slice_get bodies k ≡ Some body) (new_at : slice_get new k ≡ Some y)
    (old_sees : (tree : Tree) → IsTree name_limit tree → tree_bytes tree ≡ body → old_view ≡ view_of (item_with tree [])) (new_sees : new_view ≡ view_of (item_with y.tree [])) (good : All (IsItem name_limit) new)
    (takes : TakesPlace (n + k) old_view new_view now next) (placed : PlacedSoFar k n bodies new t now) where
  module _ (before old after : List Item) (count : length before ≡ n) (old_are : AreItemsOf bodies old) where
    abbrev first : List Item
    first = before ++ take k new

    abbrev rest : List Item
    rest = drop (suc k) old ++ after

    a : IsNext old k body
    a = next_of bodies old k body old_are old_at

    within : k < length new
    within = slice_get_within new k y new_at

    long : length first ≡ n + k
    long = omega (arith, count, length-append before (take k new), length-take-le k new (omega (arith, within)))

    seen : AreSeen (n + k) old_view new_view first a.it y
    seen = record { count = long; old_tree = a.tree; new_tree = (item_in (IsItem name_limit) new k y good new_at).tree; old_seen = old_sees a.it.tree a.tree a.bytes; new_seen = new_sees }

    was : before ++ (take k new ++ (drop k old ++ after)) ≡ first ++ a.it ∷ rest
    was = ap (λ (l : List Item). before ++ (take k new ++ (l ++ after))) a.parts ∙ sym (append_assoc before (take k new) (a.it ∷ rest))

    is : first ++ y ∷ rest ≡ before ++ (take (suc k) new ++ rest)
    is =
        append_assoc before (take k new) (y ∷ rest)
        ∙ ap (λ (l : List Item). before ++ l) (sym (append_assoc (take k new) (y ∷ []) rest) ∙ ap (λ (l : List Item). l ++ rest) (sym (taken_more k new y new_at)))

    now_tables : AreTablesOf (before ++ (old ++ after)) t → AreTablesOf (first ++ a.it ∷ rest) now
    now_tables are = subst (λ (l : List Item). AreTablesOf l now) was (placed.tables before old after count old_are are)

    all_good : All (IsItem name_limit) (before ++ (old ++ after)) → All (IsItem name_limit) (first ++ y ∷ rest)
    all_good all =
        let old_and_after = good_last before (old ++ after) (before ++ (old ++ after)) refl all in
        let old_good = All-drop (IsItem name_limit) (suc k) old (good_first old after (old ++ after) refl old_and_after) in
        subst (All (IsItem name_limit)) (sym is)
        (All-append (IsItem name_limit) before (take (suc k) new ++ rest) (good_first before (old ++ after) (before ++ (old ++ after)) refl all)
        (All-append (IsItem name_limit) (take (suc k) new) rest (All-take (IsItem name_limit) (suc k) new good)
        (All-append (IsItem name_limit) (drop (suc k) old) after old_good (good_last old after (old ++ after) refl old_and_after))))

  pub placed_more : PlacedSoFar (suc k) n bodies new t next
  placed_more = record {
    tables = λ before old after count old_are are.
        let b = a before old after count old_are in
        subst (λ (l : List Item). AreTablesOf l next) (is before old after count old_are)
        (takes.tables (first before old after count old_are) (rest before old after count old_are) b.it y (seen before old after count old_are) (now_tables before old after count old_are are));
    texts = λ before old after count old_are are all fits.
        let b = a before old after count old_are in
        subst (λ (l : List Item). first_too_long (raw_texts_from 0 months l) ≡ None) (is before old after count old_are)
        (takes.texts (first before old after count old_are) (rest before old after count old_are) b.it y (seen before old after count old_are) (now_tables before old after count old_are are)
        (all_good before old after count old_are all)
        (subst (λ (l : List Item). first_too_long (raw_texts_from 0 months l) ≡ None) (was before old after count old_are) (placed.texts before old after count old_are are all fits)));
  }

pub placed_all : (k n : ℕ) (bodies : List Text) (new : List Item) (t now : Tables) → length bodies ≤ k → length new ≤ k → PlacedSoFar k n bodies new t now → TakePlaces n bodies new t now
placed_all k n bodies new t now old_few new_few placed = record {
  tables = λ before old after count are tables. subst (λ (l : List Item). AreTablesOf l now) (parts before old after are) (placed.tables before old after count are tables);
  texts = λ before old after count are tables good fits.
      subst (λ (l : List Item). first_too_long (raw_texts_from 0 months l) ≡ None) (parts before old after are) (placed.texts before old after count are tables good fits);
}
  where
    parts : (before old after : List Item) → AreItemsOf bodies old → before ++ (take k new ++ (drop k old ++ after)) ≡ before ++ (new ++ after)
    parts before old after are =
        ap₂ (λ (l m : List Item). before ++ (l ++ (m ++ after))) (take_all k new new_few) (drop_all k old (omega (arith, old_few, counted_items bodies old are)))
