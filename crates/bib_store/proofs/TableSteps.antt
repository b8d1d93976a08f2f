-- What an item that comes or goes does to the tables.
use Rattle.bib_store.proofs.Words.{◌≡◌, ℕ, suc, ◌+◌, ◌<◌, ◌≤◌, ◌^◌, cond, Bool, true, false, List, [], ◌∷◌, ◌++◌, length, map, filter, Option, Some, None, insert, remove, ◌⊎◌, ⊎_elim, refl, sym, ◌∙◌, ap, subst, arith, length-append, enumerate_from, length-map, equals_sign, name_limit, Text, folded}
use Rattle.bib_store.proofs.Words.{Tree, CommentTree, DefinitionTree, PreambleTree, EntryTree, Definition, IsTree, opening_bytes, value_bytes, Macros, months, raw_text, raw_limit, macros_after, macros_at, gathered, bytes_before_value, EntryTexts, entry_in, keys_of, crossref_text, texts_of, View}
use Rattle.bib_store.proofs.Words.{field_after, fields_of, view_of, OfValue, IsTableOf, Tables, is_entry_tree, texts_at, is_definition_tree, AreDefinitionsOf, AreSettled, is_preamble_tree, first_too_long, placed_texts, own_text, AreTablesOf, IsStep, IsInsertion, IsRemoval, IsTooLongAt, SayTheSame}
use Rattle.bib_store.proofs.Words.{OfView, item_with, numbers, macros_in_front, gathered-append, Bounds, IsSettled, IsBounded, AreAllSettled, AreBounded, Admits, true-eq}
use Rattle.std.proofs.Common.{slice_get, append-nil}
use Rattle.bib_spec.specs.Reading.{Item}
use Rattle.bib_scan.specs.View.{Field}
use Rattle.bib_scan.specs.declared.view.Kind.{Kind}
use Rattle.bib_scan.specs.declared.view.Kind.TheVariants as kind
use Rattle.bib_numbers.specs.Numbers.{PartAt, HaveNext}
use Rattle.bib_entries.specs.EntryTable.{Kept}
use Rattle.bib_numbers.proofs.MovedNumbers.{part_with}
use Rattle.bib_definitions.specs.Definitions.{Known, is_definition_of, Defines}
use Rattle.bib_store.specs.TablesOf.{IsMovedFor}
use Rattle.bib_store.proofs.RowTexts.{cons_parts, first_fits, first_over}
use Rattle.bib_numbers.proofs.ItemNumbers.{numbers-parts, numbers-with, parts_at, put_numbers, moved_numbers, taken_numbers, closed_numbers}
use Rattle.bib_store.proofs.BoundedItems.{bounded_with, bounded_without, settled_definition, settled_preamble, settled_comment}
use Rattle.bib_store.proofs.Settled.{settled_texts, same_keys, same_crossrefs}
use Rattle.bib_store.proofs.Insertions.{map-put, map-taken, map-stands, gathered-with}

-- ---- kinds

abbrev pub kind_number : Kind → ℕ
kind_number kind.Entry = 0
kind_number kind.Macro = 1
kind_number kind.Preamble = 2
kind_number kind.Comment = 3

pub other_kind : {X : Type 0} (a b : Kind) → a ≡ b → (kind_number a < kind_number b) → X
other_kind a b same apart = absurd (omega (arith, ap kind_number same, apart))

pub no_macro : (k : Kind) → (k ≡ kind.Entry) ⊎ ((k ≡ kind.Preamble) ⊎ (k ≡ kind.Comment)) → k ≡ kind.Macro → ⊥
no_macro k one is = ⊎_elim
    (λ e. other_kind kind.Entry kind.Macro (sym e ∙ is) (omega arith))
    (λ rest. ⊎_elim (λ e. other_kind kind.Macro kind.Preamble (sym is ∙ e) (omega arith)) (λ e. other_kind kind.Macro kind.Comment (sym is ∙ e) (omega arith)) rest)
    one

-- ---- entries are counted by their numbers

counted_step : (tree : Tree) (k : ℕ) (item : Item) (rest : List (ℕ × Item)) (m : Macros) (more : List EntryTexts) → length (map (λ (p : ℕ × Item). p.0) rest) ≡ length more
    → length (map (λ (p : ℕ × Item). p.0) (cond (is_entry_tree tree) ((k, item) ∷ rest) rest)) ≡ length (entry_in m tree ++ more)
counted_step (EntryTree e) k item rest m more h = ap suc h
counted_step (CommentTree c) k item rest m more h = h
counted_step (DefinitionTree d) k item rest m more h = h
counted_step (PreambleTree p) k item rest m more h = h

pub entries_counted : (k : ℕ) (m : Macros) (items : List Item)
    → length (map (λ (p : ℕ × Item). p.0) (filter (λ (p : ℕ × Item). is_entry_tree p.1.tree) (enumerate_from k items))) ≡ length (gathered entry_in m items)
entries_counted k m [] = refl
entries_counted k m (item ∷ items) =
    counted_step item.tree k item (filter (λ (p : ℕ × Item). is_entry_tree p.1.tree) (enumerate_from (k + 1) items)) m (gathered entry_in (macros_at m (item ∷ items) 1) items)
    (entries_counted (k + 1) (macros_at m (item ∷ items) 1) items)

-- ---- an item that is no definition

-- it comes as item n
abbrev MakesWay : ℕ → Known → Known → Type 0
MakesWay n old new = (before after : List Item) (item : Item) → length before ≡ n → n + length after < 2 ^ 64 → is_definition_tree item.tree ≡ false → AreDefinitionsOf (before ++ after) old → AreDefinitionsOf (before ++ item ∷ after) new

-- item n goes
abbrev Closes : ℕ → Known → Known → Type 0
Closes n old new = (before after : List Item) (item : Item) → length before ≡ n → n + length after < 2 ^ 64 → is_definition_tree item.tree ≡ false → AreDefinitionsOf (before ++ item ∷ after) old → AreDefinitionsOf (before ++ after) new

-- what is said of the entries
abbrev IsTableOfEntries : List EntryTexts → Kept → Type 0
IsTableOfEntries entries named = IsTableOf (keys_of entries) (map crossref_text entries) named

put_named : (old new : Kept) (a b : List EntryTexts) (entry : EntryTexts) (k : ℕ) (key : Text) (found : Option Text) → key ≡ entry.key → found ≡ crossref_text entry → k ≡ length a
    → ((keys : List Text) (crossrefs : List (Option Text)) → k ≤ length keys → IsTableOf keys crossrefs old → IsTableOf (insert keys k key) (insert crossrefs k found) new)
    → IsTableOfEntries (a ++ b) old → IsTableOfEntries (a ++ entry ∷ b) new
put_named old new a b entry k key found key_is found_is at put is =
    let long : k ≤ length (keys_of (a ++ b)) = omega (arith, at, length-map (a ++ b) (λ (entry : EntryTexts). entry.key), length-append a b) in
    subst (λ (ks : List Text). IsTableOf ks (map crossref_text (a ++ entry ∷ b)) new) (map-put (λ (entry : EntryTexts). entry.key) a b entry key k key_is at)
    (subst (λ (cs : List (Option Text)). IsTableOf (insert (keys_of (a ++ b)) k key) cs new) (map-put crossref_text a b entry found k found_is at)
    (put (keys_of (a ++ b)) (map crossref_text (a ++ b)) long is))

taken_named : (old new : Kept) (a b : List EntryTexts) (entry : EntryTexts) (k : ℕ) (key : Text) → key ≡ entry.key → k ≡ length a
    → ((keys : List Text) (crossrefs : List (Option Text)) → slice_get keys k ≡ Some key → IsTableOf keys crossrefs old → IsTableOf (remove keys k) (remove crossrefs k) new)
    → IsTableOfEntries (a ++ entry ∷ b) old → IsTableOfEntries (a ++ b) new
taken_named old new a b entry k key key_is at take is =
    subst (λ (ks : List Text). IsTableOf ks (map crossref_text (a ++ b)) new) (map-taken (λ (entry : EntryTexts). entry.key) a b entry k at)
    (subst (λ (cs : List (Option Text)). IsTableOf (remove (keys_of (a ++ entry ∷ b)) k) cs new) (map-taken crossref_text a b entry k at)
    (take (keys_of (a ++ entry ∷ b)) (map crossref_text (a ++ entry ∷ b)) (map-stands (λ (entry : EntryTexts). entry.key) a b entry key k key_is at) is))

-- an item that is no entry leaves what is said of entries
unlisted : (before after : List Item) (x : Item) → entry_in (macros_at months before (length before)) x.tree ≡ [] → macros_after (macros_at months before (length before)) x.tree ≡ macros_at months before (length before)
    → gathered entry_in months (before ++ x ∷ after) ≡ gathered entry_in months (before ++ after)
unlisted before after x none same = gathered-with entry_in before after x [] same none ∙ sym (gathered-append entry_in months before after)

-- tables whose entries have the same numbers, and whose keys and crossrefs say the same of as many entries
pub named_kept : (old new : Tables) → new.file_len ≡ old.file_len → new.entries ≡ old.entries → new.preambles ≡ old.preambles → new.definitions ≡ old.definitions → new.bounds ≡ old.bounds
    → ((keys : List Text) (crossrefs : List (Option Text)) → length keys ≡ length old.entries → IsTableOf keys crossrefs old.named → IsTableOf keys crossrefs new.named)
    → SayTheSame old new
named_kept old new len entries preambles kept bounds named = record {
  len = len;
  tables = λ items t. record {
    entries = entries ∙ t.entries;
    preambles = preambles ∙ t.preambles;
    named =
        let all = gathered entry_in months items in
        named (keys_of all) (map crossref_text all)
        (length-map all (λ (entry : EntryTexts). entry.key) ∙ sym (entries_counted 0 months items) ∙ sym (ap (λ (ns : List ℕ). length ns) t.entries)) t.named;
    definitions = subst (AreDefinitionsOf items) (sym kept) t.definitions;
    bounds = subst (λ (b : Bounds). AreBounded b items) (sym bounds) t.bounds;
  };
}

-- a definition among settled items leaves it too
module _ (before after : List Item) (d : Definition) (trail : Text) (all : AreAllSettled after) (old new : Kept) (same : new ≡ old) where
  abbrev with_it : List Item
  with_it = before ++ item_with (DefinitionTree d) trail ∷ after

  with_definition_named : IsTableOfEntries (gathered entry_in months (before ++ after)) old → IsTableOfEntries (gathered entry_in months with_it) new
  with_definition_named t =
      subst (λ (k : Kept). IsTableOfEntries (gathered entry_in months with_it) k) (sym same)
      (subst (λ (ks : List Text). IsTableOf ks (map crossref_text (gathered entry_in months with_it)) old) (sym (same_keys before after d trail all))
      (subst (λ (cs : List (Option Text)). IsTableOf (keys_of (gathered entry_in months (before ++ after))) cs old) (sym (same_crossrefs before after d trail all)) t))

  without_definition_named : IsTableOfEntries (gathered entry_in months with_it) old → IsTableOfEntries (gathered entry_in months (before ++ after)) new
  without_definition_named t =
      subst (λ (k : Kept). IsTableOfEntries (gathered entry_in months (before ++ after)) k) (sym same)
      (subst (λ (ks : List Text). IsTableOf ks (map crossref_text (gathered entry_in months (before ++ after))) old) (same_keys before after d trail all)
      (subst (λ (cs : List (Option Text)). IsTableOf (keys_of (gathered entry_in months with_it)) cs old) (same_crossrefs before after d trail all) t))

-- ---- an entry

module _ (old new : Tables) (n : ℕ) (view : View) where
  pub entry_insertion : (m : Macros) (found : Option Text) → m ≡ texts_at old.definitions n
      → ((front rest : List ℕ) → PartAt n front rest old.entries → HaveNext rest → new.entries ≡ front ++ n ∷ map suc rest)
      → ((front rest : List ℕ) → PartAt n front rest old.preambles → HaveNext rest → new.preambles ≡ front ++ map suc rest)
      → ((front rest : List ℕ) (keys : List Text) (crossrefs : List (Option Text)) → PartAt n front rest old.entries → length front ≤ length keys → IsTableOf keys crossrefs old.named
      → IsTableOf (insert keys (length front) view.key) (insert crossrefs (length front) found) new.named)
      → MakesWay n old.definitions new.definitions
      → ((i : Item) → IsTree name_limit i.tree → is_entry_tree i.tree ≡ true → view ≡ view_of i → map crossref_text (entry_in m i.tree) ≡ found ∷ [])
      → ((i : Item) → IsTree name_limit i.tree → is_entry_tree i.tree ≡ true → view ≡ view_of i → first_too_long (placed_texts m i.tree) ≡ None)
      → (settled : Bool) → (settled ≡ true → (m : Macros) (i : Item) → IsTree name_limit i.tree → is_entry_tree i.tree ≡ true → view ≡ view_of i → map crossref_text (entry_in m i.tree) ≡ found ∷ [] → IsSettled i.tree)
      → Admits (length view.body) settled old.bounds new.bounds
      → OfView kind.Entry view (λ tree. IsInsertion n tree old new)
  entry_insertion m found sees entries preambles named defined says short settled is_settled admits (CommentTree h) is at seen = other_kind kind.Entry kind.Comment (sym at) (omega arith)
  entry_insertion m found sees entries preambles named defined says short settled is_settled admits (DefinitionTree d) is at seen = other_kind kind.Entry kind.Macro (sym at) (omega arith)
  entry_insertion m found sees entries preambles named defined says short settled is_settled admits (PreambleTree p) is at seen = other_kind kind.Entry kind.Preamble (sym at) (omega arith)
  entry_insertion m found sees entries preambles named defined says short settled is_settled admits (EntryTree e) is at seen =
      let one : IsBounded new.bounds (EntryTree e)
      = admits.one (EntryTree e) (sym (ap (λ (v : View). length v.body) seen)) (λ t. is_settled t m (item_with (EntryTree e) []) is refl seen (says (item_with (EntryTree e) []) is refl seen)) in
      let here_says : crossref_text (texts_of m e) ≡ found = (cons_parts (crossref_text (texts_of m e)) found [] [] (says (item_with (EntryTree e) []) is refl seen)).0 in
      record {
        tables = λ before after trail count fits still t.
            let x = item_with (EntryTree e) trail in
            let here = macros_at months before (length before) in
            let macros : m ≡ here = sees ∙ t.definitions.texts n ∙ macros_in_front months before after n (omega (arith, count)) ∙ ap (macros_at months before) (sym count) in
            let said = texts_of here e in
            let front = numbers is_entry_tree 0 before in
            let parts = parts_at is_entry_tree n before after old.entries count (t.entries ∙ numbers-parts is_entry_tree before after) in
            record {
              entries = put_numbers is_entry_tree before after x n count fits old.entries new.entries refl entries t.entries;
              preambles = moved_numbers is_preamble_tree before after x n count fits old.preambles new.preambles refl preambles t.preambles;
              named = subst (λ (es : List EntryTexts). IsTableOfEntries es new.named) (sym (gathered-with entry_in before after x (said ∷ []) refl refl))
                  (put_named old.named new.named (gathered entry_in months before) (gathered entry_in here after) said (length front) view.key found
                  (ap (λ (v : View). v.key) seen) (sym here_says ∙ ap (λ (mm : Macros). crossref_text (texts_of mm e)) macros) (entries_counted 0 months before)
                  (λ keys crossrefs. named front (numbers is_entry_tree (length before) after) keys crossrefs parts)
                  (subst (λ (es : List EntryTexts). IsTableOfEntries es old.named) (gathered-append entry_in months before after) t.named));
              definitions = defined before after x count fits refl t.definitions;
              bounds = bounded_with new.bounds before after x (admits.all (before ++ after) t.bounds) one;
            };
        texts = ap (λ (mm : Macros). first_too_long (placed_texts mm (EntryTree e))) (sym sees) ∙ short (item_with (EntryTree e) []) is refl seen;
      }

  pub entry_removal : ((front rest : List ℕ) → PartAt n front rest (front ++ rest) → HaveNext rest → old.entries ≡ front ++ n ∷ map suc rest → new.entries ≡ front ++ rest)
      → ((front rest : List ℕ) → PartAt n front rest (front ++ rest) → HaveNext rest → old.preambles ≡ front ++ map suc rest → new.preambles ≡ front ++ rest)
      → (k : ℕ) → ((front rest : List ℕ) → PartAt n front rest old.entries → k ≡ length front)
      → ((keys : List Text) (crossrefs : List (Option Text)) → slice_get keys k ≡ Some view.key → IsTableOf keys crossrefs old.named → IsTableOf (remove keys k) (remove crossrefs k) new.named)
      → Closes n old.definitions new.definitions → new.bounds ≡ old.bounds
      → OfView kind.Entry view (λ tree. IsRemoval n tree old new)
  entry_removal entries preambles k rank named defined bounds (CommentTree h) is at seen before after trail count fits still t = other_kind kind.Entry kind.Comment (sym at) (omega arith)
  entry_removal entries preambles k rank named defined bounds (DefinitionTree d) is at seen before after trail count fits still t = other_kind kind.Entry kind.Macro (sym at) (omega arith)
  entry_removal entries preambles k rank named defined bounds (PreambleTree p) is at seen before after trail count fits still t = other_kind kind.Entry kind.Preamble (sym at) (omega arith)
  entry_removal entries preambles k rank named defined bounds (EntryTree e) is at seen before after trail count fits still t =
      let x = item_with (EntryTree e) trail in
      let here = macros_at months before (length before) in
      let said = texts_of here e in
      let front = numbers is_entry_tree 0 before in
      let rest = numbers is_entry_tree (length before) after in
      let all = t.entries ∙ numbers-with is_entry_tree before after x refl ∙ ap (λ (j : ℕ). front ++ j ∷ map suc rest) count in
      let parts = part_with n front rest old.entries (parts_at is_entry_tree n before after (front ++ rest) count refl) all in
      record {
        entries = taken_numbers is_entry_tree before after x n count fits old.entries new.entries refl entries t.entries;
        preambles = closed_numbers is_preamble_tree before after x n count fits old.preambles new.preambles refl preambles t.preambles;
        named = subst (λ (es : List EntryTexts). IsTableOfEntries es new.named) (sym (gathered-append entry_in months before after))
            (taken_named old.named new.named (gathered entry_in months before) (gathered entry_in here after) said k view.key (ap (λ (v : View). v.key) seen)
            (rank front (n ∷ map suc rest) parts ∙ entries_counted 0 months before) named
            (subst (λ (es : List EntryTexts). IsTableOfEntries es old.named) (gathered-with entry_in before after x (said ∷ []) refl refl) t.named));
        definitions = defined before after x count fits refl t.definitions;
        bounds = subst (λ (b : Bounds). AreBounded b (before ++ after)) (sym bounds) (bounded_without old.bounds before after x t.bounds);
      }

  pub entry_over : (m : Macros) (place : ℕ) → m ≡ texts_at old.definitions n
      → ((i : Item) → IsTree name_limit i.tree → is_entry_tree i.tree ≡ true → view ≡ view_of i → first_too_long (placed_texts m i.tree) ≡ Some place)
      → OfView kind.Entry view (λ tree. IsTooLongAt n tree old place)
  entry_over m place sees over (CommentTree h) is at seen = other_kind kind.Entry kind.Comment (sym at) (omega arith)
  entry_over m place sees over (DefinitionTree d) is at seen = other_kind kind.Entry kind.Macro (sym at) (omega arith)
  entry_over m place sees over (PreambleTree p) is at seen = other_kind kind.Entry kind.Preamble (sym at) (omega arith)
  entry_over m place sees over (EntryTree e) is at seen =
      ap (λ (mm : Macros). first_too_long (placed_texts mm (EntryTree e))) (sym sees) ∙ over (item_with (EntryTree e) []) is refl seen

  -- ---- a definition

  definition_place : (d : Definition) → (field_after (length (opening_bytes d.opening)) (opening_bytes d.opening) d.assignment).value_at ≡ length (opening_bytes d.opening ++ bytes_before_value d.assignment)
  definition_place d =
      let start = opening_bytes d.opening in
      let a = d.assignment in
      let rest = equals_sign ∷ a.space_before_value in
      omega (
        arith,
        length-append start a.name,
        length-append (start ++ a.name) a.space_before_equals,
        length-append (start ++ a.name ++ a.space_before_equals) rest,
        length-append start (bytes_before_value a),
        length-append a.name (a.space_before_equals ++ rest),
        length-append a.space_before_equals rest,
      )

  -- it has the name and the value of its field
  field_of : (field : Field) (rest : List Field) (d : Definition) → view.fields ≡ field ∷ rest → view ≡ view_of (item_with (DefinitionTree d) [])
      → (field.name ≡ d.assignment.name) × (value_bytes d.assignment.value ≡ field.value)
  field_of field rest d first seen =
      let own = field_after (length (opening_bytes d.opening)) (opening_bytes d.opening) d.assignment in
      let same = (cons_parts field own rest [] (sym first ∙ ap (λ (v : View). v.fields) seen)).0 in
      (ap (λ (f : Field). f.name) same, ap (λ (f : Field). f.value) (sym same))

  pub definition_insertion : (field : Field) (rest : List Field) → view.fields ≡ field ∷ rest
      → OfValue field.value (λ v. (before after : List Item) (item : Item) → length before ≡ n → n + length after < 2 ^ 64 → is_definition_tree item.tree ≡ true
      → Defines (macros_at months before n) item.tree field.name (raw_text (own_text (texts_at old.definitions n) field.name) v) → AreSettled after → AreDefinitionsOf (before ++ after) old.definitions
      → AreDefinitionsOf (before ++ item ∷ after) new.definitions)
      → IsMovedFor n old new
      → OfValue field.value (λ v. length (raw_text (own_text (texts_at old.definitions n) field.name) v) ≤ raw_limit)
      → (settled : Bool) → Admits (length view.body) settled old.bounds new.bounds
      → (settled ≡ true → (text : Text) × OfValue field.value (λ v. (m : Macros) → raw_text m v ≡ text))
      → OfView kind.Macro view (λ tree. IsInsertion n tree old new)
  definition_insertion field rest first table moved short settled admits is_settled (CommentTree h) is at seen = other_kind kind.Macro kind.Comment (sym at) (omega arith)
  definition_insertion field rest first table moved short settled admits is_settled (EntryTree e) is at seen = other_kind kind.Entry kind.Macro at (omega arith)
  definition_insertion field rest first table moved short settled admits is_settled (PreambleTree p) is at seen = other_kind kind.Macro kind.Preamble (sym at) (omega arith)
  definition_insertion field rest first table moved short settled admits is_settled (DefinitionTree d) is at seen =
      let a = d.assignment in
      let own = field_of field rest d first seen in
      let name = own.0 in
      let value = own.1 in
      let one : IsBounded new.bounds (DefinitionTree d)
      = admits.one (DefinitionTree d) (sym (ap (λ (v : View). length v.body) seen))
      (λ e. let says = is_settled e in settled_definition d says.0 (says.1 a.value is.assignment.value value)) in
      record {
        tables = λ before after trail count fits still t.
            let i = item_with (DefinitionTree d) trail in
            let here = macros_at months before n in
            let macros : texts_at old.definitions n ≡ here = t.definitions.texts n ∙ macros_in_front months before after n (omega (arith, count)) in
            let defined : Defines here (DefinitionTree d) field.name (raw_text (own_text (texts_at old.definitions n) field.name) a.value) =
            ap (λ (x : Text). (folded x, raw_text (own_text here x) a.value) ∷ []) (sym name)
            ∙ ap (λ (mm : Macros). (folded field.name, raw_text (own_text mm field.name) a.value) ∷ []) (sym macros) in
            record {
              entries = moved_numbers is_entry_tree before after i n count fits old.entries new.entries refl moved.entries t.entries;
              preambles = moved_numbers is_preamble_tree before after i n count fits old.preambles new.preambles refl moved.preambles t.preambles;
              named = with_definition_named before after d trail (still refl) old.named new.named moved.named t.named;
              definitions = table a.value is.assignment.value value before after i count fits refl defined (settled_texts after (still refl)) t.definitions;
              bounds = bounded_with new.bounds before after i (admits.all (before ++ after) t.bounds) one;
            };
        texts = first_fits (length (opening_bytes d.opening ++ bytes_before_value a)) (raw_text (own_text (texts_at old.definitions n) a.name) a.value) []
            (subst (λ (x : Text). length (raw_text (own_text (texts_at old.definitions n) x) a.value) ≤ raw_limit) name (short a.value is.assignment.value value));
      }

  pub definition_removal : (field : Field) (rest : List Field) → view.fields ≡ field ∷ rest
      → ((front rest : List ℕ) → PartAt n front rest (front ++ rest) → HaveNext rest → old.entries ≡ front ++ map suc rest → new.entries ≡ front ++ rest)
      → ((front rest : List ℕ) → PartAt n front rest (front ++ rest) → HaveNext rest → old.preambles ≡ front ++ map suc rest → new.preambles ≡ front ++ rest)
      → ((before after : List Item) (item : Item) → length before ≡ n → n + length after < 2 ^ 64 → is_definition_of field.name item.tree ≡ true → AreSettled after
      → AreDefinitionsOf (before ++ item ∷ after) old.definitions → AreDefinitionsOf (before ++ after) new.definitions)
      → new.named ≡ old.named → new.bounds ≡ old.bounds
      → OfView kind.Macro view (λ tree. IsRemoval n tree old new)
  definition_removal field rest first entries preambles table named bounds (CommentTree h) is at seen before after trail count fits still t = other_kind kind.Macro kind.Comment (sym at) (omega arith)
  definition_removal field rest first entries preambles table named bounds (EntryTree e) is at seen before after trail count fits still t = other_kind kind.Entry kind.Macro at (omega arith)
  definition_removal field rest first entries preambles table named bounds (PreambleTree p) is at seen before after trail count fits still t = other_kind kind.Macro kind.Preamble (sym at) (omega arith)
  definition_removal field rest first entries preambles table named bounds (DefinitionTree d) is at seen before after trail count fits still t =
      let i = item_with (DefinitionTree d) trail in
      let name = (field_of field rest d first seen).0 in
      record {
        entries = closed_numbers is_entry_tree before after i n count fits old.entries new.entries refl entries t.entries;
        preambles = closed_numbers is_preamble_tree before after i n count fits old.preambles new.preambles refl preambles t.preambles;
        named = without_definition_named before after d trail (still refl) old.named new.named named t.named;
        definitions = table before after i count fits (true-eq (folded d.assignment.name) (folded field.name) (ap folded (sym name))) (settled_texts after (still refl)) t.definitions;
        bounds = subst (λ (b : Bounds). AreBounded b (before ++ after)) (sym bounds) (bounded_without old.bounds before after i t.bounds);
      }

  pub definition_over : (field : Field) (rest : List Field) (place : ℕ) → view.fields ≡ field ∷ rest → place ≡ field.value_at
      → OfValue field.value (λ v. raw_limit < length (raw_text (own_text (texts_at old.definitions n) field.name) v))
      → OfView kind.Macro view (λ tree. IsTooLongAt n tree old place)
  definition_over field rest place first here over (CommentTree h) is at seen = other_kind kind.Macro kind.Comment (sym at) (omega arith)
  definition_over field rest place first here over (EntryTree e) is at seen = other_kind kind.Entry kind.Macro at (omega arith)
  definition_over field rest place first here over (PreambleTree p) is at seen = other_kind kind.Macro kind.Preamble (sym at) (omega arith)
  definition_over field rest place first here over (DefinitionTree d) is at seen =
      let a = d.assignment in
      let own = field_after (length (opening_bytes d.opening)) (opening_bytes d.opening) a in
      let same = (cons_parts field own rest [] (sym first ∙ ap (λ (v : View). v.fields) seen)).0 in
      let name : field.name ≡ a.name = ap (λ (f : Field). f.name) same in
      let value : value_bytes a.value ≡ field.value = ap (λ (f : Field). f.value) (sym same) in
      first_over (length (opening_bytes d.opening ++ bytes_before_value a)) (raw_text (own_text (texts_at old.definitions n) a.name) a.value) []
      (subst (λ (x : Text). raw_limit < length (raw_text (own_text (texts_at old.definitions n) x) a.value)) name (over a.value is.assignment.value value))
      ∙ ap Some (sym (here ∙ ap (λ (f : Field). f.value_at) same ∙ definition_place d))

  -- ---- a preamble

  pub preamble_insertion : ((front rest : List ℕ) → PartAt n front rest old.preambles → HaveNext rest → new.preambles ≡ front ++ n ∷ map suc rest)
      → ((front rest : List ℕ) → PartAt n front rest old.entries → HaveNext rest → new.entries ≡ front ++ map suc rest)
      → new.named ≡ old.named → MakesWay n old.definitions new.definitions → Admits (length view.body) true old.bounds new.bounds
      → OfView kind.Preamble view (λ tree. first_too_long (placed_texts (texts_at old.definitions n) tree) ≡ None)
      → OfView kind.Preamble view (λ tree. IsInsertion n tree old new)
  preamble_insertion preambles entries named defined admits short (CommentTree h) is at seen = other_kind kind.Preamble kind.Comment (sym at) (omega arith)
  preamble_insertion preambles entries named defined admits short (EntryTree e) is at seen = other_kind kind.Entry kind.Preamble at (omega arith)
  preamble_insertion preambles entries named defined admits short (DefinitionTree d) is at seen = other_kind kind.Macro kind.Preamble at (omega arith)
  preamble_insertion preambles entries named defined admits short (PreambleTree p) is at seen = record {
    tables = λ before after trail count fits still t.
        let x = item_with (PreambleTree p) trail in
        record {
          entries = moved_numbers is_entry_tree before after x n count fits old.entries new.entries refl entries t.entries;
          preambles = put_numbers is_preamble_tree before after x n count fits old.preambles new.preambles refl preambles t.preambles;
          named = subst (λ (es : List EntryTexts). IsTableOfEntries es new.named) (sym (unlisted before after x refl refl))
              (subst (λ (k : Kept). IsTableOfEntries (gathered entry_in months (before ++ after)) k) (sym named) t.named);
          definitions = defined before after x count fits refl t.definitions;
          bounds = bounded_with new.bounds before after x (admits.all (before ++ after) t.bounds) (admits.one x.tree (sym (ap (λ (v : View). length v.body) seen)) (λ e. settled_preamble p));
        };
    texts = short (PreambleTree p) is at seen;
  }

  pub preamble_removal : ((front rest : List ℕ) → PartAt n front rest (front ++ rest) → HaveNext rest → old.preambles ≡ front ++ n ∷ map suc rest → new.preambles ≡ front ++ rest)
      → ((front rest : List ℕ) → PartAt n front rest (front ++ rest) → HaveNext rest → old.entries ≡ front ++ map suc rest → new.entries ≡ front ++ rest)
      → new.named ≡ old.named → Closes n old.definitions new.definitions → new.bounds ≡ old.bounds
      → OfView kind.Preamble view (λ tree. IsRemoval n tree old new)
  preamble_removal preambles entries named defined bounds (CommentTree h) is at seen before after trail count fits still t = other_kind kind.Preamble kind.Comment (sym at) (omega arith)
  preamble_removal preambles entries named defined bounds (EntryTree e) is at seen before after trail count fits still t = other_kind kind.Entry kind.Preamble at (omega arith)
  preamble_removal preambles entries named defined bounds (DefinitionTree d) is at seen before after trail count fits still t = other_kind kind.Macro kind.Preamble at (omega arith)
  preamble_removal preambles entries named defined bounds (PreambleTree p) is at seen before after trail count fits still t =
      let x = item_with (PreambleTree p) trail in
      record {
        entries = closed_numbers is_entry_tree before after x n count fits old.entries new.entries refl entries t.entries;
        preambles = taken_numbers is_preamble_tree before after x n count fits old.preambles new.preambles refl preambles t.preambles;
        named = subst (λ (es : List EntryTexts). IsTableOfEntries es new.named) (unlisted before after x refl refl)
            (subst (λ (k : Kept). IsTableOfEntries (gathered entry_in months (before ++ x ∷ after)) k) (sym named) t.named);
        definitions = defined before after x count fits refl t.definitions;
        bounds = subst (λ (b : Bounds). AreBounded b (before ++ after)) (sym bounds) (bounded_without old.bounds before after x t.bounds);
      }

  pub preamble_fits : (field : Field) (rest : List Field) → view.fields ≡ field ∷ rest
      → OfValue field.value (λ v. length (raw_text (texts_at old.definitions n) v) ≤ raw_limit)
      → OfView kind.Preamble view (λ tree. first_too_long (placed_texts (texts_at old.definitions n) tree) ≡ None)
  preamble_fits field rest first short (CommentTree h) is at seen = other_kind kind.Preamble kind.Comment (sym at) (omega arith)
  preamble_fits field rest first short (EntryTree e) is at seen = other_kind kind.Entry kind.Preamble at (omega arith)
  preamble_fits field rest first short (DefinitionTree d) is at seen = other_kind kind.Macro kind.Preamble at (omega arith)
  preamble_fits field rest first short (PreambleTree p) is at seen =
      let value : value_bytes p.value ≡ field.value = ap (λ (fs : List Field). value_of fs) (sym (sym first ∙ ap (λ (v : View). v.fields) seen)) in
      first_fits (length (opening_bytes p.opening)) (raw_text (texts_at old.definitions n) p.value) [] (short p.value is.value value)
    where
      value_of : List Field → Text
      value_of [] = []
      value_of (f ∷ fs) = f.value

  pub preamble_over : (field : Field) (rest : List Field) (place : ℕ) → view.fields ≡ field ∷ rest → place ≡ field.value_at
      → OfValue field.value (λ v. raw_limit < length (raw_text (texts_at old.definitions n) v))
      → OfView kind.Preamble view (λ tree. IsTooLongAt n tree old place)
  preamble_over field rest place first here over (CommentTree h) is at seen = other_kind kind.Preamble kind.Comment (sym at) (omega arith)
  preamble_over field rest place first here over (EntryTree e) is at seen = other_kind kind.Entry kind.Preamble at (omega arith)
  preamble_over field rest place first here over (DefinitionTree d) is at seen = other_kind kind.Macro kind.Preamble at (omega arith)
  preamble_over field rest place first here over (PreambleTree p) is at seen =
      let fields : field ∷ rest ≡ fields_of (PreambleTree p) = sym first ∙ ap (λ (v : View). v.fields) seen in
      let value : value_bytes p.value ≡ field.value = ap (λ (fs : List Field). value_of fs) (sym fields) in
      first_over (length (opening_bytes p.opening)) (raw_text (texts_at old.definitions n) p.value) [] (over p.value is.value value)
      ∙ ap Some (sym (here ∙ ap (λ (fs : List Field). place_of fs) fields))
    where
      value_of : List Field → Text
      value_of [] = []
      value_of (f ∷ fs) = f.value

      place_of : List Field → ℕ
      place_of [] = 0
      place_of (f ∷ fs) = f.value_at

  -- ---- a comment

  pub comment_insertion : ((front rest : List ℕ) → PartAt n front rest old.entries → HaveNext rest → new.entries ≡ front ++ map suc rest)
      → ((front rest : List ℕ) → PartAt n front rest old.preambles → HaveNext rest → new.preambles ≡ front ++ map suc rest)
      → new.named ≡ old.named → MakesWay n old.definitions new.definitions → Admits (length view.body) true old.bounds new.bounds
      → OfView kind.Comment view (λ tree. IsInsertion n tree old new)
  comment_insertion entries preambles named defined admits (EntryTree e) is at seen = other_kind kind.Entry kind.Comment at (omega arith)
  comment_insertion entries preambles named defined admits (DefinitionTree d) is at seen = other_kind kind.Macro kind.Comment at (omega arith)
  comment_insertion entries preambles named defined admits (PreambleTree p) is at seen = other_kind kind.Preamble kind.Comment at (omega arith)
  comment_insertion entries preambles named defined admits (CommentTree h) is at seen = record {
    tables = λ before after trail count fits still t.
        let x = item_with (CommentTree h) trail in
        record {
          entries = moved_numbers is_entry_tree before after x n count fits old.entries new.entries refl entries t.entries;
          preambles = moved_numbers is_preamble_tree before after x n count fits old.preambles new.preambles refl preambles t.preambles;
          named = subst (λ (es : List EntryTexts). IsTableOfEntries es new.named) (sym (unlisted before after x refl refl))
              (subst (λ (k : Kept). IsTableOfEntries (gathered entry_in months (before ++ after)) k) (sym named) t.named);
          definitions = defined before after x count fits refl t.definitions;
          bounds = bounded_with new.bounds before after x (admits.all (before ++ after) t.bounds) (admits.one x.tree (sym (ap (λ (v : View). length v.body) seen)) (λ e. settled_comment h));
        };
    texts = refl;
  }

  pub comment_removal : ((front rest : List ℕ) → PartAt n front rest (front ++ rest) → HaveNext rest → old.entries ≡ front ++ map suc rest → new.entries ≡ front ++ rest)
      → ((front rest : List ℕ) → PartAt n front rest (front ++ rest) → HaveNext rest → old.preambles ≡ front ++ map suc rest → new.preambles ≡ front ++ rest)
      → new.named ≡ old.named → Closes n old.definitions new.definitions → new.bounds ≡ old.bounds
      → OfView kind.Comment view (λ tree. IsRemoval n tree old new)
  comment_removal entries preambles named defined bounds (EntryTree e) is at seen before after trail count fits still t = other_kind kind.Entry kind.Comment at (omega arith)
  comment_removal entries preambles named defined bounds (DefinitionTree d) is at seen before after trail count fits still t = other_kind kind.Macro kind.Comment at (omega arith)
  comment_removal entries preambles named defined bounds (PreambleTree p) is at seen before after trail count fits still t = other_kind kind.Preamble kind.Comment at (omega arith)
  comment_removal entries preambles named defined bounds (CommentTree h) is at seen before after trail count fits still t =
      let x = item_with (CommentTree h) trail in
      record {
        entries = closed_numbers is_entry_tree before after x n count fits old.entries new.entries refl entries t.entries;
        preambles = closed_numbers is_preamble_tree before after x n count fits old.preambles new.preambles refl preambles t.preambles;
        named = subst (λ (es : List EntryTexts). IsTableOfEntries es new.named) (unlisted before after x refl refl)
            (subst (λ (k : Kept). IsTableOfEntries (gathered entry_in months (before ++ x ∷ after)) k) (sym named) t.named);
        definitions = defined before after x count fits refl t.definitions;
        bounds = subst (λ (b : Bounds). AreBounded b (before ++ after)) (sym bounds) (bounded_without old.bounds before after x t.bounds);
      }

-- ---- at the end

pub step_at_end : (n : ℕ) (tree : Tree) (old new : Tables) → n < 2 ^ 64 → IsInsertion n tree old new → IsStep n tree old new
step_at_end n tree old new fits i = record {
  tables = λ items trail count t. i.tables items [] trail count (omega (arith, fits)) (λ e. tt) (subst (λ (l : List Item). AreTablesOf l old) (sym (append-nil items)) t);
  texts = i.texts;
}
