-- A file that is opened: its items are put into a list, and the tables are made.
use Rattle.bib_store.proofs.Words.{◌≡◌, ℕ, ◌+◌, ◌≤◌, ◌<◌, List, [], length, map, between, arith, slice_get-get_or, item, item_at, Option, Some, None, option_map, refl, sym, ◌∙◌, ap, ap₂, subst, none-some, same_Some, slice_get_within, get_or_from_slice_get, slice_get-map, file_limit, Text, Reads, IsOpenable, name_limit, IsTree, tree_bytes, IsLayoutOf}
use Rattle.bib_store.proofs.Words.{Note, Tables, stored, all_stored, OfReading, AreNotesOf, file_of, IsKeptAs, IsKept}
use Rattle.std.proofs.Common.{slice_get, get_or}
use Rattle.std.proofs.lemmas.List.Edits.{get_or-between}
use Rattle.std.specs.List.{All}
use Rattle.bib_spec.specs.Reading.{IsItem}
use Rattle.bib_scan.specs.View.{View}
use Rattle.bib_spec.specs.Reading as reading
use Rattle.bib_scan.specs.Layout.{Places}
use Rattle.bib_scan.specs.Note.{note_of}
use Rattle.bib_scan.proofs.NoteLaws.{same_note}
use Rattle.bib_items.specs.declared.list.Item.{Item}
use Rattle.bib_store.specs.Stored.{IsTaken, AreTablesOfFile}
use Rattle.bib_store.specs.TablesOf.{IsNotedAs}
use Rattle.bib_store.proofs.Followed.{length-taken}
use Rattle.bib_store.proofs.KeptItems.{file-stored}

-- ---- the file

pub taken : (bytes front : Text) (items : List Item) (places : Places) (notes : List Note) → (length bytes ≤ file_limit) × IsLayoutOf bytes places → OfReading bytes (λ db. front ≡ db.front) →
    OfReading bytes (λ db. items ≡ all_stored db.items) → notes ≡ places.notes → IsTaken bytes front items notes
taken bytes front items places notes (short, is) front_is items_are noted = record {
  db = is.0;
  reads = is.1;
  short = short;
  front_is = front_is is.0 is.1;
  items_are = items_are is.0 is.1;
  notes_are = noted ∙ ap (λ (p : Places). p.notes) is.2;
}

pub taken_file : (bytes front : Text) (items : List Item) (notes : List Note) → IsTaken bytes front items notes → file_of front items ≡ bytes
taken_file bytes front items notes t = ap₂ file_of t.front_is t.items_are ∙ file-stored t.db ∙ t.reads.bytes

-- what is noted of an item is noted of its bytes
some_mapped : {X Y : Type 0} → (f : X → Y) (o : Option X) (y : Y) → option_map f o ≡ Some y → (x : X) × (o ≡ Some x) × (y ≡ f x)
some_mapped f None y is = absurd (none-some y is)
some_mapped f (Some x) y is = (x, refl, sym (same_Some (f x) y is))

pub notes_of : (items : List reading.Item) (notes : List Note) → All (IsItem name_limit) items → notes ≡ map (λ i. note_of i.tree) items → AreNotesOf notes (all_stored items)
notes_of items notes all are n note kept noted at tree is same =
    let f = λ (i : reading.Item). note_of i.tree in
    let of_note = some_mapped f (slice_get items n) note (sym (slice_get-map f items n) ∙ ap (λ (ns : List Note). slice_get ns n) (sym are) ∙ noted) in
    let here = get_or_from_slice_get items n of_note.0 of_note.0 of_note.1 in
    let good : IsTree name_limit of_note.0.tree = subst (λ (i : reading.Item). IsTree name_limit i.tree) here (all n of_note.0 (slice_get_within items n of_note.0 of_note.1)).tree in
    let whole : Some (stored of_note.0) ≡ Some kept = sym (slice_get-map stored items n ∙ ap (option_map stored) of_note.1) ∙ at in
    let body : tree_bytes of_note.0.tree ≡ kept.body = ap (λ (i : Item). i.body) (same_Some (stored of_note.0) kept whole) in
    of_note.2 ∙ same_note of_note.0.tree tree good is (body ∙ sym same)

pub taken_notes : (bytes front : Text) (items : List Item) (notes : List Note) → IsTaken bytes front items notes → AreNotesOf notes items
taken_notes bytes front items notes t = subst (AreNotesOf notes) (sym t.items_are) (notes_of t.db.items notes t.reads.items t.notes_are)

-- the note of an item that was put in, where it is seen
pub noted_between : (notes : List Note) (items : List Item) (from count n at : ℕ) (note : Option Note) (body : Text) (view : View) → AreNotesOf notes (between from (from + count) items)
    → n < count → at ≡ from + n → from + count ≤ length items → note ≡ slice_get notes n → body ≡ (item_at items at).body → view.body ≡ body → IsNotedAs note view
noted_between notes items from count n at None body view are low is within noted whole seen = tt
noted_between notes items from count n at (Some note) body view are low is within noted whole seen =
    let long : length (between from (from + count) items) ≡ count = length-taken items from (from + count) (omega arith) within ∙ omega arith in
    let there : slice_get (between from (from + count) items) n ≡ Some (item_at items at)
    = slice_get-get_or (between from (from + count) items) n (item [] []) (omega (arith, low, long))
    ∙ ap Some (get_or-between items from (from + count) n (item [] []) (omega (arith, low)) ∙ ap (λ (k : ℕ). get_or items k (item [] [])) (sym is)) in
    λ i tree same. are n note (item_at items at) (sym noted) there i.tree tree (sym (ap (λ (v : View). v.body) same) ∙ seen ∙ whole)

pub no_notes : (notes : List Note) (kept : List Item) → notes ≡ [] → AreNotesOf notes kept
no_notes notes kept none = subst (λ (ns : List Note). AreNotesOf ns kept) (sym none) (λ n note item noted. absurd (none-some note noted))

pub taken_kept : (bytes front : Text) (items : List Item) (notes : List Note) (t : IsTaken bytes front items notes) (tables : Tables) → AreTablesOfFile bytes tables → IsKept front items tables
taken_kept bytes front items notes t tables are =
    let file : bytes ≡ file_of front items = sym (taken_file bytes front items notes t) in
    let kept : IsKeptAs t.db front items tables = record {
      opens = record {
        reads = subst (λ (f : Text). Reads f t.db) file t.reads;
        short = subst (λ (f : Text). length f ≤ file_limit) file t.short;
        texts = are.texts t.db t.reads;
      };
      front = t.front_is;
      items = t.items_are;
      tables = are.tables t.db t.reads;
      len = are.len ∙ ap (length {A = ℕ}) file;
    } in
    record { db = t.db; is = kept }

pub taken_opens : (bytes front : Text) (items : List Item) (notes : List Note) (tables : Tables) → IsTaken bytes front items notes → AreTablesOfFile bytes tables → IsOpenable bytes
taken_opens bytes front items notes tables t are = (t.db, record { reads = t.reads; short = t.short; texts = are.texts t.db t.reads })
