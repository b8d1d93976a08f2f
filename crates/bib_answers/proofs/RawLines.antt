-- Entries as they are written.
use Rattle.bib_answers.proofs.Words.{◌≡◌, ◌∙◌, ℕ, ◌<◌, List, [], length, Option, Some, option_map, option_map_or, slice_get, refl, sym, ap, Text, Item, Reading, EntryTexts, View, view_of, key_of, entries_of, parent, entry_items, key_at}
use Rattle.std.proofs.Common.{option_and_then}
use Rattle.bib_scan.specs.View.{head_of}
use Rattle.bib_store.specs.Readings.{entry_numbers}
use Rattle.bib_store.proofs.EntryItems.{entry_at, entry_stands}
use Rattle.entry_json.specs.RawJson.{Written, WrittenEntry}
use Rattle.entry_json.specs.declared.raw.Standing.{Standing}
use Rattle.bib_answers.specs.Json.{file_of}
use Rattle.bib_answers.specs.NamedFiles.{NamedFiles}
use Rattle.bib_answers.specs.Raw.{RawIn, raw_in, raw_item, written_entry, counted, all_written, standing_of}
use Rattle.bib_answers.proofs.WrittenFields.{IsSeen}

-- what is told of an entry, by its item
told_of_item : (depth : ℕ) (files : Option NamedFiles) (r : Reading) (n m : ℕ) (item : Item) → slice_get (entry_numbers r.items) n ≡ Some m → slice_get (entry_items r.items) n ≡ Some item
    → raw_in depth files r n ≡ Some (written_entry depth files r n m item, file_of files r n)
told_of_item depth files r n m item numbered listed =
    ap (λ (o : Option ℕ). option_and_then (raw_item depth files r n) o) numbered
    ∙ ap (λ (o : Option Item). option_map (λ item. (written_entry depth files r n m item, file_of files r n)) o) (entry_stands r n m item numbered listed)

-- an entry is told
pub raw_told : (depth : ℕ) (files : Option NamedFiles) (r : Reading) (n : ℕ) → n < length (entries_of r)
    → (one : RawIn) × (raw_in depth files r n ≡ Some one) × (one.0.key ≡ key_at (entries_of r) n)
raw_told depth files r n within =
    let e = entry_at r n within in (
      (written_entry depth files r n e.1.number e.0, file_of files r n),
      told_of_item depth files r n e.1.number e.0 e.1.numbered e.1.listed,
      ap key_of e.1.is ∙ sym (ap (λ (o : Option EntryTexts). option_map_or (λ (x : EntryTexts). x.key) o []) e.1.texts),
    )

abbrev pub entry_with : Text → Text → Option Text → List Written → Standing → WrittenEntry
entry_with kind key parent fields standing = record { kind = kind; key = key; parent = parent; fields = fields; standing = standing }

-- what is told of an entry in a file
abbrev told : WrittenEntry → Option Text → RawIn
told entry file = (entry, file)

made : (kind kind1 key key1 : Text) (p p1 : Option Text) (fields fields1 : List Written) (standing standing1 : Standing) (file file1 : Option Text)
    → kind ≡ kind1 → key ≡ key1 → p ≡ p1 → fields ≡ fields1 → standing ≡ standing1 → file ≡ file1
    → told (entry_with kind1 key1 p1 fields1 standing1) file1 ≡ told (entry_with kind key p fields standing) file
made kind kind1 key key1 p p1 fields fields1 standing standing1 file file1 a b c d e f = rw (a, b, c, d, e, f) refl

-- an entry is told as it is seen
pub raw_seen : (depth : ℕ) (files : Option NamedFiles) (r : Reading) (n m : ℕ) (view : View) (kind key : Text) (p : Option Text) (fields : List Written) (standing : Standing) (file : Option Text)
    → n < length (entries_of r) → slice_get (entry_numbers r.items) n ≡ Some m → IsSeen r n view → kind ≡ view.type_name → key ≡ view.key
    → p ≡ option_map (key_at (entries_of r)) (parent (entries_of r) n) → fields ≡ counted (all_written depth r n) → standing ≡ standing_of files r m → file ≡ file_of files r n
    → raw_in depth files r n ≡ Some (entry_with kind key p fields standing, file)
raw_seen depth files r n m view kind key p fields standing file within numbered seen kind_is key_is p_is fields_are stands file_is =
    let e = entry_at r n within in
    let is : view ≡ view_of e.0 = seen e.0 e.1.listed in
    told_of_item depth files r n m e.0 numbered e.1.listed
    ∙ ap (λ (one : RawIn). Some one)
    (made kind (head_of e.0.tree).type_name key (key_of e.0.tree) p (option_map (key_at (entries_of r)) (parent (entries_of r) n)) fields (counted (all_written depth r n)) standing (standing_of files r m) file (file_of files r n)
    (kind_is ∙ ap (λ (v : View). v.type_name) is) (key_is ∙ ap (λ (v : View). v.key) is) p_is fields_are stands file_is)
