-- The fields of entries of a file that can be opened can be read, and what is gathered of them.
use Rattle.bib_store.proofs.Words.{◌≡◌, ℕ, ◌≤◌, List, [], ◌∷◌, ◌++◌, length, map, Some, None, refl, sym, ◌∙◌, ap, subst, AllZip, AllByRecursion, option_map_or, same_Some, slice_get_within, get_or_from_slice_get, name_limit, Text, Row, Value, Entry, Tree, row_bytes, IsRow, IsTree, opening_bytes}
use Rattle.bib_store.proofs.Words.{Reading, Reads, Macros, months, macros_at, raw_text, raw_texts_in, raw_limit, too_long_at, fields_after, fields_of, one_value, RecordField, entries_of, own_fields, field_of, fields_at, missing, macros_seen, IsReadable, IsFieldOf, with_fields, entry_numbers}
use Rattle.std.proofs.Common.{slice_get}
use Rattle.std.proofs.lemmas.List.Elements.{recursion_from_All}
use Rattle.bib_spec.specs.Tree.{IsEntry}
use Rattle.bib_spec.specs.Reading.{Item}
use Rattle.folded_map.proofs.Entries.{name_short}
use Rattle.bib_definitions.specs.declared.macros_at.MacrosAt.{MacrosAt}
use Rattle.bib_store.proofs.GatheredFields.{gathered_missing}
use Rattle.bib_store.proofs.EntryItems.{IsEntryAt}
use Rattle.bib_store.proofs.ShortTexts.{IsShort, texts_short}

-- each field is that of its row
pub zip_rows : (before : Text) (rows : List Row) → AllByRecursion (IsRow name_limit) rows → AllZip IsFieldOf (fields_after before rows) rows
zip_rows before [] h = tt
zip_rows before (row ∷ rows) h = (record { name = refl; is = h.0.assignment.value; value = refl }, zip_rows (before ++ row_bytes row) rows h.1)

pub readable_rows : (macros : Macros) (before : Text) (rows : List Row) → AllByRecursion (IsRow name_limit) rows → AllByRecursion IsShort (map (raw_text macros) (map (λ row. row.assignment.value) rows))
    → AllByRecursion (IsReadable macros) (fields_after before rows)
readable_rows macros before [] h short = tt
readable_rows macros before (row ∷ rows) h short = (
  record {
    name = name_short row.assignment.name h.0.assignment.name;
    value = record {
      is = (row.assignment.value, h.0.assignment.value, refl);
      short = λ v is same. subst (λ (w : Value). length (raw_text macros w) ≤ raw_limit) (sym (one_value v row.assignment.value is h.0.assignment.value same)) short.0;
    };
  },
  readable_rows macros (before ++ row_bytes row) rows h.1 short.1,
)

-- the rows of an entry of a file
pub rows_of : (file : Text) (db : Reading) (n : ℕ) (item : Item) → Reads file db → (it : IsEntryAt db n item) → AllByRecursion (IsRow name_limit) it.entry.rows
rows_of file db n item reads it =
    let lt = slice_get_within db.items it.number item it.stands in
    let tree : IsTree name_limit item.tree = subst (λ (i : Item). IsTree name_limit i.tree) (get_or_from_slice_get db.items it.number item item it.stands) (reads.items it.number item lt).tree in
    let entry : IsEntry name_limit it.entry = subst (λ (t : Tree). IsTree name_limit t) it.is tree in
    recursion_from_All (IsRow name_limit) it.entry.rows entry.rows

abbrev before_rows : Entry → Text
before_rows e = opening_bytes e.opening ++ e.key ++ e.space_after_key

-- the fields of an entry are those of its rows
pub fields_zip : (file : Text) (db : Reading) (n : ℕ) (item : Item) → Reads file db → (it : IsEntryAt db n item) → AllZip IsFieldOf (fields_of item.tree) it.entry.rows
fields_zip file db n item reads it =
    subst (λ (t : Tree). AllZip IsFieldOf (fields_of t) it.entry.rows) (sym it.is) (zip_rows (before_rows it.entry) it.entry.rows (rows_of file db n item reads it))

-- they can be read if the file can be opened
pub fields_readable : (file : Text) (db : Reading) (n : ℕ) (item : Item) → Reads file db → too_long_at db ≡ None → (it : IsEntryAt db n item) → AllByRecursion (IsReadable (macros_at months db.items it.number)) (fields_of item.tree)
fields_readable file db n item reads none it =
    let macros = macros_at months db.items it.number in
    let short : AllByRecursion IsShort (map (raw_text macros) (map (λ row. row.assignment.value) it.entry.rows))
    = subst (λ (t : Tree). AllByRecursion IsShort (raw_texts_in macros t)) it.is (texts_short db none it.number item it.stands) in
    subst (λ (t : Tree). AllByRecursion (IsReadable macros) (fields_of t)) (sym it.is) (readable_rows macros (before_rows it.entry) it.entry.rows (rows_of file db n item reads it) short)

-- the macros before an entry are those before the item that has its number
pub seen_at : (db : Reading) (n m : ℕ) (item : Item) (it : IsEntryAt db n item) (macros : MacrosAt) → slice_get (entry_numbers db.items) n ≡ Some m → macros_seen macros ≡ macros_at months db.items m
    → macros_seen macros ≡ macros_at months db.items it.number
seen_at db n m item it macros numbered seen = seen ∙ ap (macros_at months db.items) (same_Some m it.number (sym numbered ∙ it.numbered))

-- what is gathered of an entry of a file is what is missing of its own fields
pub gathered_of : (db : Reading) (n : ℕ) (item : Item) (it : IsEntryAt db n item) (old new : List RecordField) (macros : MacrosAt) → macros_seen macros ≡ macros_at months db.items it.number
    → new ≡ with_fields old (map (field_of (macros_seen macros)) it.entry.rows) → new ≡ old ++ missing old (fields_at (entries_of db) n)
gathered_of db n item it old new macros seen is =
    is
    ∙ ap (λ (s : Macros). with_fields old (map (field_of s) it.entry.rows)) seen
    ∙ gathered_missing old (map (field_of (macros_at months db.items it.number)) it.entry.rows)
    ∙ ap (λ o. old ++ missing old (option_map_or own_fields o [])) (sym it.texts)
