-- RIS records are made of some fields alone.
use Rattle.ris_format.proofs.Words.{◌≡◌, ◌∙◌, Bool, true, [], ◌∷◌, ◌++◌, refl, ap, if◌then◌else◌, list_any, option_map_or, and_parts, bytes_eq-Decides, bytes_eq, Text, same, Record, RecordField, Kind, Article, Book, Incollection, Inproceedings, Phdthesis, Techreport, Unpublished, Misc, ris_type}
use Rattle.ris_format.proofs.Words.{kind_of_entry, is_article, publisher_field, serial_field, has_bytes, single, Tagged, tagged, lines_of, written_people, written_date, written_start, written_end, written_keywords, Fields, is_filled, text_of, written_titles, written_numbers, written_publishers}
use Rattle.ris_format.proofs.Words.{written_notes, written_fields, ris}
use Rattle.std.proofs.Common.{List, filter, Option, codes}
use Rattle.bib_names.proofs.LabelFields.{find_filtered}
use Rattle.ris_format.specs.Mapping.{ris_names, written_names}

-- the name is one of a field that a record of some kind can have, whatever its case
abbrev is_sought : Text → Bool
is_sought name = list_any (same name) ris_names

-- the fields that have such names
abbrev pub sought : Fields → Fields
sought fields = filter (λ f. is_sought f.0) fields

-- the text of a field of one of the names
text_kept : (fields : Fields) (name : Text) → is_sought name ≡ true → text_of (sought fields) name ≡ text_of fields name
text_kept fields name is =
    ap (λ (o : Option RecordField). option_map_or (λ field. field.1) o [])
    (find_filtered (is_filled name) (λ f. is_sought f.0) fields
    (λ f filled. ap is_sought ((bytes_eq-Decides f.0 name).0 (and_parts (bytes_eq f.0 name) (has_bytes f.1) filled).0) ∙ is))

publisher_kept : (kind : Kind) → is_sought (publisher_field kind) ≡ true
publisher_kept Article = refl
publisher_kept Book = refl
publisher_kept Incollection = refl
publisher_kept Inproceedings = refl
publisher_kept Phdthesis = refl
publisher_kept Techreport = refl
publisher_kept Unpublished = refl
publisher_kept Misc = refl

serial_kept : (kind : Kind) → is_sought (serial_field kind) ≡ true
serial_kept Article = refl
serial_kept Book = refl
serial_kept Incollection = refl
serial_kept Inproceedings = refl
serial_kept Phdthesis = refl
serial_kept Techreport = refl
serial_kept Unpublished = refl
serial_kept Misc = refl

names_kept : (fields : Fields) → written_names (sought fields) ≡ written_names fields
names_kept fields = λ i.
    tagged (codes "AU") (written_people (text_kept fields (codes "author") refl i))
    ∷ tagged (codes "A2") (written_people (text_kept fields (codes "editor") refl i))
    ∷ []

titles_kept : (kind : Kind) (fields : Fields) → written_titles kind (sought fields) ≡ written_titles kind fields
titles_kept kind fields = λ i.
    tagged (codes "TI") (single (text_kept fields (codes "title") refl i))
    ∷ tagged (codes "T2") (single (if is_article kind then [] else text_kept fields (codes "booktitle") refl i))
    ∷ tagged (codes "T3") (single (text_kept fields (codes "series") refl i))
    ∷ tagged (codes "JF") (single (text_kept fields (codes "journal") refl i))
    ∷ []

numbers_kept : (fields : Fields) → written_numbers (sought fields) ≡ written_numbers fields
numbers_kept fields = λ i.
    tagged (codes "PY") (written_date (text_kept fields (codes "year") refl i) (text_kept fields (codes "month") refl i))
    ∷ tagged (codes "VL") (single (text_kept fields (codes "volume") refl i))
    ∷ tagged (codes "IS") (single (text_kept fields (codes "number") refl i))
    ∷ tagged (codes "SP") (written_start (text_kept fields (codes "pages") refl i))
    ∷ tagged (codes "EP") (written_end (text_kept fields (codes "pages") refl i))
    ∷ []

publishers_kept : (kind : Kind) (fields : Fields) → written_publishers kind (sought fields) ≡ written_publishers kind fields
publishers_kept kind fields = λ i.
    tagged (codes "PB") (single (text_kept fields (publisher_field kind) (publisher_kept kind) i))
    ∷ tagged (codes "CY") (single (text_kept fields (codes "address") refl i))
    ∷ tagged (codes "SN") (single (text_kept fields (serial_field kind) (serial_kept kind) i))
    ∷ []

notes_kept : (fields : Fields) → written_notes (sought fields) ≡ written_notes fields
notes_kept fields = λ i.
    tagged (codes "UR") (single (text_kept fields (codes "url") refl i))
    ∷ tagged (codes "DO") (single (text_kept fields (codes "doi") refl i))
    ∷ tagged (codes "AB") (single (text_kept fields (codes "abstract") refl i))
    ∷ tagged (codes "N1") (single (text_kept fields (codes "note") refl i))
    ∷ tagged (codes "KW") (written_keywords (text_kept fields (codes "keywords") refl i))
    ∷ []

fields_kept : (kind : Kind) (fields : Fields) → written_fields kind (sought fields) ≡ written_fields kind fields
fields_kept kind fields = λ i.
    names_kept fields i ++ (titles_kept kind fields i ++ (numbers_kept fields i ++ (publishers_kept kind fields i ++ notes_kept fields i)))

-- the RIS record is that of the whole record
pub ris_sought : (entry : Record) → ris (record entry { fields = sought entry.fields }) ≡ ris entry
ris_sought entry =
    let kind = kind_of_entry entry.kind_name in
    ap (λ (groups : List Tagged). record { kind_name = ris_type kind; lines = lines_of (groups ++ (tagged (codes "ID") (single entry.key) ∷ [])) }) (fields_kept kind entry.fields)
