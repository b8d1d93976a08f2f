-- Which tag carries which field of a record, both ways. (dialect)
use Rattle.std.specs.Prelude.{Bool, not, ◌&&◌, List, [], ◌∷◌, ◌++◌, codes, map, filter, find, if◌then◌else◌}
use Rattle.std.specs.Option.{option_map_or}
use Rattle.std.specs.Str.{bytes_eq}
use Rattle.bib_spec.specs.Text.{Text}
use Rattle.bib_spec.specs.Records.{Record, RecordField}
use Rattle.ris_text.specs.declared.records.RisLine.{RisLine}
use Rattle.ris_text.specs.declared.records.RisRecord.{RisRecord}
use Rattle.ris_format.specs.declared.kinds.Kind.{Kind}
use Rattle.ris_format.specs.Kinds.{entry_type, ris_type, publisher_field, serial_field, is_article, kind_of_entry, kind_of_ris}
use Rattle.ris_format.specs.Lines.{has_bytes, has_lines, single, Tagged, tagged, lines_of, read_lines, values_at, value_at, or_else}
use Rattle.ris_format.specs.People.{written_people, read_people}
use Rattle.ris_format.specs.Dates.{written_date, read_year, read_month}
use Rattle.ris_format.specs.Pages.{written_start, written_end, read_pages}
use Rattle.ris_format.specs.Keywords.{written_keywords, read_keywords}

-- the fields of a record
abbrev pub Fields : Type 0
Fields = List RecordField

-- the field has a text
abbrev pub has_text : RecordField → Bool
has_text f = has_bytes f.1

-- the field has exactly this name, and a text that is not empty
abbrev pub is_filled : Text → RecordField → Bool
is_filled name field = bytes_eq field.0 name && has_bytes field.1

-- the text of the first field of exactly this name whose text is not empty; empty if there is none
abbrev pub text_of : Fields → Text → Text
text_of fields name = option_map_or (λ field. field.1) (find (is_filled name) fields) []

-- ---- the table of fields

-- a field with this name and this text
abbrev pub field : Text → Text → RecordField
field name text = (name, text)

-- the fields from `series` on that a record of the kind can have, in order
abbrev pub later_names : Kind → List Text
later_names kind =
    codes "series" ∷ codes "journal" ∷ codes "year" ∷ codes "month" ∷ codes "volume" ∷ codes "number" ∷ codes "pages"
    ∷ publisher_field kind ∷ codes "address" ∷ serial_field kind
    ∷ codes "url" ∷ codes "doi" ∷ codes "abstract" ∷ codes "note" ∷ codes "keywords" ∷ []

-- the fields that a record of the kind can have, in order
abbrev pub field_names : Kind → List Text
field_names kind =
    codes "author" ∷ codes "editor" ∷ codes "title"
    ∷ (if is_article kind then [] else codes "booktitle" ∷ []) ++ later_names kind

-- the fields that a record of some kind can have
abbrev pub ris_names : List Text
ris_names =
    codes "author" ∷ codes "editor" ∷ codes "title" ∷ codes "booktitle" ∷ codes "series" ∷ codes "journal" ∷ codes "year" ∷ codes "month"
    ∷ codes "volume" ∷ codes "number" ∷ codes "pages" ∷ codes "publisher" ∷ codes "school" ∷ codes "institution" ∷ codes "address"
    ∷ codes "issn" ∷ codes "isbn" ∷ codes "url" ∷ codes "doi" ∷ codes "abstract" ∷ codes "note" ∷ codes "keywords" ∷ []

-- ---- writing: the values of these fields by their tags, in order

-- author and editor: a line for each name
abbrev pub written_names : Fields → List Tagged
written_names fields =
    tagged (codes "AU") (written_people (text_of fields (codes "author")))
    ∷ tagged (codes "A2") (written_people (text_of fields (codes "editor")))
    ∷ []

-- the booktitle, empty for an article
abbrev pub booktitle_text : Kind → Fields → Text
booktitle_text kind fields = if is_article kind then [] else text_of fields (codes "booktitle")

-- title, booktitle, series and journal
abbrev pub written_titles : Kind → Fields → List Tagged
written_titles kind fields =
    tagged (codes "TI") (single (text_of fields (codes "title")))
    ∷ tagged (codes "T2") (single (booktitle_text kind fields))
    ∷ tagged (codes "T3") (single (text_of fields (codes "series")))
    ∷ tagged (codes "JF") (single (text_of fields (codes "journal")))
    ∷ []

-- date, volume, number, and the first and the last page
abbrev pub written_numbers : Fields → List Tagged
written_numbers fields =
    tagged (codes "PY") (written_date (text_of fields (codes "year")) (text_of fields (codes "month")))
    ∷ tagged (codes "VL") (single (text_of fields (codes "volume")))
    ∷ tagged (codes "IS") (single (text_of fields (codes "number")))
    ∷ tagged (codes "SP") (written_start (text_of fields (codes "pages")))
    ∷ tagged (codes "EP") (written_end (text_of fields (codes "pages")))
    ∷ []

-- publisher, address and serial number
abbrev pub written_publishers : Kind → Fields → List Tagged
written_publishers kind fields =
    tagged (codes "PB") (single (text_of fields (publisher_field kind)))
    ∷ tagged (codes "CY") (single (text_of fields (codes "address")))
    ∷ tagged (codes "SN") (single (text_of fields (serial_field kind)))
    ∷ []

-- URL, DOI, abstract, note and keywords
abbrev pub written_notes : Fields → List Tagged
written_notes fields =
    tagged (codes "UR") (single (text_of fields (codes "url")))
    ∷ tagged (codes "DO") (single (text_of fields (codes "doi")))
    ∷ tagged (codes "AB") (single (text_of fields (codes "abstract")))
    ∷ tagged (codes "N1") (single (text_of fields (codes "note")))
    ∷ tagged (codes "KW") (written_keywords (text_of fields (codes "keywords")))
    ∷ []

-- all fields of a record of this kind
abbrev pub written_fields : Kind → Fields → List Tagged
written_fields kind fields =
    written_names fields
    ++ (written_titles kind fields ++ (written_numbers fields ++ (written_publishers kind fields ++ written_notes fields)))

-- ---- reading: these fields from lines whose values are field texts; a field that is not there has an empty text

-- author, editor and title
abbrev pub read_names : List RisLine → Fields
read_names lines =
    field (codes "author") (read_people (values_at (codes "AU" ∷ codes "A1" ∷ []) lines))
    ∷ field (codes "editor") (read_people (values_at (codes "A2" ∷ codes "ED" ∷ []) lines))
    ∷ field (codes "title") (value_at (codes "TI" ∷ codes "T1" ∷ []) lines)
    ∷ []

-- the journal: the value after JF, else after JO, else for an article after T2
abbrev pub read_journal : Kind → List RisLine → Text
read_journal kind lines =
    or_else (value_at (codes "JF" ∷ []) lines)
    (or_else (value_at (codes "JO" ∷ []) lines)
    (if is_article kind then value_at (codes "T2" ∷ []) lines else []))

-- an article has no booktitle
abbrev pub read_booktitle : Kind → List RisLine → Fields
read_booktitle kind lines =
    if is_article kind then [] else field (codes "booktitle") (value_at (codes "T2" ∷ []) lines) ∷ []

-- series and journal
abbrev pub read_titles : Kind → List RisLine → Fields
read_titles kind lines =
    field (codes "series") (value_at (codes "T3" ∷ []) lines)
    ∷ field (codes "journal") (read_journal kind lines)
    ∷ []

-- year, month, volume, number and pages
abbrev pub read_numbers : List RisLine → Fields
read_numbers lines =
    field (codes "year") (read_year (value_at (codes "PY" ∷ codes "Y1" ∷ []) lines))
    ∷ field (codes "month") (read_month (value_at (codes "PY" ∷ codes "Y1" ∷ []) lines))
    ∷ field (codes "volume") (value_at (codes "VL" ∷ []) lines)
    ∷ field (codes "number") (value_at (codes "IS" ∷ []) lines)
    ∷ field (codes "pages") (read_pages (value_at (codes "SP" ∷ []) lines) (value_at (codes "EP" ∷ []) lines))
    ∷ []

-- publisher, address and serial number
abbrev pub read_publishers : Kind → List RisLine → Fields
read_publishers kind lines =
    field (publisher_field kind) (value_at (codes "PB" ∷ []) lines)
    ∷ field (codes "address") (value_at (codes "CY" ∷ []) lines)
    ∷ field (serial_field kind) (value_at (codes "SN" ∷ []) lines)
    ∷ []

-- URL, DOI, abstract, note and keywords
abbrev pub read_notes : List RisLine → Fields
read_notes lines =
    field (codes "url") (value_at (codes "UR" ∷ []) lines)
    ∷ field (codes "doi") (value_at (codes "DO" ∷ []) lines)
    ∷ field (codes "abstract") (value_at (codes "AB" ∷ codes "N2" ∷ []) lines)
    ∷ field (codes "note") (value_at (codes "N1" ∷ []) lines)
    ∷ field (codes "keywords") (read_keywords (values_at (codes "KW" ∷ []) lines))
    ∷ []

-- all fields of a record of this kind
abbrev pub read_fields : Kind → List RisLine → Fields
read_fields kind lines =
    read_names lines
    ++ (read_booktitle kind lines
    ++ (read_titles kind lines ++ (read_numbers lines ++ (read_publishers kind lines ++ read_notes lines))))

-- ---- from a record to RIS

-- the lines that come from a field: those that a record of the kind has if it has this field alone
abbrev pub lines_from : Kind → RecordField → List RisLine
lines_from kind f = lines_of (written_fields kind (f ∷ []))

-- the field has a text, and no line comes from it
abbrev pub is_dropped : Kind → RecordField → Bool
is_dropped kind f = has_text f && not (has_lines (lines_from kind f))

-- the names of the fields that are dropped, in the order of the record
abbrev pub dropped : Record → List Text
dropped entry = map (λ f. f.0) (filter (is_dropped (kind_of_entry entry.kind_name)) entry.fields)

-- the fields, and after them the key if it is not empty
abbrev pub written : Kind → Record → List Tagged
written kind entry = written_fields kind entry.fields ++ (tagged (codes "ID") (single entry.key) ∷ [])

-- the RIS record of a record: the RIS type of its kind, and the lines of its fields and its key
abbrev pub ris : Record → RisRecord
ris entry = record { kind_name = ris_type (kind_of_entry entry.kind_name); lines = lines_of (written (kind_of_entry entry.kind_name) entry) }

-- ---- and back

-- the record of a kind that these lines say
abbrev pub record_in : Kind → List RisLine → Record
record_in kind lines = record {
  kind_name = entry_type kind;
  key = value_at (codes "ID" ∷ []) lines;
  fields = filter has_text (read_fields kind lines);
}

-- the record of a RIS record, whose values are read as field texts
abbrev pub back : RisRecord → Record
back ris = record_in (kind_of_ris ris.kind_name) (read_lines ris.lines)
