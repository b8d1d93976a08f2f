-- Which fields lines come from, told field by field: the names of the table, and what its rules ask of their texts.
use Rattle.std.specs.Prelude.{ℕ, Bool, true, false, not, ◌&&◌, ◌||◌, List, [], ◌∷◌, codes, is_some, if◌then◌else◌}
use Rattle.std.specs.List.{list_any}
use Rattle.std.specs.Str.{bytes_eq}
use Rattle.bib_spec.specs.Text.{Text, is_space}
use Rattle.bib_names.specs.Label.{listed_names}
use Rattle.ris_format.specs.declared.kinds.Kind.{Kind}
use Rattle.ris_format.specs.People.{is_broken, written_name}
use Rattle.ris_format.specs.Dates.{has_slash, month_digits}
use Rattle.ris_format.specs.Keywords.{is_comma_byte}
use Rattle.ris_format.specs.Mapping.{field_names}

-- there is a text
abbrev pub has_texts : List Text → Bool
has_texts [] = false
has_texts (text ∷ texts) = true

-- the name has a word and is not refused
abbrev pub is_written_name : Text → Bool
is_written_name name = has_texts (written_name name)

-- none of the names is refused, and one has a word
abbrev pub are_written_names : List Text → Bool
are_written_names names = list_any is_written_name names && not (list_any is_broken names)

-- the list has a name with a word, and neither the list nor a name of it is refused
abbrev pub are_written_people : Text → Bool
are_written_people list = are_written_names (listed_names list)

-- the byte belongs to a keyword: it is no comma, and no white space
abbrev pub is_of_keyword : ℕ → Bool
is_of_keyword byte = not (is_comma_byte byte) && not (is_space byte)

-- the text has a keyword
abbrev pub has_keyword : Text → Bool
has_keyword text = list_any is_of_keyword text

-- the rules of this name leave a line of the text, which is not empty
abbrev pub is_written : Text → Text → Bool
is_written name text =
    if bytes_eq name (codes "author") || bytes_eq name (codes "editor") then are_written_people text
    else if bytes_eq name (codes "year") then not (has_slash text)
    else if bytes_eq name (codes "month") then is_some (month_digits text)
    else if bytes_eq name (codes "keywords") then has_keyword text
    else true

-- a line comes from a field of this name with this text, which is not empty: the table has the name, and the rules of the
-- name leave a line
abbrev pub is_carried : Kind → Text → Text → Bool
is_carried kind name text = list_any (bytes_eq name) (field_names kind) && is_written name text

-- the names of fields of which the table has a line for each type of record, and no rule drops a text
abbrev pub always_names : List Text
always_names =
    codes "title" ∷ codes "series" ∷ codes "journal" ∷ codes "volume" ∷ codes "number" ∷ codes "pages" ∷ codes "address" ∷ codes "url"
    ∷ codes "doi" ∷ codes "abstract" ∷ codes "note" ∷ []
