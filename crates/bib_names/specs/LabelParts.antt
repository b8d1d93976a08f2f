-- What each field gives to a label by itself, so that the texts that entries inherit need not be read for each of them.
use Rattle.std.specs.Prelude.{◌≡◌, Bool, List, [], ◌∷◌, ◌++◌, Option, None, Some, codes, filter, unwrap_or, if◌then◌else◌}
use Rattle.std.specs.List.{list_any}
use Rattle.std.specs.Option.{option_or, option_flatten}
use Rattle.std.specs.Char.{is_ascii_digit}
use Rattle.bib_spec.specs.Text.{Text, same}
use Rattle.bib_spec.specs.Records.{missing}
use Rattle.bib_names.specs.Label.{Fields, text_in, listed_names, letters_of_names, first_three, or_anon, last_two, label_base}
use Rattle.bib_names.specs.declared.label_fields.LabelParts.{LabelParts}

-- ---- what a text gives

-- the letters of names, if there are any
abbrev pub letters_if_any : List Text → Option Text
letters_if_any [] = None
letters_if_any (name ∷ names) = Some (letters_of_names (name ∷ names) [])

-- the letters of the names that a text lists, if it lists any
abbrev pub letters_in : Text → Option Text
letters_in text = letters_if_any (listed_names text)

-- the last two digits of a year, or fewer
abbrev pub year_digits : Text → Text
year_digits text = last_two (filter is_ascii_digit text)

-- ---- what fields give

-- one of the fields has this name
abbrev pub has_field : Fields → Text → Bool
has_field fields name = list_any (λ other. same other.0 name) fields

-- what the first field of this name gives, if there is one
abbrev pub given : {X : Type 0} → (Text → X) → Fields → Text → Option X
given give fields name = if has_field fields name then Some (give (text_in fields name)) else None

-- What fields give, each part if there is such a field: the letters of author and of editor, if they list names; the first three
-- characters of `key`; the digits of the year.
abbrev pub parts_of : Fields → LabelParts
parts_of fields = record {
  author = given letters_in fields (codes "author");
  editor = given letters_in fields (codes "editor");
  key = given first_three fields (codes "key");
  year = given year_digits fields (codes "year");
}

-- the letters of the author, else of the editor, else of the key
abbrev pub letters_from : LabelParts → Text
letters_from parts = unwrap_or (option_flatten parts.author) (unwrap_or (option_flatten parts.editor) (unwrap_or parts.key []))

-- the label base of fields that give these parts
abbrev pub base_from : LabelParts → Text
base_from parts = or_anon (letters_from parts) ++ unwrap_or parts.year []

-- ---- what is inherited

-- the parts if no field gives anything
abbrev pub no_parts : LabelParts
no_parts = record { author = None; editor = None; key = None; year = None }

-- the parts of `own`, and for each that `own` lacks the inherited one
abbrev pub parts_with : LabelParts → LabelParts → LabelParts
parts_with own inherited = record {
  author = option_or own.author inherited.author;
  editor = option_or own.editor inherited.editor;
  key = option_or own.key inherited.key;
  year = option_or own.year inherited.year;
}

-- ---- laws

-- the label base of fields is made of what each of them gives by itself
abbrev pub parts_make_the_base : Type 0
parts_make_the_base = (fields : Fields) → base_from (parts_of fields) ≡ label_base fields

-- what own fields, and after them the inherited ones that are missing, give is what the own fields give, and for each part that they lack
-- what the inherited fields give
abbrev pub parts_are_inherited : Type 0
parts_are_inherited = (own others : Fields) → parts_of (own ++ missing own others) ≡ parts_with (parts_of own) (parts_of others)
