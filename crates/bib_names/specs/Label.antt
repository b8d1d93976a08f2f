-- Labels and made keys. All rules here are this project's own, and not those of the style `alpha`.
use Rattle.std.specs.Prelude.{ℕ, suc, ◌-◌, ◌&&◌, Bool, ◌==◌, nat_lt, nat_le, List, [], ◌∷◌, ◌++◌, length, take, drop, slice_index_or, map, filter, count_by, codes, Option, None, Some, if◌then◌else◌}
use Rattle.std.specs.List.{flat_map, find, list_all, range_with_len}
use Rattle.std.specs.Option.{option_map_or}
use Rattle.std.specs.Char.{is_ascii_digit, is_ascii_alphanumeric}
use Rattle.std.specs.Str.{bytes_eq}
use Rattle.bib_spec.specs.Text.{Text, opened_before, closed_before}
use Rattle.bib_spec.specs.Records.{RecordField}
use Rattle.bib_spec.specs.MadeKeys.{candidate, base_limit}
use Rattle.bib_names.specs.Special.{text_chars}
use Rattle.bib_names.specs.NameList.{names_of}
use Rattle.bib_names.specs.Name.{parts_of}
use Rattle.bib_names.specs.Template.{Pattern}
use Rattle.bib_names.specs.Printing.{printed}
use Rattle.bib_names.specs.declared.template.Part.{Part}
use Rattle.bib_names.specs.declared.template.Part.TheVariants.{Von, Last}
use Rattle.bib_names.specs.declared.template.Form.{Form}
use Rattle.bib_names.specs.declared.template.Form.TheVariants.{Initials, Words}
use Rattle.bib_names.specs.declared.template.Group.{Group}

-- ---- the names of a record

-- the fields of a record; labels and made keys read nothing else of it
abbrev pub Fields : Type 0
Fields = List RecordField

-- the text of the first field of exactly this name, empty if there is none
abbrev pub text_in : Fields → Text → Text
text_in fields name = option_map_or (λ field. field.1) (find (λ field. bytes_eq field.0 name) fields) []

-- the braces of the text balance: `IsBalanced` as a test that computes (btxdoc 4)
abbrev pub balances : Text → Bool
balances text =
    closed_before text (length text) == opened_before text (length text)
    && list_all (λ n. nat_le (closed_before text n) (opened_before text n)) (range_with_len 0 (length text))

-- the names of a list, none if its braces do not balance
abbrev pub listed_names : Text → List Text
listed_names text = if balances text then names_of text else []

-- the names of the author; if there are none, the names of the editor
abbrev pub names_in : Fields → List Text
names_in fields =
    let authors = listed_names (text_in fields (codes "author")) in
    if length authors == 0 then listed_names (text_in fields (codes "editor")) else authors

-- ---- the letters of a label

-- the group that prints one part of a name, with no text around it
abbrev pub group : Part → Form → Option Text → Group
group part form between = record { pre = []; part = part; form = form; between = between; post = []; trail = [] }

-- `{v{}}{l{}}`: the initials of von and Last
abbrev pub initials_template : Pattern
initials_template = record { front = []; groups = group Von Initials (Some []) ∷ group Last Initials (Some []) ∷ [] }

-- `{ll}`: the words of Last
abbrev pub last_template : Pattern
last_template = record { front = []; groups = group Last Words None ∷ [] }

-- the print of a name, nothing if the name is refused
abbrev pub print_of : Pattern → Text → Text
print_of t name = if balances name then option_map_or (printed t) (parts_of name) [] else []

-- the initials of von and Last of each name, joined
abbrev pub initials_of : List Text → Text
initials_of names = flat_map (print_of initials_template) names

-- the first three text characters, ordinary braces left out
abbrev pub first_three : Text → Text
first_three text = flat_map (λ char. char) (take 3 (text_chars text))

-- the letters of one name: its initials; if these are fewer than two text characters, the first three of Last
abbrev pub letters_of_one : Text → Text
letters_of_one name =
    let initials = print_of initials_template name in
    if nat_lt (length (text_chars initials)) 2 then first_three (print_of last_template name) else initials

-- the last name is `others`, byte for byte
abbrev pub ends_with_others : List Text → Bool
ends_with_others names = bytes_eq (slice_index_or names (length names - 1) []) (codes "others")

-- The letters of two names or more. Up to four names: the initials of each, and `+` for a last name `others`. More names: the
-- initials of the first three, and `+`.
abbrev pub letters_of_many : List Text → Text
letters_of_many names =
    if nat_lt 4 (length names) then initials_of (take 3 names) ++ codes "+"
    else if ends_with_others names then initials_of (take (length names - 1) names) ++ codes "+"
    else initials_of names

-- the letters of names; if there are none, the first three text characters of the field `key`
abbrev pub letters_of_names : List Text → Text → Text
letters_of_names [] key = first_three key
letters_of_names (name ∷ []) key = letters_of_one name
letters_of_names (name ∷ next ∷ more) key = letters_of_many (name ∷ next ∷ more)

-- the letters of a record's label, before the digits of its year
abbrev pub letters_of_fields : Fields → Text
letters_of_fields fields = letters_of_names (names_in fields) (text_in fields (codes "key"))

-- the names of the fields that labels and made keys are made of
abbrev pub label_names : List Text
label_names = codes "author" ∷ codes "editor" ∷ codes "key" ∷ codes "year" ∷ []

-- ---- labels and made keys

-- the text, or `anon` if it is empty
abbrev pub or_anon : Text → Text
or_anon text = if length text == 0 then codes "anon" else text

-- the last two digits, or all if there are fewer
abbrev pub last_two : Text → Text
last_two digits = drop (length digits - 2) digits

-- the letters, or `anon`, and the last two digits of the year, or fewer
abbrev pub label_base : Fields → Text
label_base fields = or_anon (letters_of_fields fields) ++ last_two (filter is_ascii_digit (text_in fields (codes "year")))

-- the letters and digits of a label base, or `anon`, cut to the length that the base of a made key may have
abbrev pub key_letters : Text → Text
key_letters base = take base_limit (or_anon (filter is_ascii_alphanumeric base))

-- the base of a record's made key, from its label base
abbrev pub key_base : Fields → Text
key_base fields = key_letters (label_base fields)

-- how many of these bases are the same as this one, byte for byte
abbrev pub count_of : Text → List Text → ℕ
count_of base bases = count_by (bytes_eq base) bases

-- The label of a base that is `count` times in the list, `earlier` times of them before this record: the base, and if it is
-- there more than once letters after it, a for the first time, b for the second and so on.
abbrev pub label_of : Text → ℕ → ℕ → Text
label_of base count earlier = if nat_lt 1 count then candidate base (suc earlier) else base

-- the label of the n-th record
abbrev pub label_at : List Text → ℕ → Text
label_at bases n =
    let base = slice_index_or bases n [] in label_of base (count_of base bases) (count_of base (take n bases))

-- the labels of records with these bases
abbrev pub labels_of : List Text → List Text
labels_of bases = map (label_at bases) (range_with_len 0 (length bases))
