-- Names of persons: one RIS line for each, where the suffix comes after the first name. (dialect)
use Rattle.std.specs.Prelude.{ℕ, ◌+◌, Bool, true, false, not, ◌==◌, ◌&&◌, ◌||◌, nat_lt, List, [], ◌∷◌, ◌++◌, length, map, codes, Option, None, is_none, if◌then◌else◌}
use Rattle.std.specs.List.{flat_map, list_any, list_all, slice_range, join_by}
use Rattle.std.specs.Option.{option_map_or}
use Rattle.std.specs.Str.{bytes_eq}
use Rattle.std.specs.Char.{to_ascii_lowercase}
use Rattle.bib_spec.specs.Bytes.{open_brace, close_brace}
use Rattle.bib_spec.specs.Text.{Text, is_space}
use Rattle.bib_spec.specs.Texts.{is_empty}
use Rattle.bib_text.specs.Trimming.{trimmed}
use Rattle.bib_names.specs.Places.{between}
use Rattle.bib_names.specs.NameList.{names_of}
use Rattle.bib_names.specs.Words.{NameWord}
use Rattle.bib_names.specs.Name.{commas, parts_of}
use Rattle.bib_names.specs.Label.{balances}
use Rattle.bib_names.specs.declared.name.Name.{Name}
use Rattle.ris_format.specs.Lines.{has_bytes}

-- ---- the parts of a name as texts

-- where the word ends in its name
abbrev pub word_end : NameWord → ℕ
word_end word = word.at + length word.text

-- where the last of these words ends
abbrev pub words_end : NameWord → List NameWord → ℕ
words_end word [] = word_end word
words_end word (next ∷ words) = words_end next words

-- the slice of a name from a place to where the last of these words ends
abbrev pub to_last_end : Text → ℕ → List NameWord → Text
to_last_end name start [] = []
to_last_end name start (word ∷ words) = slice_range name start (words_end word words)

-- the slice of a name from the first of these words to the last
abbrev pub part_text : Text → List NameWord → Text
part_text name [] = []
part_text name (word ∷ words) = to_last_end name word.at (word ∷ words)

-- the words of von and Last, none if Last has none
abbrev pub family : List NameWord → List NameWord → List NameWord
family von [] = []
family von (word ∷ words) = von ++ (word ∷ words)

-- a name's parts as texts: von and Last together, First, Jr
pub record Person : Type 0 where
  pub last : Text
  pub first : Text
  pub suffix : Text

-- the parts of this name as texts, each a slice of the name
abbrev pub person : Text → Name → Person
person name parts = record {
  last = part_text name (family parts.von parts.last);
  first = part_text name parts.first;
  suffix = part_text name parts.jr;
}

-- two texts with a comma and a space between them
abbrev pub with_comma : Text → Text → Text
with_comma text more = text ++ (codes ", " ++ more)

-- ---- writing

-- `Last`, `Last, First` or `Last, First, Jr`
abbrev pub ris_name : Person → Text
ris_name p =
    if has_bytes p.suffix then with_comma p.last (with_comma p.first p.suffix)
    else if has_bytes p.first then with_comma p.last p.first
    else p.last

-- the name has a word
abbrev pub is_somebody : Person → Bool
is_somebody p = has_bytes p.last || has_bytes p.first || has_bytes p.suffix

-- the parts of a name, none if the name is refused: its braces do not balance, or it has more than two commas
abbrev pub taken_apart : Text → Option Name
taken_apart name = if balances name then parts_of name else None

-- the name is refused
abbrev pub is_broken : Text → Bool
is_broken name = is_none (taken_apart name)

-- the braces of the list do not balance, or one of its names is refused
abbrev pub is_refused : Text → Bool
is_refused list = not (balances list) || list_any is_broken (names_of list)

-- the value for a person, if the name has a word
abbrev pub written_person : Person → List Text
written_person p = if is_somebody p then ris_name p ∷ [] else []

-- the value for a name, if it has a word and is not refused
abbrev pub written_name : Text → List Text
written_name name = option_map_or (λ parts. written_person (person name parts)) (taken_apart name) []

-- the values for all names that have a word; no value if one of the names is refused
abbrev pub written_names : List Text → List Text
written_names names = if list_any is_broken names then [] else flat_map written_name names

-- the values for all names of a list that have a word; no value if the list or one of its names is refused
abbrev pub written_people : Text → List Text
written_people list = if is_refused list then [] else flat_map written_name (names_of list)

-- ---- reading

-- the texts between the commas of a value at depth 0, without white space at their ends
abbrev pub name_pieces : Text → List Text
name_pieces value = map (λ s. trimmed s.text) (between 1 value 0 (commas value))

-- the text in braces
abbrev pub in_braces : Text → Text
in_braces text = open_brace ∷ text ++ close_brace ∷ []

-- the text, or a pair of braces if it is empty
abbrev pub or_braces : Text → Text
or_braces text = if is_empty text then in_braces [] else text

-- `Last`, `Last, First` or `Last, Jr, First`; an empty First before a Jr is a pair of braces
abbrev pub bib_name : Person → Text
bib_name p =
    if has_bytes p.suffix then with_comma p.last (with_comma p.suffix (or_braces p.first))
    else if has_bytes p.first then with_comma p.last p.first
    else p.last

-- the person that these pieces of a value name
abbrev pub person_of : List Text → Person
person_of (last ∷ first ∷ suffix ∷ _) = record { last = last; first = first; suffix = suffix }
person_of (last ∷ first ∷ []) = record { last = last; first = first; suffix = [] }
person_of (last ∷ []) = record { last = last; first = []; suffix = [] }
person_of [] = record { last = []; first = []; suffix = [] }

-- No word after white space begins with an `a`, in either case, so no word is `and`. The first argument says whether white space
-- is before the text.
abbrev pub lacks_and : Bool → Text → Bool
lacks_and after_space [] = true
lacks_and after_space (b ∷ text) = not (after_space && to_ascii_lowercase b == 97) && lacks_and (is_space b) text

-- a value that would be read as another name: it has more than two commas, or is a list of several names
abbrev pub is_opaque : Text → Bool
is_opaque value = nat_lt 2 (length (commas value)) || nat_lt 1 (length (names_of value))

-- a value whose braces balance, as a name of a list: in braces if it would be read as another name
abbrev pub read_balanced : Text → Text
read_balanced value = if is_opaque value then in_braces value else bib_name (person_of (name_pieces value))

-- a value as a name of a list; a value whose braces do not balance is unchanged
abbrev pub read_name : Text → Text
read_name value = if balances value then read_balanced value else value

-- the names joined by ` and `
abbrev pub name_list : List Text → Text
name_list names = join_by (λ name. name) (codes " and ") names

-- the list of names that these values say
abbrev pub read_people : List Text → Text
read_people values = name_list (map read_name values)

-- ---- the profile

-- the name is written as its parts say, with a Last
abbrev pub is_plain_person : Text → Person → Bool
is_plain_person name p = has_bytes p.last && bytes_eq (bib_name p) name

-- the name is written as its parts say, with a Last
abbrev pub is_plain_name : Text → Bool
is_plain_name name = option_map_or (λ parts. is_plain_person name (person name parts)) (taken_apart name) false

-- the list is one or more such names, joined by ` and `
abbrev pub are_plain_names : Text → Bool
are_plain_names list =
    balances list && bytes_eq (name_list (names_of list)) list && list_all is_plain_name (names_of list)
