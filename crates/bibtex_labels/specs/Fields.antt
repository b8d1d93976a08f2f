-- The fields of a record that a label is made of, and its names.
use Rattle.std.specs.Prelude.{Bool, ◌||◌, List, [], ◌∷◌, Result, Ok, Err, codes, if◌then◌else◌}
use Rattle.std.specs.List.{list_all}
use Rattle.std.specs.Str.{bytes_eq}
use Rattle.bib_spec.specs.Text.{Text, is_space}
use Rattle.bib_spec.specs.Texts.{is_empty}
use Rattle.bib_spec.specs.Records.{Record}
use Rattle.bib_names.specs.Label.{Fields, text_in, balances}
use Rattle.bib_names.specs.NameList.{names_of}
use Rattle.bib_names.specs.declared.fault.NameFault.{NameFault}
use Rattle.bib_names.specs.declared.fault.NameFault.TheVariants.{UnbalancedName}
use Rattle.bibtex_names.specs.NamesInLists.{parts_in}
use Rattle.bibtex_names.specs.declared.name.Name.{Name}

-- ---- fields

-- the text of a field, empty if it is white space alone: `field.or.null`
abbrev pub field_in : Fields → Text → Text
field_in fields name = let text = text_in fields name in if list_all is_space text then [] else text

-- the first text, or the second if the first is empty
abbrev pub or_else : Text → Text → Text
or_else text other = if is_empty text then other else text

-- the type is a book, or a part of one
abbrev pub is_book : Text → Bool
is_book kind = bytes_eq kind (codes "book") || bytes_eq kind (codes "inbook")

-- the type is `proceedings`
abbrev pub is_proceedings : Text → Bool
is_proceedings kind = bytes_eq kind (codes "proceedings")

-- the type is one whose entries may have an organization in the place of persons
abbrev pub is_corporate : Text → Bool
is_corporate kind = is_proceedings kind || bytes_eq kind (codes "manual")

-- the list of the persons by whom an entry is labelled: of a book the authors, or else the editors; of proceedings the editors; of
-- every other type the authors (alpha.bst: `calc.label`)
abbrev pub persons_of : Record → Text
persons_of r =
    if is_book r.kind_name then or_else (field_in r.fields (codes "author")) (field_in r.fields (codes "editor"))
    else if is_proceedings r.kind_name then field_in r.fields (codes "editor")
    else field_in r.fields (codes "author")

-- the organization, if the type is one that may have it in the place of persons
abbrev pub organization_of : Record → Text
organization_of r = if is_corporate r.kind_name then field_in r.fields (codes "organization") else []

-- ---- names

-- what is made of a value, if it is there; else why it is not
abbrev pub map_ok : {X Y F : Type 0} → (X → Y) → Result X F → Result Y F
map_ok make (Ok x) = Ok (make x)
map_ok make (Err fault) = Err fault

-- the value before these values; or why the value, or else why one of these, is refused
abbrev pub before : {Y F : Type 0} → Result Y F → Result (List Y) F → Result (List Y) F
before {Y} (Ok y) ys = map_ok (λ (list : List Y). y ∷ list) ys
before (Err fault) ys = Err fault

-- what is made of each member, in order; or why the first that is refused is
abbrev pub map_all : {X Y F : Type 0} → (X → Result Y F) → List X → Result (List Y) F
map_all make [] = Ok []
map_all make (x ∷ xs) = before (make x) (map_all make xs)

-- the names of a list, or that its braces do not balance
abbrev pub names_listed : Text → Result (List Text) NameFault
names_listed text = if balances text then Ok (names_of text) else Err UnbalancedName

-- the names, each taken apart; or why there are none
abbrev pub all_parts : Result (List Text) NameFault → Result (List Name) NameFault
all_parts (Ok names) = map_all parts_in names
all_parts (Err fault) = Err fault

-- the names of a list, each taken apart
abbrev pub names_in : Text → Result (List Name) NameFault
names_in text = all_parts (names_listed text)
