-- Labels and sort keys, as the style `alpha` makes them (alpha.bst).
use Rattle.std.specs.Prelude.{ℕ, ◌-◌, Bool, true, false, ◌&&◌, not, nat_lt, List, [], ◌∷◌, ◌++◌, length, take, drop, unwrap_or, Result, codes, if◌then◌else◌}
use Rattle.std.specs.List.{flat_map}
use Rattle.std.specs.Str.{bytes_eq}
use Rattle.bib_spec.specs.Text.{Text}
use Rattle.bib_spec.specs.Texts.{is_empty}
use Rattle.bib_spec.specs.Records.{Record}
use Rattle.bib_names.specs.declared.fault.NameFault.{NameFault}
use Rattle.bibtex_names.specs.Template.{Pattern, template_of}
use Rattle.bibtex_names.specs.Printing.{printed}
use Rattle.bibtex_names.specs.declared.name.Name.{Name}
use Rattle.bibtex_labels.specs.Fields.{field_in, persons_of, organization_of, names_in, map_ok, map_all}
use Rattle.bibtex_labels.specs.Order.{kept}
use Rattle.bibtex_labels.specs.Pieces.{text_length, text_prefix}
use Rattle.bibtex_labels.specs.Purified.{purified, sortified}
use Rattle.bibtex_labels.specs.declared.ordering.Labelled.{Labelled}

-- ---- the prints of names

-- the template that a text spells; each text below spells one
unfoldable pub spelled : Text → Pattern
spelled text = unwrap_or (template_of text) (record { front = []; groups = [] })

-- the initials of von and Last
unfoldable pub initials_template : Pattern
initials_template = spelled (codes "{v{}}{l{}}")

-- the words of Last
unfoldable pub last_template : Pattern
last_template = spelled (codes "{ll}")

-- the whole name
unfoldable pub whole_template : Pattern
whole_template = spelled (codes "{ff }{vv }{ll}{ jj}")

-- the whole name in the order in which names are sorted
unfoldable pub sorted_template : Pattern
sorted_template = spelled (codes "{vv{ } }{ll{ }}{  ff{ }}{  jj{ }}")

-- the templates by which a style prints names
pub record NameTemplates : Type 0 where
  pub initials : Pattern
  pub last : Pattern
  pub whole : Pattern
  pub sorted : Pattern

-- those of the style
abbrev pub alpha_templates : NameTemplates
alpha_templates = record { initials = initials_template; last = last_template; whole = whole_template; sorted = sorted_template }

-- the word that stands for further names
abbrev pub others : Text
others = codes "others"

-- ---- the letters of names: `format.lab.names`

-- what stands in a label for names that are not in it
abbrev pub etal : Text
etal = codes "{\\etalchar{+}}"

-- the initials of these names
abbrev pub initials_of : List Name → Text
initials_of names = flat_map (printed initials_template) names

-- the last of these names is `others`
abbrev pub ends_with_others : List Name → Bool
ends_with_others [] = false
ends_with_others (name ∷ []) = bytes_eq (printed whole_template name) others
ends_with_others (name ∷ next ∷ names) = ends_with_others (next ∷ names)

-- the letters of one name: its initials; if these are fewer than two text characters, the first three of Last
abbrev pub letters_of_one : Name → Text
letters_of_one name =
    let initials = printed initials_template name in
    if nat_lt (text_length initials) 2 then text_prefix 3 (printed last_template name) else initials

-- the letters of two names or more: the initials of up to four; of five or more names the initials of the first three, and `+`. A
-- last name `others` among up to four gives `+`, too.
abbrev pub letters_of_many : List Name → Text
letters_of_many names =
    if nat_lt 4 (length names) then initials_of (take 3 names) ++ etal
    else if ends_with_others names then initials_of (take (length names - 1) names) ++ etal
    else initials_of names

-- the letters of names
abbrev pub letters_of_names : List Name → Text
letters_of_names [] = []
letters_of_names (name ∷ []) = letters_of_one name
letters_of_names (name ∷ next ∷ names) = letters_of_many (name ∷ next ∷ names)

-- ---- the letters of a record: `author.key.label` and its like

-- a text without this word at its front: `chop.word`
abbrev pub without_front : Text → Text → Text
without_front word text = if bytes_eq (take (length word) text) word then drop (length word) text else text

-- the letters of a record without names: of the field `key`, or else of the organization, or else of the key by which it is cited
abbrev pub letters_without_names : Record → Text
letters_without_names r =
    let key = field_in r.fields (codes "key") in
    if not (is_empty key) then text_prefix 3 key
    else if not (is_empty (organization_of r)) then text_prefix 3 (without_front (codes "The ") (organization_of r))
    else take 3 r.key

-- the letters of a record with these names
abbrev pub letters_of : Record → List Name → Text
letters_of r names = if nat_lt 0 (length names) then letters_of_names names else letters_without_names r

-- ---- names in the sort key: `sort.format.names`

-- a name in the sort key; a last name `others` is `et al`
abbrev pub sorted_name : Bool → Name → Text
sorted_name is_last name =
    let text = printed sorted_template name in
    if is_last && bytes_eq text others then codes "et al" else sortified text

-- names in the sort key
abbrev pub sorted_names : List Name → Text
sorted_names [] = []
sorted_names (name ∷ []) = sorted_name true name
sorted_names (name ∷ next ∷ names) = sorted_name false name ++ (codes "   " ++ sorted_names (next ∷ names))

-- what stands in the sort key for the names of a record: without names the organization, or else the field `key`: `author.sort` and
-- its like
abbrev pub sorted_persons : Record → List Name → Text
sorted_persons r names =
    if nat_lt 0 (length names) then sorted_names names
    else if not (is_empty (organization_of r)) then sortified (without_front (codes "The ") (organization_of r))
    else sortified (field_in r.fields (codes "key"))

-- a title in the sort key, without its article: `sort.format.title`
abbrev pub sorted_title : Text → Text
sorted_title title =
    sortified (without_front (codes "A ") (without_front (codes "An ") (without_front (codes "The ") title)))

-- ---- labels

-- the names of the fields that labels are made of
abbrev pub label_names : List Text
label_names = codes "author" ∷ codes "editor" ∷ codes "key" ∷ codes "organization" ∷ codes "title" ∷ codes "year" ∷ []

-- the last bytes of a text, so many of them
abbrev pub last_bytes : ℕ → Text → Text
last_bytes n text = drop (length text - n) text

-- the label of a record with these letters: they, and the last two bytes of the year
abbrev pub label_with : Record → Text → Text
label_with r letters = kept (letters ++ last_bytes 2 (purified (field_in r.fields (codes "year"))))

-- the sort label of a record with these letters: they, and the last four bytes of the year, as they are sorted
abbrev pub sort_label_with : Record → Text → Text
sort_label_with r letters = kept (sortified (letters ++ last_bytes 4 (purified (field_in r.fields (codes "year")))))

-- the sort key of a record: its sort label, its names, its year and its title, four spaces between: `presort`
abbrev pub sort_key_with : Record → Text → Text → Text
sort_key_with r sort_label persons =
    kept (sort_label ++ (codes "    " ++ (persons ++ (codes "    " ++ (sortified (field_in r.fields (codes "year"))
    ++ (codes "    " ++ sorted_title (field_in r.fields (codes "title"))))))))

-- a record with these names as it is labelled, without a letter
abbrev pub labelled_by : Record → List Name → Labelled
labelled_by r names =
    let sort_label = sort_label_with r (letters_of r names) in
    record {
      label = label_with r (letters_of r names);
      sort_label = sort_label;
      sort_key = sort_key_with r sort_label (sorted_persons r names);
      key = r.key;
    }

-- a record as it is labelled, without a letter; or why one of its names is refused
abbrev pub labelled : Record → Result Labelled NameFault
labelled r = map_ok (labelled_by r) (names_in (persons_of r))

-- records as they are labelled, in order; or why the first that is refused is
abbrev pub all_labelled : List Record → Result (List Labelled) NameFault
all_labelled records = map_all labelled records
