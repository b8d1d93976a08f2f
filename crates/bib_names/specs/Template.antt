-- Templates, and how they are spelled.
use Rattle.std.specs.Prelude.{ℕ, ◌≡◌, ◌&&◌, not, Bool, true, List, [], ◌∷◌, ◌++◌, Option, None, Some}
use Rattle.std.specs.List.{flat_map, list_all, AllByRecursion}
use Rattle.std.specs.Char.{is_ascii_alphabetic}
use Rattle.bib_spec.specs.Bytes.{open_brace, close_brace}
use Rattle.bib_spec.specs.Text.{Text}
use Rattle.bib_names.specs.Marks.{is_brace}
use Rattle.bib_names.specs.declared.template.Part.{Part}
use Rattle.bib_names.specs.declared.template.Part.TheVariants.{First, Von, Last, Jr}
use Rattle.bib_names.specs.declared.template.Form.{Form}
use Rattle.bib_names.specs.declared.template.Form.TheVariants.{Initials, Words}
use Rattle.bib_names.specs.declared.template.Group.{Group}

-- a template: the text before the first group, and groups, each with the text after it
pub record Pattern : Type 0 where
  pub front : Text
  pub groups : List Group

-- a byte that a template may have outside of groups, and between words (dialect)
abbrev pub is_no_brace : ℕ → Bool
is_no_brace byte = not (is_brace byte)

-- a byte that a group may have before and after its letters: no brace and no letter (dialect)
abbrev pub is_ornament : ℕ → Bool
is_ornament byte = is_no_brace byte && not (is_ascii_alphabetic byte)

-- the letter that names a part: f, v, l or j (btxhak 5.4)
abbrev pub letter_of : Part → ℕ
letter_of First = 102
letter_of Von = 118
letter_of Last = 108
letter_of Jr = 106

-- one letter prints initials, two print words (btxhak 5.4)
abbrev pub letters_of : Part → Form → Text
letters_of part Initials = letter_of part ∷ []
letters_of part Words = letter_of part ∷ letter_of part ∷ []

-- the text between words as a template has it: in braces, or nothing if it is not given (btxhak 5.4)
abbrev pub between_bytes : Option Text → Text
between_bytes None = []
between_bytes (Some between) = open_brace ∷ between ++ close_brace ∷ []

-- the bytes of a group `{pre letters{between}post}` after its opening brace, and the text after the group (btxhak 5.4)
abbrev pub group_inside : Group → Text
group_inside g = g.pre ++ (letters_of g.part g.form ++ (between_bytes g.between ++ (g.post ++ (close_brace ∷ g.trail))))

-- the bytes of a group, and the text after it
abbrev pub group_bytes : Group → Text
group_bytes g = open_brace ∷ group_inside g

-- the bytes of a template: the text before the first group, and each group with the text after it
abbrev pub spelling : Pattern → Text
spelling t = t.front ++ flat_map group_bytes t.groups

-- the text between words, if it is given, has no brace (dialect)
abbrev pub is_between : Option Text → Bool
is_between None = true
is_between (Some between) = list_all is_no_brace between

-- a group of the grammar: no brace and no letter beside its letters, no brace between words, none in the text after it (dialect)
pub record IsGroup (g : Group) : Type 0 where
  pub pre : list_all is_ornament g.pre ≡ true
  pub between : is_between g.between ≡ true
  pub post : list_all is_ornament g.post ≡ true
  pub trail : list_all is_no_brace g.trail ≡ true

-- the grammar of templates (dialect)
pub record IsTemplate (t : Pattern) : Type 0 where
  pub front : list_all is_no_brace t.front ≡ true
  pub groups : AllByRecursion IsGroup t.groups

-- no bytes spell two templates
abbrev pub OneTemplate : Type 0
OneTemplate = (s t : Pattern) → IsTemplate s → IsTemplate t → spelling s ≡ spelling t → s ≡ t
