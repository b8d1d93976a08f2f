-- The names that labels are made of, and their prints.
use Rattle.std.specs.Prelude.{Bool, nat_lt, [], ◌++◌, length, Option, None, Some, if◌then◌else◌}
use Rattle.bib_spec.specs.Text.{Text}
use Rattle.bib_names.specs.Name.{parts_of}
use Rattle.bib_names.specs.Special.{text_chars}
use Rattle.bib_names.specs.Printing.{printed_group}
use Rattle.bib_names.specs.Label.{balances, group, first_three}
use Rattle.bib_names.specs.declared.name.Name.{Name}
use Rattle.bib_names.specs.declared.template.Part.TheVariants.{Von, Last}
use Rattle.bib_names.specs.declared.template.Form.TheVariants.{Initials, Words}

-- the parts of a name, none if the name is refused
abbrev pub read_name : Text → Option Name
read_name name = if balances name then parts_of name else None

-- the print of a name by `{v{}}{l{}}`
abbrev pub initials_printed : Name → Text
initials_printed name = printed_group (group Von Initials (Some [])) name.von ++ printed_group (group Last Initials (Some [])) name.last

-- the print of a name by `{ll}`
abbrev pub last_printed : Name → Text
last_printed name = printed_group (group Last Words None) name.last

-- the text has fewer than two text characters
abbrev pub is_one_letter : Text → Bool
is_one_letter text = nat_lt (length (text_chars text)) 2

-- the letters of a name that is not refused: its initials; if these are fewer than two text characters, the first three of Last
abbrev pub letters_printed : Name → Text
letters_printed name = if is_one_letter (initials_printed name) then first_three (last_printed name) else initials_printed name
