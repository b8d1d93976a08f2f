-- The names of a list as BibTeX takes them apart and prints them, and why not.
use Rattle.std.specs.Prelude.{Option, None, Some, Result, Ok, Err, if◌then◌else◌}
use Rattle.bib_spec.specs.Text.{Text}
use Rattle.bib_names.specs.Label.{balances}
use Rattle.bib_names.specs.declared.fault.NameFault.{NameFault}
use Rattle.bib_names.specs.declared.fault.NameFault.TheVariants.{TooManyCommas, UnbalancedName, BadTemplate}
use Rattle.bibtex_names.specs.Name.{parts_of}
use Rattle.bibtex_names.specs.Template.{Pattern, template_of}
use Rattle.bibtex_names.specs.Printing.{printed}
use Rattle.bibtex_names.specs.declared.name.Name.{Name}

-- the parts of a name; without parts, its commas are refused
abbrev pub given_parts : Option Name → Result Name NameFault
given_parts (Some parts) = Ok parts
given_parts None = Err TooManyCommas

-- the parts of a name, or why it is refused
abbrev pub parts_in : Text → Result Name NameFault
parts_in name = if balances name then given_parts (parts_of name) else Err UnbalancedName

-- the print of a name with these parts; or why there are no parts
abbrev pub printed_parts : Pattern → Result Name NameFault → Result Text NameFault
printed_parts t (Ok parts) = Ok (printed t parts)
printed_parts t (Err fault) = Err fault

-- the print of one name of a list by a template, or why the name is refused
abbrev pub printed_as_bibtex : Pattern → Text → Result Text NameFault
printed_as_bibtex t name = printed_parts t (parts_in name)

-- the template, or that there is none
abbrev pub given_template : Option Pattern → Result Pattern NameFault
given_template (Some t) = Ok t
given_template None = Err BadTemplate

-- the template that a text spells, or that it spells none
abbrev pub template_in : Text → Result Pattern NameFault
template_in text = given_template (template_of text)
