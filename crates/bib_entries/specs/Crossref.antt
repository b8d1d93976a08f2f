-- How the crossref text of an entry is kept.
use Rattle.std.specs.Prelude.{Option, None, Some}
use Rattle.bib_spec.specs.Text.{Text}
use Rattle.bib_entries.specs.declared.crossref.Held.{Held}
use Rattle.bib_entries.specs.declared.crossref.Held.TheVariants.{Nothing, Short, Long}

-- the crossref text that is kept, or none
abbrev pub text_of : Held → Option Text
text_of Nothing = None
text_of (Short text) = Some text
text_of (Long text) = Some text.value
