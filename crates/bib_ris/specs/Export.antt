-- Entries of a file as RIS. (dialect)
use Rattle.std.specs.Prelude.{ℕ, List, map, filter_map}
use Rattle.bib_spec.specs.Text.{Text}
use Rattle.bib_spec.specs.Records.{EntryTexts, expanded}
use Rattle.ris_text.specs.Writing.{ris_text}
use Rattle.ris_format.specs.Mapping.{ris}

-- the text of the RIS records of these entries, each with what it inherits at this depth
abbrev pub entries_ris : ℕ → List EntryTexts → List ℕ → Text
entries_ris depth entries list = ris_text (map ris (filter_map (expanded depth entries) list))
