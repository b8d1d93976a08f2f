-- What RIS leaves out of the entries of a file. (dialect)
use Rattle.std.specs.Prelude.{ℕ, List, ◌++◌, filter_map, codes}
use Rattle.std.specs.List.{flat_map}
use Rattle.bib_spec.specs.Text.{Text}
use Rattle.bib_spec.specs.Records.{EntryTexts, Record, expanded}
use Rattle.ris_format.specs.Mapping.{dropped}

-- a line with a key, a tab, and the name of a field
abbrev pub dropped_line : Text → Text → Text
dropped_line key name = key ++ (codes "\t" ++ (name ++ codes "\n"))

-- a line for each field of a record that has a text of which RIS has no line
abbrev pub dropped_lines : Record → Text
dropped_lines entry = flat_map (dropped_line entry.key) (dropped entry)

-- the lines of these entries, each with what it inherits at this depth
abbrev pub entries_dropped : ℕ → List EntryTexts → List ℕ → Text
entries_dropped depth entries list = flat_map dropped_lines (filter_map (expanded depth entries) list)
